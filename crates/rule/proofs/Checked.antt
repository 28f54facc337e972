-- What the check answers for the bytes of a block, by the record that is read at their front.
use Rattle.std.proofs.Common.{◌≡◌, ℕ, ◌+◌, ◌-◌, ◌<◌, ◌≤◌, Bool, true, false, eqb, List, [], ◌∷◌, length, IfOk, MatchResult, IsErrAnd, Ok, Err, Result, sym, refl, ap, ◌∙◌, subst, arith, Bor, true-eqb, false-eqb}
use Rattle.std.proofs.lemmas.Bool.{false≢true}
use Rattle.rule.specs.declared.fault.Flaw.{Flaw}
use Rattle.rule.specs.declared.fault.Flaw.TheVariants.{TooMany, Trailing}
use Rattle.rule.specs.declared.fault.Spot.{Spot}
use Rattle.rule.specs.declared.record.Record.{Record}
use Rattle.rule.specs.declared.record.Record.TheVariants.{Make, Copy, Release, Rebuild, Set, Sum, Difference, Look, Match, Test, Done}
use Rattle.rule.specs.Sheet.{Step, make, copy, release, rebuild, put, sum, difference, look, Fork}
use Rattle.rule.specs.Read.{Rec, plain, branch, last, closes, record_at, Tree, step, fork, done, broken, closed, before_arms, grown_at, grown, tree}
use Rattle.rule.specs.Shown.{shown}
use Rattle.rule.specs.Check.{Claims, done_flaw, at_place, verdict, block_answer}
use Rattle.rule.proofs.Grown.{tree_step, tree_err, tree_ok}
use Rattle.rule.proofs.Walked.{place_of, answer_many, answer_broken, answer_done}

abbrev pub spot : ℕ → Flaw → Spot
spot p e = record { place = p; flaw = e }

place_closed : (p : ℕ) (t : Tree) (rest : List ℕ) → place_of t ≡ p → place_of (closed p t rest) ≡ p
place_closed p t [] e = e
place_closed p t (x ∷ xs) e = refl

place_grown : (p n : ℕ) (o : Result (Rec × List ℕ) Flaw) → place_of (grown tree p n o) ≡ p
place_grown p n (Ok (plain s, rest)) = refl
place_grown p n (Ok (branch f ya na, rest)) = place_closed p _ rest refl
place_grown p n (Ok (last, rest)) = place_closed p (done p) rest refl
place_grown p n (Err e) = refl

open_tail : (p : ℕ) (b : Tree) (rest : List ℕ) → false ≡ eqb (length rest) 0 → closed p b rest ≡ broken p Trailing
open_tail p b [] e = absurd (false-eqb 0 0 e refl)
open_tail p b (x ∷ xs) e = refl

no_tail : (p : ℕ) (b : Tree) (rest : List ℕ) → true ≡ eqb (length rest) 0 → closed p b rest ≡ b
no_tail p b [] e = refl
no_tail p b (x ∷ xs) e = absurd (omega (arith, true-eqb (length (x ∷ xs)) 0 e))

module _ (h : Claims) (p : ℕ) (xs : List ℕ) (n d : ℕ) (u : List Bool) where
  abbrev of : Tree → Result ℕ Spot
  of t = block_answer h t n d u

  pub many : 1024 ≤ n → of (tree p xs) ≡ Err (spot p TooMany)
  many l = answer_many h (tree p xs) n d u l ∙ ap (λ q. Err (spot q TooMany)) (ap place_of (tree_step p xs) ∙ place_grown p (length xs) (record_at xs))

  pub cut : (e : Flaw) → n < 1024 → ◌≡◌ {A = Result (Rec × List ℕ) Flaw} (Err e) (record_at xs) → of (tree p xs) ≡ Err (spot p e)
  cut e l is = ap of (tree_err p xs e (sym is)) ∙ answer_broken h n d u l p e

  module _ (r : Rec) (rest : List ℕ) (is : ◌≡◌ {A = Result (Rec × List ℕ) Flaw} (Ok (r, rest)) (record_at xs)) where
    grows : (q : Rec) → r ≡ q → tree p xs ≡ grown_at tree p (length xs) q rest
    grows q e = tree_ok p xs r rest (sym is) ∙ ap (λ (x : Rec). grown_at tree p (length xs) x rest) e

    pub trailing : true ≡ closes r → n < 1024 → false ≡ eqb (length rest) 0 → of (tree p xs) ≡ Err (spot p Trailing)
    trailing c l z = by r refl c
      where
        by : (q : Rec) → r ≡ q → true ≡ closes q → of (tree p xs) ≡ Err (spot p Trailing)
        by (plain s) e c = absurd (false≢true (sym c))
        by (branch f ya na) e c = ap of (grows (branch f ya na) e ∙ open_tail p _ rest z) ∙ answer_broken h n d u l p Trailing
        by last e c = ap of (grows last e ∙ open_tail p _ rest z) ∙ answer_broken h n d u l p Trailing

    pub forked : (f : Fork) (ya na : List ℕ) → r ≡ branch f ya na → true ≡ eqb (length rest) 0 → of (tree p xs) ≡ of (fork p f (tree (p + before_arms f) ya) (tree (p + before_arms f + length ya) na))
    forked f ya na e z = ap of (grows (branch f ya na) e ∙ no_tail p _ rest z)

    pub ended : r ≡ last → n < 1024 → true ≡ eqb (length rest) 0 → of (tree p xs) ≡ verdict (n + 1) (at_place p (done_flaw h.out u))
    ended e l z = ap of (grows last e ∙ no_tail p _ rest z) ∙ answer_done h n d u l p

    pub stepped : (s : Step) → r ≡ plain s → of (tree p xs) ≡ of (step p s (tree (p + (length xs - length rest)) rest))
    stepped s e = ap of (grows (plain s) e)

-- a record that is no closing one is a step
pub is_plain : (rec : Record) → ((r k s a b : ℕ) (ya na : Bor (List ℕ)) → rec ≡ Match r k s a b ya na → ⊥) → ((x y : ℕ) (ya na : Bor (List ℕ)) → rec ≡ Test x y ya na → ⊥) → (rec ≡ Done → ⊥) → (s : Step) × (shown rec ≡ plain s)
is_plain (Make d k s a b) m t e = (make d k s a b, refl)
is_plain (Copy s d) m t e = (copy s d, refl)
is_plain (Release r) m t e = (release r, refl)
is_plain (Rebuild r k s a b) m t e = (rebuild r k s a b, refl)
is_plain (Set s v) m t e = (put s v, refl)
is_plain (Sum to x y) m t e = (sum to x y, refl)
is_plain (Difference to x y) m t e = (difference to x y, refl)
is_plain (Look r s) m t e = (look r s, refl)
is_plain (Match r k s a b ya na) m t e = absurd (m r k s a b ya na refl)
is_plain (Test x y ya na) m t e = absurd (t x y ya na refl)
is_plain Done m t e = absurd (e refl)

-- what a closure, of which L is known, makes of the flaw of a result
module _ {A : Type 0} {o : Result A Flaw} {r : Result A Spot} (L : Flaw → Spot → Type 0) where
  pub mapped_ok : {x : A} → MatchResult o (λ y. r ≡ Ok y) (λ e. IsErrAnd r (L e)) → r ≡ Ok x → o ≡ Ok x
  mapped_ok {x} = by o
    where
      by : (q : Result A Flaw) → MatchResult q (λ y. r ≡ Ok y) (λ e. IsErrAnd r (L e)) → r ≡ Ok x → q ≡ Ok x
      by (Ok y) m e = let z : ◌≡◌ {A = Result A Spot} (Ok y) (Ok x) = sym m ∙ e in cc
      by (Err f) m e = absurd (subst (λ (q : Result A Spot). IsErrAnd q (L f)) e m)

  pub mapped_err : {s : Spot} → MatchResult o (λ y. r ≡ Ok y) (λ e. IsErrAnd r (L e)) → r ≡ Err s → (e : Flaw) × (o ≡ Err e) × L e s
  mapped_err {s} = by o
    where
      by : (q : Result A Flaw) → MatchResult q (λ y. r ≡ Ok y) (λ e. IsErrAnd r (L e)) → r ≡ Err s → (e : Flaw) × (q ≡ Err e) × L e s
      by (Ok y) m e = absurd (let z : Ok y ≡ Err s = sym m ∙ e in cc)
      by (Err f) m e = (f, refl, subst (λ (q : Result A Spot). IsErrAnd q (L f)) e m)

-- a refusal counts nothing
pub no_count : {r : Result ℕ Spot} {x : Spot} (P : ℕ → Type 0) → r ≡ Err x → IfOk r P
no_count P e = subst (λ (s : Result ℕ Spot). IfOk s P) (sym e) tt
