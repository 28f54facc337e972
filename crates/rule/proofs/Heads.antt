-- Roots in use compared: as declared at done, and in and out owned in the head.
use Rattle.std.proofs.Common.{◌≡◌, ℕ, zero, suc, Bool, true, false, ◌⊎◌, List, [], ◌∷◌, length, Some, None, Option, sym, refl, ap, ◌∙◌, subst, inl, ⊎_elim, arith}
use Rattle.std.proofs.lemmas.Bool.{or_cases, or_left, or_right, false≢true}
use Rattle.bench.specs.Tests.{in_use}
use Rattle.rule.specs.declared.fault.Flaw.{Flaw}
use Rattle.rule.specs.declared.fault.Flaw.TheVariants.{NotOwned, NotAsDeclared}
use Rattle.rule.specs.Sheet.{Head}
use Rattle.rule.specs.Check.{marked, differing, either, differs, done_flaw, head_flaw}
use Rattle.rule.proofs.Firsts.{some_none}

pub same_all : (r : ℕ) (xs ys : List Bool) → length xs ≡ length ys → differing r xs ys ≡ None → xs ≡ ys
same_all r [] [] l e = refl
same_all r [] (y ∷ ys) l e = absurd (omega arith)
same_all r (x ∷ xs) [] l e = absurd (omega arith)
same_all r (true ∷ xs) (true ∷ ys) l e = ap (λ z. true ∷ z) (same_all (suc r) xs ys (omega arith) e)
same_all r (false ∷ xs) (false ∷ ys) l e = ap (λ z. false ∷ z) (same_all (suc r) xs ys (omega arith) e)
same_all r (true ∷ xs) (false ∷ ys) l e = absurd (some_none r e)
same_all r (false ∷ xs) (true ∷ ys) l e = absurd (some_none r e)

no_differing : (r : ℕ) (xs : List Bool) → differing r xs xs ≡ None
no_differing r [] = refl
no_differing r (true ∷ xs) = no_differing (suc r) xs
no_differing r (false ∷ xs) = no_differing (suc r) xs

none_differs : (o : Option ℕ) (f : ℕ → Flaw) → differs o f ≡ None → o ≡ None
none_differs None f e = refl
none_differs (Some r) f e = absurd (some_none (f r) e)

pub done_same : (out u : List Bool) → length u ≡ length out → done_flaw out u ≡ None → u ≡ out
done_same out u l e = same_all 0 u out l (none_differs (differing 0 u out) NotAsDeclared e)

pub same_done : (out u : List Bool) → u ≡ out → done_flaw out u ≡ None
same_done out u e = ap (λ o. differs o NotAsDeclared) (ap (λ z. differing 0 z out) e ∙ no_differing 0 out)

length_either : (xs ys : List Bool) → length (either xs ys) ≡ length xs
length_either [] ys = refl
length_either (x ∷ xs) [] = refl
length_either (x ∷ xs) (y ∷ ys) = ap suc (length_either xs ys)

either_left : (xs ys : List Bool) (r : ℕ) → in_use xs r ≡ true → in_use (either xs ys) r ≡ true
either_left [] ys r e = e
either_left (x ∷ xs) [] r e = e
either_left (x ∷ xs) (y ∷ ys) zero e = or_left x y e
either_left (x ∷ xs) (y ∷ ys) (suc r) e = either_left xs ys r e

either_right : (xs ys : List Bool) (r : ℕ) → length ys ≡ length xs → in_use ys r ≡ true → in_use (either xs ys) r ≡ true
either_right [] [] r l e = e
either_right [] (y ∷ ys) r l e = absurd (omega arith)
either_right (x ∷ xs) [] r l e = absurd (false≢true e)
either_right (x ∷ xs) (y ∷ ys) zero l e = or_right x y e
either_right (x ∷ xs) (y ∷ ys) (suc r) l e = either_right xs ys r (omega arith) e

either_cases : (xs ys : List Bool) (r : ℕ) → in_use (either xs ys) r ≡ true → (in_use xs r ≡ true) ⊎ (in_use ys r ≡ true)
either_cases [] ys r e = inl e
either_cases (x ∷ xs) [] r e = inl e
either_cases (x ∷ xs) (y ∷ ys) zero e = or_cases x y e
either_cases (x ∷ xs) (y ∷ ys) (suc r) e = either_cases xs ys r e

either_within : (xs ys : List Bool) → length xs ≡ length ys → ((r : ℕ) → in_use xs r ≡ true → in_use ys r ≡ true) → either xs ys ≡ ys
either_within [] [] l h = refl
either_within [] (y ∷ ys) l h = absurd (omega arith)
either_within (x ∷ xs) [] l h = absurd (omega arith)
either_within (true ∷ xs) (y ∷ ys) l h = λ i. sym (h 0 refl) i ∷ either_within xs ys (omega arith) (λ r. h (suc r)) i
either_within (false ∷ xs) (y ∷ ys) l h = ap (λ z. y ∷ z) (either_within xs ys (omega arith) (λ r. h (suc r)))

-- each of e and l is in o
abbrev pub Within : List Bool → List Bool → List Bool → Type 0
Within e l o = (r : ℕ) → (in_use e r ≡ true) ⊎ (in_use l r ≡ true) → in_use o r ≡ true

module _ (e l o : List Bool) (same_l : length l ≡ length e) (same_o : length o ≡ length e) where
  within : differs (differing 0 (either (either e l) o) o) NotOwned ≡ None → Within e l o
  within h r c =
      let long : length (either (either e l) o) ≡ length o = omega (arith, length_either (either e l) o, length_either e l) in
      let same = same_all 0 (either (either e l) o) o long (none_differs (differing 0 (either (either e l) o) o) NotOwned h) in
      let one : in_use (either e l) r ≡ true = ⊎_elim (either_left e l r) (either_right e l r same_l) c in
      subst (λ z. in_use z r ≡ true) same (either_left (either e l) o r one)

  not_differing : Within e l o → differs (differing 0 (either (either e l) o) o) NotOwned ≡ None
  not_differing h =
      let same = either_within (either e l) o (omega (arith, length_either e l)) (λ r i. h r (either_cases e l r i)) in
      ap (λ z. differs z NotOwned) (ap (λ z. differing 0 z o) same ∙ no_differing 0 o)

pub head_owned : (h : Head) → head_flaw h ≡ None → Within (marked h.enter) (marked h.leave) (marked h.own)
head_owned h = within (marked h.enter) (marked h.leave) (marked h.own) refl refl

pub owned_head : (h : Head) → Within (marked h.enter) (marked h.leave) (marked h.own) → head_flaw h ≡ None
owned_head h = not_differing (marked h.enter) (marked h.leave) (marked h.own) refl refl
