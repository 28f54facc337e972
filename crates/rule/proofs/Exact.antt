-- The check passes exactly the rules that the sheet allows.
use Rattle.std.proofs.Common.{◌≡◌, ℕ, suc, ◌+◌, ◌≤◌, ltb, List, [], ◌∷◌, ◌++◌, length, Some, None, Ok, Err, Option, Result, sym, refl, ap, ◌∙◌, subst, arith}
use Rattle.std.proofs.lemmas.Bool.{cond_both, cond-false, ltb-false, le-ltb}
use Rattle.bench.specs.Tests.{first}
use Rattle.rule.specs.declared.fault.Flaw.{Flaw}
use Rattle.rule.specs.declared.fault.Spot.{Spot}
use Rattle.rule.specs.declared.fault.RuleFault.TheVariants.{TooLong, Flawed}
use Rattle.rule.specs.Sheet.{Head, written}
use Rattle.rule.specs.Read.{head_at, tree}
use Rattle.rule.specs.Check.{marked, head_flaw, size, at_place, Claims, tests, verdict, headed, by_head, faulted, answer}
use Rattle.rule.specs.Allowed.{Allowed, PassesExactly}
use Rattle.rule.proofs.Bytes.{Bytes, bytes_right}
use Rattle.rule.proofs.Reading.{head_bytes, head_read, head_written}
use Rattle.rule.proofs.Firsts.{first_cons, cons_first, first_placed}
use Rattle.rule.proofs.Heads.{head_owned, owned_head}
use Rattle.rule.proofs.Blocks.{Clear, BlockOf, found, passing}

abbrev Passed : {E : Type 0} → Result ℕ E → ℕ → Type 0
Passed (Ok m) n = m ≡ n
Passed (Err e) n = ⊥

passed : {E : Type 0} (r : Result ℕ E) (n : ℕ) → r ≡ Ok n → Passed r n
passed r n e = subst (λ z. Passed z n) (sym e) refl

none_first : (m n : ℕ) (o : Option Spot) → faulted (verdict m o) ≡ Ok n → (o ≡ None) × (m ≡ n)
none_first m n None e = (refl, passed (Ok m) n e)
none_first m n (Some s) e = absurd (passed (Err (Flawed s)) n e)

abbrev pub claims : Head → Claims
claims h = record { own = marked h.own; out = marked h.leave }

allowed_headed : (xs : List ℕ) (h : Head) (rest : List ℕ) (n : ℕ) → Bytes xs → length xs ≤ 4096 → xs ≡ head_bytes h ++ rest → faulted (headed h rest) ≡ Ok n → Allowed xs n
allowed_headed xs h rest n b short e a =
    let t = tests (claims h) (tree 10 rest) 1 0 (marked h.enter) in
    let p = none_first (1 + size (tree 10 rest)) n (first (at_place 0 (head_flaw h) ∷ t)) a in
    let q = first_cons (at_place 0 (head_flaw h)) t p.0 in
    let g : BlockOf (claims h) rest (tree 10 rest) 1 0 (marked h.enter) =
    found (claims h) (suc (length rest)) 10 rest 1 0 (marked h.enter) (omega arith) (bytes_right (head_bytes h) rest (subst Bytes e b)) refl q.1 in
    let m = p.1 in
    let count = g.count in
    let few = g.few in
    record {
      head = h;
      block = g.block;
      bytes = e ∙ ap (λ z. head_bytes h ++ z) g.bytes;
      count = omega arith;
      short = short;
      few = omega arith;
      shallow = g.shallow;
      owned = head_owned h (first_cons (head_flaw h) [] (first_placed 0 (head_flaw h ∷ []) (cons_first (at_place 0 (head_flaw h)) [] q.0 refl))).0;
      fits = g.fits;
      ways = g.ways;
    }

allowed_by : (xs : List ℕ) (n : ℕ) (r : Result (Head × List ℕ) Flaw) → Bytes xs → length xs ≤ 4096 → head_at xs ≡ r → faulted (by_head r) ≡ Ok n → Allowed xs n
allowed_by xs n (Ok p) b short is a = allowed_headed xs p.0 p.1 n b short (head_written xs b p.0 p.1 is) a
allowed_by xs n (Err e) b short is a = absurd (passed (Err (Flawed (record { place = 0; flaw = e }))) n a)

allowed : (xs : List ℕ) (n : ℕ) → Bytes xs → answer xs ≡ Ok n → Allowed xs n
unfolding answer
allowed xs n b = cond_both (ltb 4096 (length xs)) (Err TooLong) (faulted (by_head (head_at xs))) (λ r. r ≡ Ok n → Allowed xs n)
    (λ _ e. absurd (passed (Err TooLong) n e))
    (λ l e. allowed_by xs n (head_at xs) b (ltb-false 4096 (length xs) l) refl e)

passes : (xs : List ℕ) (n : ℕ) → Allowed xs n → answer xs ≡ Ok n
unfolding answer
passes xs n a =
    let h = a.head in
    let rest = written a.block in
    let read : head_at xs ≡ Ok (h, rest) = ap head_at a.bytes ∙ head_read h rest in
    let count = a.count in
    let few = a.few in
    let t = tests (claims h) (tree 10 rest) 1 0 (marked h.enter) in
    let good = passing (claims h) a.block 10 1 0 (marked h.enter) (omega arith) a.shallow a.fits a.ways in
    let clear : first (at_place 0 (head_flaw h) ∷ t) ≡ None = cons_first (at_place 0 (head_flaw h)) t (ap (at_place 0) (owned_head h a.owned)) good.0 in
    let size' = good.1 in
    let same : 1 + size (tree 10 rest) ≡ n = omega arith in
    cond-false _ _ _ (le-ltb 4096 (length xs) a.short)
    ∙ ap (λ r. faulted (by_head r)) read
    ∙ (λ i. faulted (verdict (same i) (clear i)))

pub passes_exactly : PassesExactly
passes_exactly xs b n = (allowed xs n b, passes xs n)

-- the block behind the head of what is passed passes its tests
pub block_clear : (xs : List ℕ) (h : Head) (rest : List ℕ) (n : ℕ) → head_at xs ≡ Ok (h, rest) → answer xs ≡ Ok n → Clear (claims h) (tree 10 rest) 1 0 (marked h.enter)
unfolding answer
block_clear xs h rest n is = cond_both (ltb 4096 (length xs)) (Err TooLong) (faulted (by_head (head_at xs))) (λ r. r ≡ Ok n → Clear (claims h) (tree 10 rest) 1 0 (marked h.enter))
    (λ _ e. absurd (passed (Err TooLong) n e))
    (λ _ e.
    let t = tests (claims h) (tree 10 rest) 1 0 (marked h.enter) in
    let p = none_first (1 + size (tree 10 rest)) n (first (at_place 0 (head_flaw h) ∷ t)) (ap (λ r. faulted (by_head r)) (sym is) ∙ e) in
    (first_cons (at_place 0 (head_flaw h)) t p.0).1)
