-- What roots name, emptied and filled, and under other numbers.
use Rattle.std.proofs.Common.{◌≡◌, ℕ, zero, suc, ◌+◌, ◌<◌, List, [], ◌∷◌, ◌++◌, map, length, set, Some, None, Option, sym, refl, ap, ◌∙◌, ⊎_elim, arith, length-set}
use lib.ListN.{get_or-map}
use Rattle.std.proofs.lemmas.List.{map-set}
use Rattle.store.specs.Numbers.{hit, times, In, opt}
use Rattle.store.specs.Rooted.{root_at, named}
use Rattle.store.specs.NumbersLemmas.{hit_cases, hit_self, times_append}
use Rattle.store.specs.Pile.{none_some}
use Rattle.bench.specs.Machine.{spend, spent, taken, filled}
use Rattle.bench.specs.Picture.{root_by}
use Rattle.bench.specs.Standing.{Room}

module _ (d : ℕ) where
  pub named_set : (slots : List (Option ℕ)) (r : ℕ) (o : Option ℕ) → r < length slots → times d (named (set slots r o)) + times d (opt (root_at slots r)) ≡ times d (named slots) + times d (opt o)
  named_set [] r o h = absurd (omega arith)
  named_set (s ∷ ss) zero o h = omega (arith, times_append d (opt s) (named ss), times_append d (opt o) (named ss))
  named_set (s ∷ ss) (suc r) o h = omega (arith, named_set ss r o (omega arith), times_append d (opt s) (named ss), times_append d (opt s) (named (set ss r o)))

  -- there need be no such root
  pub named_spend : (slots : List (Option ℕ)) (r : ℕ) → times d (named (spend slots r)) + times d (opt (root_at slots r)) ≡ times d (named slots)
  named_spend [] r = omega arith
  named_spend (s ∷ ss) zero = omega (arith, times_append d (opt s) (named ss))
  named_spend (s ∷ ss) (suc r) = omega (arith, named_spend ss r, times_append d (opt s) (named ss), times_append d (opt s) (named (spend ss r)))

  pub named_spent : (slots : List (Option ℕ)) (rs : List ℕ) → times d (named (spent slots rs)) + times d (taken slots rs) ≡ times d (named slots)
  named_spent slots [] = omega arith
  named_spent slots (r ∷ rs) = omega (arith, named_spend slots r, named_spent (spend slots r) rs, times_append d (opt (root_at slots r)) (taken (spend slots r) rs))

  -- an empty root is filled
  pub named_fill : (slots : List (Option ℕ)) (r c : ℕ) → r < length slots → root_at slots r ≡ None → times d (named (set slots r (Some c))) ≡ times d (named slots) + hit d c
  named_fill slots r c h e = omega (arith, named_set slots r (Some c) h, ap (λ o. times d (opt o)) e)

  pub named_filled : (slots : List (Option ℕ)) (rs ns : List ℕ) → Room slots rs ns → times d (named (filled slots rs ns)) ≡ times d (named slots) + times d ns
  named_filled slots [] [] f = omega arith
  named_filled slots [] (n ∷ ns) f = absurd f
  named_filled slots (r ∷ rs) [] f = absurd f
  named_filled slots (r ∷ rs) (n ∷ ns) f = omega (arith, named_fill slots r n f.0 f.1, named_filled (set slots r (Some n)) rs ns f.2)

-- a root in use is there, and what it names is named
pub root_there : (slots : List (Option ℕ)) (r c : ℕ) → root_at slots r ≡ Some c → r < length slots
root_there [] r c e = none_some e
root_there (s ∷ ss) zero c e = omega arith
root_there (s ∷ ss) (suc r) c e = omega (arith, root_there ss r c e)

pub root_named : (slots : List (Option ℕ)) (r c : ℕ) → root_at slots r ≡ Some c → In c (named slots)
root_named slots r c e = omega (arith, named_spend c slots r, ap (λ o. times c (opt o)) e, hit_self c)

pub length_spent : (slots : List (Option ℕ)) (rs : List ℕ) → length (spent slots rs) ≡ length slots
length_spent slots [] = refl
length_spent slots (r ∷ rs) = length_spent (spend slots r) rs ∙ length-set slots r None

-- what is emptied is empty, and stays so
pub spend_none : (slots : List (Option ℕ)) (r : ℕ) → root_at (spend slots r) r ≡ None
spend_none [] r = refl
spend_none (s ∷ ss) zero = refl
spend_none (s ∷ ss) (suc r) = spend_none ss r

spend_keeps : (slots : List (Option ℕ)) (s r : ℕ) → root_at slots r ≡ None → root_at (spend slots s) r ≡ None
spend_keeps [] s r e = refl
spend_keeps (x ∷ xs) zero zero e = refl
spend_keeps (x ∷ xs) zero (suc r) e = e
spend_keeps (x ∷ xs) (suc s) zero e = e
spend_keeps (x ∷ xs) (suc s) (suc r) e = spend_keeps xs s r e

pub spent_keeps : (slots : List (Option ℕ)) (rs : List ℕ) (r : ℕ) → root_at slots r ≡ None → root_at (spent slots rs) r ≡ None
spent_keeps slots [] r e = e
spent_keeps slots (s ∷ rs) r e = spent_keeps (spend slots s) rs r (spend_keeps slots s r e)

-- Under other numbers.
module _ (f : ℕ → ℕ) where
  pub in_by : (xs : List ℕ) (c : ℕ) → In c xs → In (f c) (map f xs)
  in_by [] c h = absurd (omega arith)
  in_by (x ∷ xs) c h = ⊎_elim (λ p. omega (arith, hit_self (f x), ap (λ i. hit (f i) (f x)) p.0)) (λ p. omega (arith, in_by xs c (omega (arith, p.1)))) (hit_cases c x)

  pub by_in : (xs : List ℕ) (i : ℕ) → In i (map f xs) → (c : ℕ) × In c xs × (f c ≡ i)
  by_in [] i h = absurd (omega arith)
  by_in (x ∷ xs) i h = ⊎_elim
      (λ p. (x, omega (arith, hit_self x), sym p.0))
      (λ p. let r = by_in xs i (omega (arith, p.1)) in (r.0, omega (arith, r.1), r.2))
      (hit_cases i (f x))

  opt_by : (o : Option ℕ) (xs : List ℕ) → opt (root_by f o) ++ map f xs ≡ map f (opt o ++ xs)
  opt_by None xs = refl
  opt_by (Some c) xs = refl

  pub named_by : (slots : List (Option ℕ)) → named (map (root_by f) slots) ≡ map f (named slots)
  named_by [] = refl
  named_by (s ∷ ss) = ap (λ l. opt (root_by f s) ++ l) (named_by ss) ∙ opt_by s (named ss)

  pub root_at_by : (slots : List (Option ℕ)) (r : ℕ) → root_at (map (root_by f) slots) r ≡ root_by f (root_at slots r)
  root_at_by slots r = get_or-map (root_by f) slots r None

  pub spent_by : (slots : List (Option ℕ)) (rs : List ℕ) → spent (map (root_by f) slots) rs ≡ map (root_by f) (spent slots rs)
  spent_by slots [] = refl
  spent_by slots (r ∷ rs) = ap (λ l. spent l rs) (sym (map-set (root_by f) slots r None)) ∙ spent_by (spend slots r) rs

  pub taken_by : (slots : List (Option ℕ)) (rs : List ℕ) → taken (map (root_by f) slots) rs ≡ map f (taken slots rs)
  taken_by slots [] = refl
  taken_by slots (r ∷ rs) = rw (root_at_by slots r, ← map-set (root_by f) slots r None, taken_by (spend slots r) rs) (opt_by (root_at slots r) (taken (spend slots r) rs))

  pub filled_by : (slots : List (Option ℕ)) (rs ns : List ℕ) → filled (map (root_by f) slots) rs (map f ns) ≡ map (root_by f) (filled slots rs ns)
  filled_by slots [] ns = refl
  filled_by slots (r ∷ rs) [] = refl
  filled_by slots (r ∷ rs) (n ∷ ns) = ap (λ l. filled l rs (map f ns)) (sym (map-set (root_by f) slots r (Some n))) ∙ filled_by (set slots r (Some n)) rs ns
