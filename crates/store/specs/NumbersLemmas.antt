-- How often a number stands in a list.
use Rattle.std.specs.Prelude.{◌≡◌, ℕ, suc, ◌+◌, ◌≤◌, true, false, ◌⊎◌, List, [], ◌∷◌, ◌++◌, length, is_some, Some, None, Option, ◌≢◌, refl}
use Rattle.std.proofs.Common.{ap, inl, inr, ⊎_elim, arith}
use Rattle.std.proofs.lemmas.Bool.{cases_eq, eq-eqb, ne_eqb}
use Rattle.store.specs.Numbers.{hit, times, opt, item}

pub hit_cases : (a b : ℕ) → ((a ≡ b) × (hit a b ≡ 1)) ⊎ ((a ≢ b) × (hit a b ≡ 0))
hit_cases a b = ⊎_elim (λ e. inl (e, rw (eq-eqb a b e))) (λ n. inr (n, rw (ne_eqb a b n))) (cases_eq a b)

pub hit_self : (a : ℕ) → hit a a ≡ 1
hit_self a = rw (eq-eqb a a refl)

pub hit_other : (a b : ℕ) → (a ≢ b) → hit a b ≡ 0
hit_other a b n = rw (ne_eqb a b n)

pub times_append : (c : ℕ) (xs ys : List ℕ) → times c (xs ++ ys) ≡ times c xs + times c ys
times_append c [] ys = omega arith
times_append c (x ∷ xs) ys = omega (arith, times_append c xs ys)

pub times_length : (c : ℕ) (xs : List ℕ) → times c xs ≤ length xs
times_length c [] = omega arith
times_length c (x ∷ xs) = ⊎_elim (λ p. omega (arith, p.1, times_length c xs)) (λ p. omega (arith, p.1, times_length c xs)) (hit_cases c x)

-- what is the same number stands as often
pub times_same : (c d : ℕ) (xs : List ℕ) → c ≡ d → times c xs ≡ times d xs
times_same c d xs e = ap (λ i. times i xs) e

-- the two optional numbers of a pair, where the second is there only beside the first
pub item_first : (a b : Option ℕ) → (is_some a ≡ false → is_some b ≡ false) → item (opt a ++ opt b) 0 ≡ a
item_first (Some x) b h = refl
item_first None None h = refl
item_first None (Some y) h = absurd (let z : true ≡ false = h refl in let q : ◌≡◌ {A = ℕ} 0 1 = cc in omega arith)

pub item_second : (a b : Option ℕ) → (is_some a ≡ false → is_some b ≡ false) → item (opt a ++ opt b) 1 ≡ b
item_second (Some x) (Some y) h = refl
item_second (Some x) None h = refl
item_second None None h = refl
item_second None (Some y) h = absurd (let z : true ≡ false = h refl in let q : ◌≡◌ {A = ℕ} 0 1 = cc in omega arith)

-- and there is no third
pub item_past : (a b : Option ℕ) (k : ℕ) → item (opt a ++ opt b) (suc (suc k)) ≡ None
item_past (Some x) (Some y) k = refl
item_past (Some x) None k = refl
item_past None (Some y) k = refl
item_past None None k = refl
