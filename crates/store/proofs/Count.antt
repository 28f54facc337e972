-- A list of numbers below n, none twice, has all of them exactly when it is n long.
use Rattle.std.proofs.Common.{◌≡◌, ℕ, zero, suc, ◌+◌, ◌<◌, ◌≤◌, ◌↔◌, List, [], ◌∷◌, length, refl, ap, ⊎_elim, arith}
use Rattle.std.proofs.lemmas.Bool.{cases_eq}
use Rattle.store.specs.Numbers.{times, In}
use Rattle.store.specs.NumbersLemmas.{hit_cases, hit_self}

-- how many places of the list have a number below n
abbrev places : ℕ → List ℕ → ℕ
places zero xs = 0
places (suc n) xs = times n xs + places n xs

places_none : (n : ℕ) → places n [] ≡ 0
places_none zero = refl
places_none (suc n) = omega (arith, places_none n)

places_past : (n x : ℕ) (xs : List ℕ) → n ≤ x → places n (x ∷ xs) ≡ places n xs
places_past zero x xs h = refl
places_past (suc n) x xs h = ⊎_elim (λ p. absurd (omega (arith, p.0))) (λ p. omega (arith, p.1, places_past n x xs (omega arith))) (hit_cases n x)

places_more : (n x : ℕ) (xs : List ℕ) → x < n → places n (x ∷ xs) ≡ places n xs + 1
places_more zero x xs h = absurd (omega arith)
places_more (suc n) x xs h = ⊎_elim
    (λ p. omega (arith, p.1, places_past n x xs (omega (arith, p.0))))
    (λ p. omega (arith, p.1, places_more n x xs (omega (arith, p.0))))
    (hit_cases n x)

places_length : (n : ℕ) (xs : List ℕ) → ((c : ℕ) → In c xs → c < n) → places n xs ≡ length xs
places_length n [] h = places_none n
places_length n (x ∷ xs) h = omega (arith, places_more n x xs (h x (omega (arith, hit_self x))), places_length n xs (λ c i. h c (omega arith)))

places_all : (n : ℕ) (xs : List ℕ) → ((c : ℕ) → c < n → In c xs) → n ≤ places n xs
places_all zero xs h = omega arith
places_all (suc n) xs h = omega (arith, h n (omega arith), places_all n xs (λ c l. h c (omega arith)))

module _ (xs : List ℕ) (once : (c : ℕ) → times c xs ≤ 1) where
  places_most : (n : ℕ) → places n xs ≤ n
  places_most zero = omega arith
  places_most (suc n) = omega (arith, once n, places_most n)

  places_full : (n : ℕ) → places n xs ≡ n → (c : ℕ) → c < n → In c xs
  places_full zero e c h = absurd (omega arith)
  places_full (suc n) e c h = ⊎_elim
      (λ q. omega (arith, once n, places_most n, ap (λ i. times i xs) q))
      (λ q. places_full n (omega (arith, once n, places_most n)) c (omega (arith, q)))
      (cases_eq c n)

  module _ (n : ℕ) (small : (c : ℕ) → In c xs → c < n) where
    pub length_most : length xs ≤ n
    length_most = omega (arith, places_length n xs small, places_most n)

    pub length_full : ((c : ℕ) → c < n → In c xs) ↔ (length xs ≡ n)
    length_full = (λ h. omega (arith, places_all n xs h, places_length n xs small, places_most n), λ e. places_full n (omega (arith, places_length n xs small)))
