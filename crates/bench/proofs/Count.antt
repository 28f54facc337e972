-- A list of numbers under a function.
use Rattle.std.proofs.Common.{◌≡◌, ℕ, ◌≤◌, List, [], ◌∷◌, map, refl, ap, ⊎_elim, arith}
use Rattle.store.specs.Numbers.{hit, times, In}
use Rattle.store.specs.NumbersLemmas.{hit_cases, hit_self}

-- Another list under f: what it has stands there as often at least.
pub times_by : (f : ℕ → ℕ) (xs : List ℕ) (c : ℕ) → times c xs ≤ times (f c) (map f xs)
times_by f [] c = omega arith
times_by f (x ∷ xs) c = ⊎_elim
    (λ p. omega (arith, times_by f xs c, p.1, hit_self (f x), ap (λ i. hit (f i) (f x)) p.0))
    (λ p. omega (arith, times_by f xs c, p.1))
    (hit_cases c x)

-- a list each of whose numbers is that of a c in P is a list of P's under f
pub pulled : (f : ℕ → ℕ) (P : ℕ → Type 0) (xs : List ℕ) → ((i : ℕ) → In i xs → (c : ℕ) × P c × (f c ≡ i)) → (cs : List ℕ) × (map f cs ≡ xs) × ((c : ℕ) → In c cs → P c)
pulled f P [] h = ([], refl, λ c i. absurd (omega arith))
pulled f P (x ∷ xs) h =
    let b = h x (omega (arith, hit_self x)) in
    let r = pulled f P xs (λ i k. h i (omega arith)) in
    (b.0 ∷ r.0, rw (b.2, r.1), λ c i. ⊎_elim (λ p. rw p.0 b.1) (λ p. r.2 c (omega (arith, p.1))) (hit_cases c b.0))
