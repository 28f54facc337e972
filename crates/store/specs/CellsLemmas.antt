-- One cell of a table is written; the links that lead to a cell.
use Rattle.std.specs.Prelude.{◌≡◌, ℕ, zero, suc, ◌+◌, ◌*◌, ◌<◌, ◌≤◌, ◌⊎◌, List, [], ◌∷◌, length, Some, None, Option, ◌≢◌, slice_set}
use Rattle.std.proofs.Common.{ap, inl, inr, ⊎_elim, arith, get_or-set_same, get_or-set_other}
use Rattle.std.proofs.lemmas.List.{get_or_past}
use Rattle.std.proofs.lemmas.Bool.{cases_lt, cases_eq}
use Rattle.store.specs.declared.cell.Cell.{Cell}
use Rattle.store.specs.Numbers.{times, In, opt}
use Rattle.store.specs.Cells.{empty, at, links_of, inlinks, total}
use Rattle.store.specs.NumbersLemmas.{times_append, times_length}

pub at_set : (cells : List Cell) (c : ℕ) (x : Cell) (d : ℕ) → c < length cells → ((d ≡ c) × (at (slice_set cells c x) d ≡ x)) ⊎ ((d ≢ c) × (at (slice_set cells c x) d ≡ at cells d))
at_set cells c x d h = ⊎_elim (λ e. inl (e, rw e (get_or-set_same cells c x (empty 0 None) h))) (λ ne. inr (ne, get_or-set_other cells c d x (empty 0 None) ne)) (cases_eq d c)

pub at_self : (cells : List Cell) (c : ℕ) (x : Cell) → c < length cells → at (slice_set cells c x) c ≡ x
at_self cells c x h = get_or-set_same cells c x (empty 0 None) h

pub at_other : (cells : List Cell) (c : ℕ) (x : Cell) (d : ℕ) → (d ≢ c) → at (slice_set cells c x) d ≡ at cells d
at_other cells c x d ne = get_or-set_other cells c d x (empty 0 None) ne

pub at_past : (cells : List Cell) (c : ℕ) → length cells ≤ c → at cells c ≡ empty 0 None
at_past cells c h = get_or_past cells c (empty 0 None) h

-- a cell that is counted is in the table
pub counted_inside : (cells : List Cell) (c : ℕ) → 0 < (at cells c).count → c < length cells
counted_inside cells c h = ⊎_elim (λ l. l) (λ k. absurd (let z : (at cells c).count ≡ 0 = ap (λ (x : Cell). x.count) (at_past cells c k) in omega arith)) (cases_lt c (length cells))

pub inlinks_set : (d : ℕ) (cells : List Cell) (c : ℕ) (x : Cell) → c < length cells → inlinks d (slice_set cells c x) + times d (links_of (at cells c)) ≡ inlinks d cells + times d (links_of x)
inlinks_set d [] c x h = absurd (omega arith)
inlinks_set d (y ∷ ys) zero x h = omega arith
inlinks_set d (y ∷ ys) (suc c) x h = omega (arith, inlinks_set d ys c x (omega arith))

-- where a link leads to d, some cell has it
pub inlinks_from : (d : ℕ) (cells : List Cell) → 0 < inlinks d cells → (j : ℕ) × (j < length cells) × In d (links_of (at cells j))
inlinks_from d [] h = absurd (omega arith)
inlinks_from d (x ∷ xs) h = ⊎_elim
    (λ here. (0, omega arith, here))
    (λ none. let r = inlinks_from d xs (omega arith) in (suc r.0, omega (arith, r.1), r.2))
    (cases_lt 0 (times d (links_of x)))

pub inlinks_at : (d : ℕ) (cells : List Cell) (j : ℕ) → times d (links_of (at cells j)) ≤ inlinks d cells
inlinks_at d [] j = omega arith
inlinks_at d (x ∷ xs) zero = omega arith
inlinks_at d (x ∷ xs) (suc j) = omega (arith, inlinks_at d xs j)

pub opt_length : (a : Option ℕ) (d : ℕ) → times d (opt a) ≤ 1
opt_length None d = omega arith
opt_length (Some c) d = times_length d (c ∷ [])

pub links_few : (x : Cell) (d : ℕ) → times d (links_of x) ≤ 2
links_few x d = omega (arith, times_append d (opt x.link0) (opt x.link1), opt_length x.link0 d, opt_length x.link1 d)

pub inlinks_most : (d : ℕ) (cells : List Cell) → inlinks d cells ≤ 2 * length cells
inlinks_most d [] = omega arith
inlinks_most d (x ∷ xs) = omega (arith, links_few x d, inlinks_most d xs)

pub total_set : (cells : List Cell) (c : ℕ) (x : Cell) → c < length cells → total (slice_set cells c x) + (at cells c).count ≡ total cells + x.count
total_set [] c x h = absurd (omega arith)
total_set (y ∷ ys) zero x h = omega arith
total_set (y ∷ ys) (suc c) x h = omega (arith, total_set ys c x (omega arith))
