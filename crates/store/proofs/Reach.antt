-- What is reached in a sound table.
use Rattle.std.proofs.Common.{◌≡◌, ℕ, zero, suc, ◌+◌, ◌<◌, ◌≤◌, List, [], ◌∷◌, length, Some, None, sym, ◌∙◌, subst, ⊎_elim, arith}
use Rattle.std.proofs.lemmas.Bool.{cases_lt}
use Rattle.store.specs.declared.cell.Cell.{Cell}
use Rattle.store.specs.Meaning.{Meaning, Reached, by_hold, by_link, less, Full, Few}
use Rattle.store.specs.Cells.{at, node_of, inlinks, meaning}
use Rattle.store.specs.Heap.{Heap, cell}
use Rattle.store.specs.Sound.{Sound, Chain, Okay}
use Rattle.store.specs.NumbersLemmas.{hit_cases, times_length}
use Rattle.store.specs.CellsLemmas.{inlinks_at, inlinks_from, inlinks_most, counted_inside}
use Rattle.store.specs.Pile.{none_some}

-- without one hold no more is reached
pub less_reached : (m : Meaning) (c : ℕ) {d : ℕ} → Reached (less m c) d → Reached m d
less_reached m c (by_hold h) = by_hold (omega arith)
less_reached m c (by_link r h) = by_link (less_reached m c r) h

-- where the cell stays reached without the hold, no less is reached
pub still_reached : (m : Meaning) (c : ℕ) → Reached (less m c) c → {d : ℕ} → Reached m d → Reached (less m c) d
still_reached m c still {d} (by_hold h) = ⊎_elim (λ p. subst (Reached (less m c)) (sym p.0) still) (λ p. by_hold (omega (arith, p.1))) (hit_cases d c)
still_reached m c still (by_link r h) = by_link (still_reached m c still r) h

module _ {cells : List Cell} {idle : List ℕ} (s : Sound cells idle) where
  pub reached_counted : {d : ℕ} → Reached (meaning cells) d → 0 < (at cells d).count
  reached_counted {d} (by_hold h) = omega arith
  reached_counted {d} (by_link {j} r h) = omega (arith, inlinks_at d cells j, s.counted d)

  pub reached_inside : {d : ℕ} → Reached (meaning cells) d → d < length cells
  reached_inside {d} r = counted_inside cells d (reached_counted r)

  -- a count fits its 16 bits by far
  pub count_small : Few (meaning cells) → (d : ℕ) → (at cells d).count ≤ 9192
  count_small few d = omega (arith, s.counted d, few.within d, few.most, times_length d few.all, inlinks_most d cells, s.most)

  -- each cell is held or linked to, so all are reached: what links to a cell has a higher rank
  module _ (base : ℕ → ℕ) (used : (c : ℕ) → c < length cells → 0 < base c + inlinks c cells) where
    over : Meaning
    over = record { size = length cells; holds = base; content = λ c. node_of (at cells c) }

    by_rank : (fuel c : ℕ) → c < length cells → s.clock ≤ s.rank c + fuel → Reached over c
    unfolding over
    by_rank zero c l f = absurd (omega (arith, s.early c))
    by_rank (suc fuel) c l f = ⊎_elim
        by_hold
        (λ z. let r = inlinks_from c cells (omega (arith, used c l)) in
        by_link (by_rank fuel r.0 r.1 (omega (arith, s.falls r.0 c r.2))) r.2)
        (cases_lt 0 (base c))

    pub all_reached : Full (record { size = length cells; holds = base; content = λ c. node_of (at cells c) })
    unfolding over
    all_reached c l = by_rank s.clock c l (omega arith)

-- the free list is empty
pub none_free : {h : Heap} → Okay h → h.free ≡ None → (c : ℕ) → c < length h.cells → 0 < (cell h c).count
none_free {h} o e c l = go o.listed o.chain o.sound
  where
    go : (fs : List ℕ) → Chain h.cells h.free fs → Sound h.cells fs → 0 < (cell h c).count
    go [] k s = ⊎_elim (λ p. p) (λ z. absurd (omega (arith, s.each c l (omega arith)))) (cases_lt 0 (cell h c).count)
    go (f ∷ fs) k s = none_some (sym e ∙ k.0)

-- the first of the free list has count 0
pub record First (h : Heap) (c : ℕ) : Type 0 where
  pub rest : List ℕ
  pub chain : Chain h.cells (cell h c).next rest
  pub sound : Sound h.cells (c ∷ rest)

pub first_free : {h : Heap} {c : ℕ} → Okay h → h.free ≡ Some c → First h c
first_free {h} {c} o e = go o.listed o.chain o.sound
  where
    go : (fs : List ℕ) → Chain h.cells h.free fs → Sound h.cells fs → First h c
    go [] k s = none_some (sym k ∙ e)
    go (f ∷ fs) k s =
        let i : f ≡ c = (let q : Some f ≡ Some c = sym k.0 ∙ e in cc) in
        record { rest = fs; chain = subst (λ j. Chain h.cells (cell h j).next fs) i k.1; sound = subst (λ j. Sound h.cells (j ∷ fs)) i s }
