-- What our two stores keep, and what one change does to their table.
use Rattle.std.specs.Prelude.{◌≡◌, ℕ, ◌+◌, ◌<◌, ◌⊎◌, ◌↔◌, Option}
use Rattle.store.specs.declared.cell.Cell.{Cell}
use Rattle.store.specs.Meaning.{most_links, Asked}
use Rattle.store.specs.Heap.{Heap, deferred, settled, after}
use Rattle.store.specs.Sound.{Okay, Clean, Tidy, Changed}
use Rattle.store.specs.Cells.{empty, holds}

-- the deferring store: at most four cells change
pub record DeferringDid (h : Heap) (q : Asked) (k : Heap) : Type 0 where
  pub table : k ≡ after deferred h q
  pub few : Changed (most_links + 2) h.cells k.cells

-- the eager store: a cell of count 0 is wiped
pub record EagerOkay (h : Heap) : Type 0 where
  pub okay : Okay h
  pub clean : Clean h.cells

pub record EagerDid (h : Heap) (q : Asked) (k : Heap) : Type 0 where
  pub table : k ≡ after settled h q

-- what is seen after any call: in the deferring store at most four cells differ, in the eager one a cell of count 0 is wiped
abbrev pub few_changed : Heap → Heap → Type 0
few_changed h k = Changed (most_links + 2) h.cells k.cells

abbrev pub all_clean : Heap → Heap → Type 0
all_clean h k = Clean k.cells

-- what a store keeps of its table: it is in order, and each of its cells is tidy. A cell in use is so whatever it holds, and lowering leaves the rest so
pub record Keeping (lowered : Heap → ℕ → Heap) (okay : Heap → Type 0) (tidy : Cell → Cell) : Type 0 where
  pub reads : (h : Heap) → okay h ↔ (Okay h × Tidy tidy h.cells)
  pub blank : (count : ℕ) (next : Option ℕ) → tidy (empty count next) ≡ empty count next
  pub busy : (x : Cell) → 0 < x.count → tidy x ≡ x
  pub lowers : (h : Heap) (c : ℕ) → Okay h → 0 < holds h.cells c → Tidy tidy h.cells → Tidy tidy (lowered h c).cells

-- what a store tells of one change holds of the table that the change makes; and what is seen after a call follows from it, or from no change
pub record Telling (lowered : Heap → ℕ → Heap) (okay : Heap → Type 0) (did : Heap → Asked → Heap → Type 0) (shows : Heap → Heap → Type 0) : Type 0 where
  pub told : (h : Heap) (q : Asked) → did h q (after lowered h q)
  pub shown : (h k : Heap) → okay k → (k ≡ h) ⊎ ((q : Asked) × did h q k) → shows h k
