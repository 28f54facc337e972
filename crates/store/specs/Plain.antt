-- Soundness of a table, computed from the table alone.
use Rattle.std.specs.Prelude.{◌≡◌, ℕ, zero, suc, ◌+◌, ◌<◌, ◌≤◌, Bool, true, false, cond, ◌&&◌, ◌||◌, ◌↔◌, List, [], ◌∷◌, length, pos, is_some, Some, None, Option, ◌==◌, nat_le, nat_lt}
use Rattle.store.specs.declared.cell.Cell.{Cell}
use Rattle.store.specs.Numbers.{times}
use Rattle.store.specs.Meaning.{arity}
use Rattle.store.specs.Cells.{at, links_of, inlinks, holds}
use Rattle.store.specs.Heap.{Heap}
use Rattle.store.specs.Sound.{Okay, Clean, Tidy, reclaimed}

-- the numbers met from head along the successors, at most k of them
unfoldable pub walked : ℕ → List Cell → Option ℕ → List ℕ
walked zero cells head = []
walked (suc k) cells None = []
walked (suc k) cells (Some c) = c ∷ walked k cells (at cells c).next

-- the end of the list is met after at most k numbers
unfoldable pub ends : ℕ → List Cell → Option ℕ → Bool
ends k cells None = true
ends zero cells (Some c) = false
ends (suc k) cells (Some c) = ends k cells (at cells c).next

-- one of the numbers passes the test
unfoldable pub any_of : (ℕ → Bool) → List ℕ → Bool
any_of test [] = false
any_of test (c ∷ cs) = test c || any_of test cs

-- some walk of k links begins at the cell c
unfoldable pub deep : ℕ → List Cell → ℕ → Bool
deep zero cells c = true
deep (suc k) cells c = any_of (deep k cells) (links_of (at cells c))

-- 1 where the cell is in the table and has count 0, else 0
abbrev pub idle : List Cell → ℕ → ℕ
idle cells d = cond (nat_lt d (length cells) && (at cells d).count == 0) 1 0

-- of a size that may be set up, and a link is there exactly where the kind has it
abbrev pub Shaped : List Cell → Type 0
Shaped cells = (0 < length cells) × (length cells ≤ 4096) × ((c : ℕ) → is_some (at cells c).link0 ≡ nat_le 1 (arity (at cells c).kind)) × ((c : ℕ) → is_some (at cells c).link1 ≡ nat_le 2 (arity (at cells c).kind))

-- links lead into the table and are counted, and no walk has as many links as there are cells, so there is no cycle
abbrev pub Linked : List Cell → Type 0
Linked cells = ((d : ℕ) → 0 < inlinks d cells → d < length cells) × ((d : ℕ) → (at cells d).count ≡ holds cells d + inlinks d cells) × ((c : ℕ) → deep (length cells) cells c ≡ false)

-- the list has each cell of count 0 once and nothing else, and a cell with a successor has count 0
abbrev pub Listed : List Cell → List ℕ → Type 0
Listed cells listed = ((d : ℕ) → times d listed ≡ idle cells d) × ((d : ℕ) → is_some (at cells d).next ≡ true → (at cells d).count ≤ 0)

-- `Okay` without data: the free list is walked, and the lack of cycles tested. Each conjunct lies shallow enough for a ghost field
abbrev pub Plain : Heap → Type 0
Plain h = Shaped h.cells × Linked h.cells × Listed h.cells (walked (length h.cells) h.cells h.free) × (ends (length h.cells) h.cells h.free ≡ true)

-- `Clean` without records: of count 0 is wiped
abbrev pub PlainClean : List Cell → Type 0
PlainClean cells = (c : ℕ) → (at cells c).count ≡ 0 → ((at cells c).kind ≡ 0) × ((at cells c).value ≡ pos 0) × (is_some (at cells c).link0 ≡ false) × (is_some (at cells c).link1 ≡ false)

-- Each says no more and no less than what the stores keep.
abbrev pub PlainIsOkay : Type 0
PlainIsOkay = (h : Heap) → Plain h ↔ Okay h

abbrev pub PlainIsClean : Type 0
PlainIsClean = (cells : List Cell) → PlainClean cells ↔ Clean cells

-- The same of what the type of a bench over the eager store has: each cell is as reclaiming leaves it.
abbrev pub TidyIsClean : Type 0
TidyIsClean = (cells : List Cell) → Tidy reclaimed cells ↔ Clean cells
