-- What holds of our two stores' tables.
use Rattle.std.specs.Prelude.{◌≡◌, ℕ, ◌+◌, ◌<◌, ◌≤◌, cond, List, [], ◌∷◌, ◌++◌, length, pos, is_some, Some, None, Option, ◌==◌, nat_le}
use Rattle.store.specs.declared.cell.Cell.{Cell}
use Rattle.store.specs.Numbers.{times, In}
use Rattle.store.specs.Meaning.{arity}
use Rattle.store.specs.Cells.{empty, at, links_of, node_of, inlinks, holds}
use Rattle.store.specs.Heap.{Heap}

-- a link is there exactly where the kind has it
pub record Fitting (kind : ℕ) (link0 link1 : Option ℕ) : Type 0 where
  pub first : is_some link0 ≡ nat_le 1 (arity kind)
  pub second : is_some link1 ≡ nat_le 2 (arity kind)

-- idle: the cells of count 0, each once. rank falls along links, so there is no cycle
pub record Sound (cells : List Cell) (idle : List ℕ) : Type 0 where
  pub some : 0 < length cells
  pub most : length cells ≤ 4096
  pub shaped : (c : ℕ) → Fitting (at cells c).kind (at cells c).link0 (at cells c).link1
  pub inside : (j d : ℕ) → In d (links_of (at cells j)) → d < length cells
  pub counted : (d : ℕ) → (at cells d).count ≡ holds cells d + inlinks d cells
  pub each : (d : ℕ) → d < length cells → (at cells d).count ≡ 0 → times d idle ≡ 1
  pub used : (d : ℕ) → 0 < (at cells d).count → times d idle ≡ 0
  pub beyond : (d : ℕ) → length cells ≤ d → times d idle ≡ 0
  pub unlisted : (d : ℕ) → 0 < (at cells d).count → (at cells d).next ≡ None
  pub rank : ℕ → ℕ
  pub clock : ℕ
  pub early : (c : ℕ) → rank c < clock
  pub falls : (j d : ℕ) → In d (links_of (at cells j)) → rank d < rank j

-- from head along the successors through the numbers of the list to its end
abbrev pub Chain : List Cell → Option ℕ → List ℕ → Type 0
Chain cells head [] = head ≡ None
Chain cells head (c ∷ cs) = (head ≡ Some c) × Chain cells (at cells c).next cs

-- the free list runs through the cells of count 0
pub record Okay (h : Heap) : Type 0 where
  pub listed : List ℕ
  pub chain : Chain h.cells h.free listed
  pub sound : Sound h.cells listed

-- in the midst of an eager call: the pile and the free list are two chains, of all idle cells
pub record Piling (h : Heap) (pile : Option ℕ) : Type 0 where
  pub waiting : List ℕ
  pub listed : List ℕ
  pub top : Chain h.cells pile waiting
  pub free : Chain h.cells h.free listed
  pub sound : Sound h.cells (waiting ++ listed)

-- a cell without content, and count 0
pub record Wiped (x : Cell) : Type 0 where
  pub kind : x.kind ≡ 0
  pub value : x.value ≡ pos 0
  pub link0 : x.link0 ≡ None
  pub link1 : x.link1 ≡ None
  pub count : x.count ≡ 0

-- the eager store's law: of count 0 is wiped
abbrev pub Clean : List Cell → Type 0
Clean cells = (c : ℕ) → (at cells c).count ≡ 0 → Wiped (at cells c)

-- a cell as the eager store leaves it: of count 0 it is wiped
abbrev pub reclaimed : Cell → Cell
reclaimed x = cond (x.count == 0) (empty 0 x.next) x

-- each cell is as a way to lower cells leaves it
abbrev pub Tidy : (Cell → Cell) → List Cell → Type 0
Tidy tidy cells = (c : ℕ) → tidy (at cells c) ≡ at cells c

-- the holds of the list are ended; nothing else is lost
pub record Lowered (cells new : List Cell) (ended : List ℕ) : Type 0 where
  pub sized : length new ≡ length cells
  pub held : (d : ℕ) → holds new d + times d ended ≡ holds cells d
  pub fewer : (d : ℕ) → (at new d).count ≤ (at cells d).count
  pub inlinked : (d : ℕ) → inlinks d new ≤ inlinks d cells
  pub kept : (d : ℕ) → 0 < (at new d).count → node_of (at new d) ≡ node_of (at cells d)

-- what is asked of a way to lower a cell
abbrev pub Lawful : (Heap → ℕ → Heap) → Type 0
Lawful lower = (h : Heap) (c : ℕ) → Okay h → 0 < holds h.cells c → Okay (lower h c) × Lowered h.cells (lower h c).cells (c ∷ [])

-- at most so many cells differ in kind, value, links, count or successor
pub record Changed (most : ℕ) (cells new : List Cell) : Type 0 where
  pub which : List ℕ
  pub few : length which ≤ most
  pub rest : (d : ℕ) → times d which ≡ 0 → at new d ≡ at cells d
