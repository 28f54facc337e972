-- What the two stores do to their table, step by step.
use Rattle.std.specs.Prelude.{ℕ, zero, suc, ◌+◌, ◌-◌, cond, List, [], ◌∷◌, Some, None, Option, ◌==◌, slice_set}
use Rattle.store.specs.declared.cell.Cell.{Cell}
use Rattle.store.specs.Numbers.{item}
use Rattle.store.specs.Meaning.{Node, Asked, making, copying, releasing, parting, rebuilding}
use Rattle.store.specs.Cells.{empty, at, links_of, total}

-- the cells, and the first of the free list
pub record Heap : Type 0 where
  pub cells : List Cell
  pub free : Option ℕ

abbrev pub cell : Heap → ℕ → Cell
cell h c = at h.cells c

abbrev pub put : Heap → ℕ → Cell → Heap
put h c x = record { cells = slice_set h.cells c x; free = h.free }

-- the same content with another count and successor
abbrev pub recounted : Cell → ℕ → Option ℕ → Cell
recounted x count next = record { kind = x.kind; value = x.value; link0 = x.link0; link1 = x.link1; count = count; next = next }

abbrev pub raised : Heap → ℕ → Heap
raised h c = put h c (recounted (cell h c) ((cell h c).count + 1) (cell h c).next)

-- one is taken from the count of c; where it falls to 0, c goes to the front of the list that begins at head
abbrev pub sunk : Heap → ℕ → Option ℕ → Heap
sunk h c head = put h c (recounted (cell h c) ((cell h c).count - 1) (cond ((cell h c).count == 1) head (cell h c).next))

abbrev pub front : Heap → ℕ → Option ℕ → Option ℕ
front h c head = cond ((cell h c).count == 1) (Some c) head

-- the deferring store: that list is the free list
unfoldable pub deferred : Heap → ℕ → Heap
deferred h c = record { cells = (sunk h c h.free).cells; free = front h c h.free }

-- the eager store: that list is the pile, of which pile is the topmost
unfoldable pub sunk_all : Heap → Option ℕ → List ℕ → Heap
sunk_all h pile [] = h
sunk_all h pile (c ∷ cs) = sunk_all (sunk h c pile) (front h c pile) cs

unfoldable pub front_all : Heap → Option ℕ → List ℕ → Option ℕ
front_all h pile [] = pile
front_all h pile (c ∷ cs) = front_all (sunk h c pile) (front h c pile) cs

-- c is wiped and listed
abbrev pub shed : Heap → ℕ → Heap
shed h c = record { cells = slice_set h.cells c (empty 0 h.free); free = Some c }

-- the topmost of the pile is wiped and listed, and its links are lowered
abbrev pub turned : Heap → ℕ → Heap
turned h c = sunk_all (shed h c) (cell h c).next (links_of (cell h c))

abbrev pub turned_pile : Heap → ℕ → Option ℕ
turned_pile h c = front_all (shed h c) (cell h c).next (links_of (cell h c))

-- and so on until the pile is empty; k bounds how often
unfoldable pub drained : ℕ → Heap → Option ℕ → Heap
drained zero h pile = h
drained (suc k) h None = h
drained (suc k) h (Some c) = drained k (turned h c) (turned_pile h c)

unfoldable pub settled : Heap → ℕ → Heap
settled h c = drained (total h.cells) (sunk h c None) (front h c None)

-- the first free cell is taken off the list: no content, count 1
abbrev pub claimed : Heap → ℕ → Heap
claimed h c = record { cells = slice_set h.cells c (empty 1 None); free = (cell h c).next }

-- a cell without its content
abbrev pub stripped : Heap → ℕ → Heap
stripped h c = put h c (empty (cell h c).count (cell h c).next)

abbrev pub written : Node → ℕ → Option ℕ → Cell
written node count next = record { kind = node.kind; value = node.value; link0 = item node.links 0; link1 = item node.links 1; count = count; next = next }

abbrev pub filled : Heap → ℕ → Node → Heap
filled h c node = put h c (written node (cell h c).count (cell h c).next)

unfoldable pub raised_all : Heap → List ℕ → Heap
raised_all h [] = h
raised_all h (c ∷ cs) = raised_all (raised h c) cs

-- The calls, for a store that lowers a cell by `lower`.
unfoldable pub lowered_all : (Heap → ℕ → Heap) → Heap → List ℕ → Heap
lowered_all lower h [] = h
lowered_all lower h (c ∷ cs) = lowered_all lower (lower h c) cs

-- c is taken, its remaining links lowered, and the content written
unfoldable pub made_in : (Heap → ℕ → Heap) → Heap → Node → Option ℕ → Heap
made_in lower h node None = h
made_in lower h node (Some c) = filled (lowered_all lower (claimed h c) (links_of (cell h c))) c node

unfoldable pub rewritten : (Heap → ℕ → Heap) → Heap → ℕ → Node → Heap
rewritten lower h c node = filled (lowered_all lower (stripped h c) (links_of (cell h c))) c node

unfoldable pub made_beside : (Heap → ℕ → Heap) → Heap → ℕ → Node → Option ℕ → Heap
made_beside lower h old node None = h
made_beside lower h old node (Some c) = lower (made_in lower h node (Some c)) old

unfoldable pub rebuilt : (Heap → ℕ → Heap) → Heap → ℕ → Node → Heap
rebuilt lower h old node = cond ((cell h old).count == 1) (rewritten lower h old node) (made_beside lower h old node h.free)

unfoldable pub parted : (Heap → ℕ → Heap) → Heap → ℕ → Heap
parted lower h c = cond ((cell h c).count == 1) (lower (stripped h c) c) (lower (raised_all h (links_of (cell h c))) c)

-- the table after a call, from the table before it
abbrev pub after : (Heap → ℕ → Heap) → Heap → Asked → Heap
after lower h (making node) = made_in lower h node h.free
after lower h (copying c) = raised h c
after lower h (releasing c) = lower h c
after lower h (parting c) = parted lower h c
after lower h (rebuilding c node) = rebuilt lower h c node
