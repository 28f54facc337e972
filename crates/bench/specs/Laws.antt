-- The theorems, as statements.
use Rattle.std.specs.Prelude.{◌≡◌, ℕ, ◌<◌, ◌≤◌, true, ◌↔◌, List, [], ◌∷◌, ◌++◌, length, replicate, ℤ, Some, None, Option, ◌≢◌, slice_set}
use Rattle.store.specs.Numbers.{times, In}
use Rattle.store.specs.Meaning.{Node, arity, Meaning, Reached, less, Moved, Unchanged, Made, Full, Out}
use Rattle.store.specs.Cells.{meaning}
use Rattle.store.specs.Heap.{Heap}
use Rattle.store.specs.Sound.{Okay}
use Rattle.store.specs.Rooted.{root_at, named}
use Rattle.bench.specs.Machine.{Machine, Sound, Shaped, start, spend, spent, taken, filled, copied, released, parted, made, rebuilt, alive, live, shared}
use Rattle.bench.specs.Picture.{Picture, Found, Agree, LooksAlike, bench_picture, machine_picture}
use Rattle.bench.specs.Standing.{Stands, Room, Askable}
use Rattle.bench.specs.declared.call.Call.{Call}
use Rattle.bench.specs.Step.{step}
use Rattle.bench.specs.Bench.{Stood}
use Rattle.bench.specs.Lists.{new_node, added}

-- the pass lists what is found, each once
abbrev pub PassRight : Type 0
PassRight = (t : Machine) → Sound t → (i : ℕ) → (In i (alive t) ↔ Found (machine_picture t) i) × (times i (alive t) ≤ 1)

-- with no hold out, empty roots stand for the machine at its start
abbrev pub StartStands : Type 0
StartStands = (m : Meaning) → ((c : ℕ) → m.holds c ≡ 0) → Stands start (replicate 16 None) m

-- a call that changes nothing, as one that is refused
abbrev pub RestStands : Type 0
RestStands = (t : Machine) (slots : List (Option ℕ)) (m n : Meaning) → Stands t slots m → Unchanged m n → Stands t slots n

-- the hold of root r is released
abbrev pub ReleaseStands : Type 0
ReleaseStands =
    (t : Machine) (slots : List (Option ℕ)) (m n : Meaning) (r c : ℕ) → Stands t slots m →
    root_at slots r ≡ Some c → Moved m n (c ∷ []) [] → Stands (released t r) (spend slots r) n

-- a second hold on what root s names goes to the empty root d
abbrev pub CopyStands : Type 0
CopyStands =
    (t : Machine) (slots : List (Option ℕ)) (m n : Meaning) (s d c : ℕ) → Stands t slots m →
    root_at slots s ≡ Some c → d < length slots → root_at slots d ≡ None → Moved m n [] (c ∷ []) → Stands (copied t s d) (slice_set slots d (Some c)) n

-- the hold of root r goes, and holds on the links go to the roots rs
abbrev pub PartStands : Type 0
PartStands =
    (t : Machine) (slots : List (Option ℕ)) (m n : Meaning) (r c : ℕ) (rs : List ℕ) → Stands t slots m →
    root_at slots r ≡ Some c → Room (spend slots r) rs (m.content c).links → Moved m n (c ∷ []) (m.content c).links →
    Stands (parted t r rs) (filled (spend slots r) rs (m.content c).links) n

-- the holds of the roots rs become the links of a new cell, held by root d
abbrev pub MakeStands : Type 0
MakeStands =
    (t : Machine) (slots : List (Option ℕ)) (m n : Meaning) (d kind : ℕ) (value : ℤ) (rs : List ℕ) (c : ℕ) → Stands t slots m →
    d < length slots → root_at (spent slots rs) d ≡ None → Made m n (record { kind = kind; value = value; links = taken slots rs }) c →
    Stands (made t d kind value rs) (slice_set (spent slots rs) d (Some c)) n

-- the same after the hold of root r is spent, which holds the new cell
abbrev pub RebuildStands : Type 0
RebuildStands =
    (t : Machine) (slots : List (Option ℕ)) (m n : Meaning) (r kind : ℕ) (value : ℤ) (rs : List ℕ) (old c : ℕ) → Stands t slots m →
    root_at slots r ≡ Some old → Made (less m old) n (record { kind = kind; value = value; links = taken (spend slots r) rs }) c →
    Stands (rebuilt t r kind value rs) (slice_set (spent (spend slots r) rs) r (Some c)) n

-- every cell is reached exactly when as many nodes are reached as there are cells
abbrev pub MakeExact : Type 0
MakeExact = (t : Machine) (slots : List (Option ℕ)) (m : Meaning) → Stands t slots m → Full m ↔ (live t ≡ m.size)

-- and the old cell without its hold exactly when the old node is reached from the other roots besides
abbrev pub RebuildExact : Type 0
RebuildExact =
    (t : Machine) (slots : List (Option ℕ)) (m : Meaning) (r old : ℕ) → Stands t slots m → root_at slots r ≡ Some old →
    (Full m × Reached (less m old) old) ↔ ((live t ≡ m.size) × (shared t r ≡ true))

-- agreement is enough for a person to see the same
abbrev pub PicturesAlike : Type 0
PicturesAlike = (p q : Picture) (f : ℕ → ℕ) → Agree p q f → LooksAlike p q

-- so a bench that stands for the machine looks like it
abbrev pub BenchAlike : Type 0
BenchAlike = (t : Machine) (slots : List (Option ℕ)) (m : Meaning) → Stands t slots m → LooksAlike (bench_picture slots m) (machine_picture t)

-- a make that gave a cell was not one to refuse
abbrev pub MakeOpen : Type 0
MakeOpen = (t : Machine) (slots : List (Option ℕ)) (m n : Meaning) (node : Node) (c : ℕ) → Stands t slots m → Made m n node c → live t ≢ m.size

-- nor was such a rebuild
abbrev pub RebuildOpen : Type 0
RebuildOpen =
    (t : Machine) (slots : List (Option ℕ)) (m n : Meaning) (node : Node) (r old c : ℕ) → Stands t slots m → root_at slots r ≡ Some old →
    Made (less m old) n node c → live t ≡ m.size → shared t r ≢ true

-- a bench that stands may ask
abbrev pub MayAsk : Type 0
MayAsk = (t : Machine) (slots : List (Option ℕ)) (m : Meaning) → Stands t slots m → Askable slots m

-- a new node with as many links as its kind leaves the machine shaped
abbrev pub MadeShaped : Type 0
MadeShaped = (t : Machine) (d kind : ℕ) (value : ℤ) (rs : List ℕ) → Shaped t → length (taken t.roots rs) ≡ arity kind → Shaped (made t d kind value rs)

-- and each reached cell has as many as its kind
abbrev pub CellsShaped : Type 0
CellsShaped =
    (t : Machine) (slots : List (Option ℕ)) (m : Meaning) (c : ℕ) → Stands t slots m → Shaped t → Reached m c →
    length (m.content c).links ≡ arity (m.content c).kind

-- a table in order, of whose cells the roots hold all that is held, stands for some machine: so what is said of every machine that agrees is never said of none
abbrev pub OrderedStands : Type 0
OrderedStands = (h : Heap) (slots : List (Option ℕ)) → Okay h → length slots ≡ 16 → Out (meaning h.cells) (named slots) → Stood slots (meaning h.cells)

-- an accepted make or rebuild appends one node, and nothing else changes the nodes
abbrev pub NodesGrow : Type 0
NodesGrow = (n : ℕ) (t : Machine) (call : Call) → (step n t call).1.nodes ≡ t.nodes ++ added (new_node t call) (step n t call).0
