-- A table of counted cells, and how it is read.
use Rattle.std.specs.Prelude.{ℕ, ◌+◌, ◌-◌, List, [], ◌∷◌, ◌++◌, length, pos, None, Option, slice_index_or}
use Rattle.store.specs.declared.cell.Cell.{Cell}
use Rattle.store.specs.Numbers.{times, opt}
use Rattle.store.specs.Meaning.{Node, Meaning}

-- a cell with no content, of a count and with a successor in the free list
abbrev pub empty : ℕ → Option ℕ → Cell
empty count next = record { kind = 0; value = pos 0; link0 = None; link1 = None; count = count; next = next }

abbrev pub at : List Cell → ℕ → Cell
at cells c = slice_index_or cells c (empty 0 None)

abbrev pub links_of : Cell → List ℕ
links_of x = opt x.link0 ++ opt x.link1

abbrev pub node_of : Cell → Node
node_of x = record { kind = x.kind; value = x.value; links = links_of x }

-- how many links lead to c; a wiped cell has none
abbrev pub inlinks : ℕ → List Cell → ℕ
inlinks c [] = 0
inlinks c (x ∷ xs) = times c (links_of x) + inlinks c xs

-- what the count says beyond the links is out as holds
abbrev pub holds : List Cell → ℕ → ℕ
holds cells c = (at cells c).count - inlinks c cells

abbrev pub meaning : List Cell → Meaning
meaning cells = record { size = length cells; holds = holds cells; content = λ c. node_of (at cells c) }

-- all counts together
abbrev pub total : List Cell → ℕ
total [] = 0
total (x ∷ xs) = x.count + total xs
