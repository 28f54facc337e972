-- A table at set-up.
use Rattle.std.specs.Prelude.{ℕ, zero, suc, ◌+◌, ◌<◌, ◌≤◌, cond, List, [], ◌∷◌, length, Some, None, ◌==◌}
use Rattle.store.specs.declared.cell.Cell.{Cell}
use Rattle.store.specs.Cells.{empty}
use Rattle.store.specs.Heap.{Heap}

-- a table that may be set up
pub record Sized (cells : List Cell) : Type 0 where
  pub some : 0 < length cells
  pub most : length cells ≤ 4096

-- the cell that stands i-th of n: wiped, and its successor the next one
abbrev pub fresh_cell : ℕ → ℕ → Cell
fresh_cell n i = empty 0 (cond (i + 1 == n) None (Some (i + 1)))

-- k cells up to the last of n
unfoldable pub fresh_from : ℕ → ℕ → ℕ → List Cell
fresh_from n i zero = []
fresh_from n i (suc k) = fresh_cell n i ∷ fresh_from n (suc i) k

-- all cells wiped and listed from 0 upwards
abbrev pub fresh : ℕ → Heap
fresh n = record { cells = fresh_from n 0 n; free = Some 0 }
