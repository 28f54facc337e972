use Rattle.std.proofs.Common.{◌≡◌, ℕ, ◌<◌, length}
use Rattle.store.specs.Cells.{at}
use Rattle.store.specs.Setup.{fresh_cell}
use Rattle.store.proofs.table.list_all.Given as goal

abbrev pub invariant-each : goal.invariant-each
invariant-each l = (k : ℕ) → k < l.i → at l.cells k ≡ fresh_cell (length l.initial.cells) k
