use Rattle.std.proofs.Common.{◌≡◌, ◌*◌, ◌≤◌, take}
use Rattle.store.specs.Cells.{total}
use Rattle.store.proofs.tally.tally.Given as goal

abbrev pub invariant-each : goal.invariant-each
invariant-each l = (l.sum ≡ total (take l.cell-index l.cells)) × (l.sum ≤ 65535 * l.cell-index)
