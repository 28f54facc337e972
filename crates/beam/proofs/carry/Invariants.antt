use Rattle.std.proofs.Common.{[]}
use Rattle.beam.specs.Carried.{Holding}
use Rattle.beam.proofs.carry.Given as goal

abbrev pub invariant-each : goal.invariant-each
invariant-each g l = Holding g.S.Store l.store []
