use Rattle.std.proofs.Common.{take}
use Rattle.bench.proofs.Serving.{Running}
use Rattle.bench.proofs.bench.Bench.send_all.Given as goal

abbrev pub invariant-each : goal.invariant-each
invariant-each g l = Running g.S.Store (take l.i l.calls) (take l.i l.answers) l.initial.self l.self
