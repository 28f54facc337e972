use Rattle.std.proofs.Common.{◌≡◌, map, drop, Option, Result, option_and_then}
use Rattle.bench.specs.Tests.{first, verdict}
use Rattle.bench.proofs.tests.test_each.Given as goal

abbrev pub invariant-each : goal.invariant-each
invariant-each g l = (f : g.row.T.Denot → Option g.row.E.Denot) → ((x : g.row.T.Denot) (r : Result (Unit {0}) g.row.E.Denot) → goal.F-post g l.test x r → r ≡ verdict (f x)) →
    first (map (option_and_then f) (drop l.item-index l.items)) ≡ first (map (option_and_then f) l.items)
