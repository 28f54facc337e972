use Rattle.std.proofs.Common.{◌≡◌, drop}
use Rattle.bench.specs.Tests.{after_touches, first_denied}
use Rattle.bench.proofs.tests.test_touches.Given as goal

abbrev pub invariant-each : goal.invariant-each
invariant-each l =
    (first_denied (drop l.touch-index l.touches) l.used ≡ first_denied l.touches l.initial.used)
    × (after_touches (drop l.touch-index l.touches) l.used ≡ after_touches l.touches l.initial.used)
