use Rattle.beam.specs.Carried.{Carried}
use Rattle.beam.proofs.journey.follow.Given as goal

abbrev pub invariant-moves : goal.invariant-moves
invariant-moves g l = Carried g.S.Store l.store l.lift
