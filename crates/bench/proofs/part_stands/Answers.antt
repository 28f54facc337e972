use Rattle.bench.proofs.Moves.{part_stands}
use Rattle.bench.proofs.part_stands.Goals as goal

pub returns : goal.returns
returns c = part_stands
