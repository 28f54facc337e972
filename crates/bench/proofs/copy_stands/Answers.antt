use Rattle.bench.proofs.Moves.{copy_stands}
use Rattle.bench.proofs.copy_stands.Goals as goal

pub returns : goal.returns
returns c = copy_stands
