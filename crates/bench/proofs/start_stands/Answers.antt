use Rattle.bench.proofs.Moves.{start_stands}
use Rattle.bench.proofs.start_stands.Goals as goal

pub returns : goal.returns
returns c = start_stands
