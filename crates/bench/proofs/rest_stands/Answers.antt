use Rattle.bench.proofs.Moves.{rest_stands}
use Rattle.bench.proofs.rest_stands.Goals as goal

pub returns : goal.returns
returns c = rest_stands
