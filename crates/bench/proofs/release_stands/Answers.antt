use Rattle.bench.proofs.Moves.{release_stands}
use Rattle.bench.proofs.release_stands.Goals as goal

pub returns : goal.returns
returns c = release_stands
