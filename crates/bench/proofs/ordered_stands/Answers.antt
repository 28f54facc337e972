use Rattle.bench.proofs.Ordered.{ordered_stands}
use Rattle.bench.proofs.ordered_stands.Goals as goal

pub returns : goal.returns
returns c = ordered_stands
