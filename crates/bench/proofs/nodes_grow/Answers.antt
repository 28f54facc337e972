use Rattle.bench.proofs.Serving.{nodes_grow}
use Rattle.bench.proofs.nodes_grow.Goals as goal

pub returns : goal.returns
returns c = nodes_grow
