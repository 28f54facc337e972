use Rattle.bench.proofs.Rebuild.{rebuild_stands}
use Rattle.bench.proofs.rebuild_stands.Goals as goal

pub returns : goal.returns
returns c = rebuild_stands
