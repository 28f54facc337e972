use Rattle.bench.proofs.Exact.{rebuild_open}
use Rattle.bench.proofs.rebuild_open.Goals as goal

pub returns : goal.returns
returns c = rebuild_open
