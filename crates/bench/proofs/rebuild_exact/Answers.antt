use Rattle.bench.proofs.Exact.{rebuild_exact}
use Rattle.bench.proofs.rebuild_exact.Goals as goal

pub returns : goal.returns
returns c = rebuild_exact
