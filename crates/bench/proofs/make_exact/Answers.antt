use Rattle.bench.proofs.Exact.{make_exact}
use Rattle.bench.proofs.make_exact.Goals as goal

pub returns : goal.returns
returns c = make_exact
