use Rattle.bench.proofs.Exact.{make_open}
use Rattle.bench.proofs.make_open.Goals as goal

pub returns : goal.returns
returns c = make_open
