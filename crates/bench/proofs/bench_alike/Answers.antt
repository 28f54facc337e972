use Rattle.bench.proofs.Alike.{bench_alike}
use Rattle.bench.proofs.bench_alike.Goals as goal

pub returns : goal.returns
returns c = bench_alike
