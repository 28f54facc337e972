use Rattle.bench.proofs.Pass.{pass_right}
use Rattle.bench.proofs.pass_right.Goals as goal

pub returns : goal.returns
returns c = pass_right
