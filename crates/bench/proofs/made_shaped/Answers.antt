use Rattle.bench.proofs.Asked.{made_shaped}
use Rattle.bench.proofs.made_shaped.Goals as goal

pub returns : goal.returns
returns c = made_shaped
