use Rattle.bench.proofs.Asked.{may_ask}
use Rattle.bench.proofs.may_ask.Goals as goal

pub returns : goal.returns
returns c = may_ask
