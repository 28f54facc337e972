use Rattle.bench.proofs.Make.{make_stands}
use Rattle.bench.proofs.make_stands.Goals as goal

pub returns : goal.returns
returns c = make_stands
