use Rattle.bench.proofs.Asked.{cells_shaped}
use Rattle.bench.proofs.cells_shaped.Goals as goal

pub returns : goal.returns
returns c = cells_shaped
