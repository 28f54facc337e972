use Rattle.bench.proofs.Alike.{pictures_alike}
use Rattle.bench.proofs.pictures_alike.Goals as goal

pub returns : goal.returns
returns c = pictures_alike
