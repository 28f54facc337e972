use Rattle.store.specs.Ways.{clean_tidy, tidy_clean}
use Rattle.store.proofs.laws.tidy_is_clean.Goals as goal

pub returns : goal.returns
returns c = λ cells. (tidy_clean cells, clean_tidy cells)
