use Rattle.rule.proofs.Exact.{passes_exactly}
use Rattle.rule.proofs.passes_exactly.Goals as goal

pub returns : goal.returns
returns c = passes_exactly
