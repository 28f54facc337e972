use Rattle.rule.proofs.Trying.{first_fails}
use Rattle.rule.proofs.first_fails.Goals as goal

pub returns : goal.returns
returns c = first_fails
