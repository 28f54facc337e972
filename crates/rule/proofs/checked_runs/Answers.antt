use Rattle.rule.proofs.Running.{checked_runs}
use Rattle.rule.proofs.checked_runs.Goals as goal

pub returns : goal.returns
returns c = checked_runs
