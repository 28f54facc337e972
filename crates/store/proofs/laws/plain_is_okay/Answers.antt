use Rattle.store.proofs.Plain.{plain_is_okay}
use Rattle.store.proofs.laws.plain_is_okay.Goals as goal

pub returns : goal.returns
returns c = plain_is_okay
