-- What a rule claims, as the check takes it.
use Rattle.rule.specs.declared.check.Claims.{Claims}
use Rattle.rule.specs.Check as check

abbrev pub claims_of : Claims → check.Claims
claims_of c = record { own = c.own; out = c.out }
