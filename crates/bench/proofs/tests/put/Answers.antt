use Rattle.std.proofs.Common.{sym, arith}
use Rattle.std.proofs.lemmas.List.{set_past}
use Rattle.bench.proofs.tests.put.Goals as goal

pub returns-else-r-lt16 : goal.returns-else-r-lt16
returns-else-r-lt16 c = sym (set_past c.args.used.now c.args.r c.args.flag (omega (arith, c.if-r-lt16.false)))
