use Rattle.std.proofs.Common.{false, ◌||◌, get_or, ◌∙◌, arith, rules}
use borrow.Author.Tests.{tests}
use Rattle.rule.specs.Check.{either}
use Rattle.store.proofs.Arrays.{made}
use Rattle.rule.proofs.Flagged.{length-either, either_at}
use Rattle.rule.proofs.flags.either.Goals as goal

pub returns : goal.returns
returns c = made _ _ (λ k. get_or c.args.a.now k false || get_or c.args.b.now k false) (λ i y q k. search (rules, tests)) c.from_fn.result 16 c.from_fn.ensures.items (either c.args.a.now c.args.b.now) (length-either _ _ ∙ c.told-a) (λ k d l. either_at _ _ k d (omega (arith, c.told-a)) (omega (arith, c.told-b)))
