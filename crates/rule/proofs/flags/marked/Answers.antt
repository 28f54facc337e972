use Rattle.std.proofs.Common.{◌/◌, ◌^◌, eqb, rules}
use borrow.Author.Tests.{tests}
use Rattle.std.specs.Int.Bits.{bit_and}
use Rattle.rule.specs.Check.{bits}
use Rattle.store.proofs.Arrays.{made}
use Rattle.rule.proofs.Flagged.{length-bits, bits_at}
use Rattle.rule.proofs.flags.marked.Goals as goal

pub returns : goal.returns
returns c = made _ _ (λ k. eqb (bit_and (c.args.mask / 2 ^ k) 1) 1) (λ i y q k. search (rules, tests)) c.from_fn.result 16 c.from_fn.ensures.items (bits 16 c.args.mask) (length-bits 16 c.args.mask) (bits_at 16 c.args.mask)
