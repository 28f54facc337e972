use Rattle.std.proofs.Common.{◌≡◌, Bool, not, ◌∙◌, rules}
use mathlib.Core.Bool.{beq}
use borrow.Author.Tests.{tests}
use Rattle.std.specs.List.{zip}
use Rattle.std.proofs.lemmas.Iterator.{YieldsList-from_slice, YieldsList-from_zip}
use Rattle.std.proofs.lemmas.Iterator.Search.{position_from_yields_List}
use Rattle.std.proofs.lemmas.Iterator.Adapters.{position_from-zero}
use Rattle.rule.proofs.Flagged.{differing_is}
use Rattle.rule.proofs.flags.lowest_differing.Goals as goal

abbrev differ : Bool × Bool → Bool
differ x = not (beq x.0 x.1)

pub returns : goal.returns
returns c =
    let same : c.map.result ≡ c.position-lowest.result = search (rules, tests) in
    same
    ∙ position_from_yields_List differ c.position-lowest.new.self _ c.position-lowest.result c.position-lowest.ensures.ran (YieldsList-from_zip (YieldsList-from_slice c.args.a.now cc) (YieldsList-from_slice c.args.b.now cc)) (λ x b q k. search (rules, tests))
    ∙ position_from-zero differ (zip c.args.a.now c.args.b.now)
    ∙ differing_is c.args.a.now c.args.b.now 0
