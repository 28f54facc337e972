use Rattle.std.proofs.Common.{◌≡◌, ℕ, ◌+◌, Bool, List, ◌∷◌, Err, Option, Result, ap, ◌∙◌}
use Rattle.bench.specs.Tests.{first}
use Rattle.rule.specs.declared.fault.Flaw.TheVariants.{NotOwned}
use Rattle.rule.specs.declared.fault.Spot.{Spot}
use Rattle.rule.specs.Read.{tree}
use Rattle.rule.specs.Check.{marked, either, differing, differs, at_place, size, tests, verdict, block_answer}
use Rattle.rule.proofs.check.check_headed.Goals as goal

-- what the head's test finds
told : {used out own one both : List Bool} (i o w : ℕ) → used ≡ marked i → out ≡ marked o → own ≡ marked w → one ≡ either used out → both ≡ either one own → differing 0 both own ≡ differing 0 (either (either (marked i) (marked o)) (marked w)) (marked w)
told {own = own} i o w a b c d e = ap (λ (x : List Bool). differing 0 x own) (e ∙ ap (λ (x : List Bool). either x own) d) ∙ (λ t. differing 0 (either (either (a t) (b t)) (c t)) (c t))

-- the rule's answer, where that is o
abbrev answered : ℕ → ℕ → ℕ → List ℕ → Option ℕ → Result ℕ Spot
answered i o w rest x = verdict (1 + size (tree 10 rest)) (first (at_place 0 (differs x NotOwned) ∷ tests (record { own = marked w; out = marked o }) (tree 10 rest) 1 0 (marked i)))

pub returns-in-Some : goal.returns-in-Some
returns-in-Some c =
    let h = c.args.head.now in
    let e = c.in-Some.ensures ∙ told h.enter h.leave h.own c.marked-used.ensures c.marked-out.ensures c.marked-own.ensures c.either.ensures c.either-2.ensures in
    ap Err c.at.ensures ∙ ap (answered h.enter h.leave h.own c.args.rest.now) e

pub returns-in-None : goal.returns-in-None
returns-in-None c =
    let h = c.args.head.now in
    let e = c.in-None.ensures ∙ told h.enter h.leave h.own c.marked-used.ensures c.marked-out.ensures c.marked-own.ensures c.either.ensures c.either-2.ensures in
    c.check_block.ensures.told ∙ (λ i. block_answer (record { own = c.marked-own.ensures i; out = c.marked-out.ensures i }) (tree 10 c.args.rest.now) 1 0 (c.marked-used.ensures i)) ∙ ap (answered h.enter h.leave h.own c.args.rest.now) e
