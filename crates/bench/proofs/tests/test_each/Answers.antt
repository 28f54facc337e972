use Rattle.std.proofs.Common.{map, Some, None, Err, sym, refl, ap, ◌∙◌, option_and_then}
use Rattle.std.proofs.lemmas.List.{at_drop_all}
use Rattle.std.proofs.lemmas.Result.{err_from_is_err_and}
use Rattle.bench.specs.Tests.{first, verdict}
use Rattle.bench.proofs.Passes.{passed, refused, first_here}
use Rattle.bench.proofs.tests.test_each.Goals as goal
use Rattle.bench.proofs.tests.test_each.Goals.{in-Some+in_ok-test, in_default}

pub each-init : goal.each-init
each-init g c = λ f h. refl

pub returns-in_err-test : goal.returns-in_err-test
returns-in_err-test g c = λ f h.
    let a = first_here f c.args.items.now c.each.item-index c.each-test.true _ (Some c.in-Some.item) (sym c.item-item.is ∙ c.in-Some.is) (refused _ (sym (h _ _ c.test.ensures) ∙ c.in_err-test.was)) in
    let p = err_from_is_err_and c.from_residual.result c.from_residual.ensures.1 in
    p.1 ∙ ap Err p.2 ∙ sym (ap verdict (sym (c.each.invariant f h) ∙ a))

pub each-preserved : goal.each-preserved
each-preserved g c = λ f h. elim c.match-item.branch [
  | in-Some+in_ok-test w ↦ sym (first_here f c.args.items.now c.each.item-index c.each-test.true _ (Some w.in-Some.item) (sym c.item-item.is ∙ w.in-Some.is) (passed _ (sym (h _ _ w.test.ensures) ∙ w.in_ok-test.was))) ∙ c.each.invariant f h
  | in_default w ↦ sym (first_here f c.args.items.now c.each.item-index c.each-test.true _ None (sym c.item-item.is ∙ w.in_default.is) refl) ∙ c.each.invariant f h
]

pub returns : goal.returns
returns g c = λ f h. ap verdict (sym (at_drop_all (λ x. first (map (option_and_then f) x)) c.args.items.now c.each.item-index c.each-test.false) ∙ c.each.invariant f h)
