use Rattle.std.proofs.Common.{rules, List, Err, Option, sym, ap, ◌∙◌}
use Rattle.std.proofs.lemmas.Result.{err_from_is_err_and}
use Rattle.bench.specs.declared.call.Touch.{Touch}
use Rattle.bench.specs.Tests.{after_touches, verdict}
use Rattle.bench.proofs.Passes.{passed, refused}
use Rattle.rule.specs.Shown.{shown}
use Rattle.rule.specs.Check.{mark_flaw, own_flaw}
use Rattle.rule.proofs.Tested.{at_fields, at_links, at_own, at_touches, quad_after}
use Rattle.rule.proofs.tests.test_record.Goals as goal

pub returns-in_err-test_each-clause-told : goal.returns-in_err-test_each-clause-told
returns-in_err-test_each-clause-told c =
    let p = err_from_is_err_and c.from_residual.result c.from_residual.ensures.1 in
    let e = at_fields (shown c.args.rec.now) c.args.own.now c.args.used.now c.marks-marks.ensures (refused _ (sym (c.test_each.ensures mark_flaw (λ m r p. search rules)) ∙ c.in_err-test_each.was)) in
    p.1 ∙ ap Err p.2 ∙ sym (ap verdict e)

pub returns-in_err-test_links-clause-told : goal.returns-in_err-test_links-clause-told
returns-in_err-test_links-clause-told c =
    let p = err_from_is_err_and c.from_residual-in_err-test_links.result c.from_residual-in_err-test_links.ensures.1 in
    let e = at_links (shown c.args.rec.now) c.args.own.now c.args.used.now c.marks-marks.ensures (passed _ (sym (c.test_each.ensures mark_flaw (λ m r p. search rules)) ∙ c.in_ok-test_each.was)) (refused _ (sym c.test_links.ensures ∙ c.in_err-test_links.was)) in
    p.1 ∙ ap Err p.2 ∙ sym (ap verdict e)

pub returns-in_err-test_each-2-clause-told : goal.returns-in_err-test_each-2-clause-told
returns-in_err-test_each-2-clause-told c =
    let p = err_from_is_err_and c.from_residual-in_err-test_each-2.result c.from_residual-in_err-test_each-2.ensures.1 in
    let e = at_own (shown c.args.rec.now) c.args.own.now c.args.used.now c.marks-marks.ensures (passed _ (sym (c.test_each.ensures mark_flaw (λ m r p. search rules)) ∙ c.in_ok-test_each.was)) (passed _ (sym c.test_links.ensures ∙ c.in_ok-test_links.was)) (refused _ (sym (c.test_each-2.ensures (own_flaw c.args.own.now) (λ m r p. search rules)) ∙ c.in_err-test_each-2.was)) in
    p.1 ∙ ap Err p.2 ∙ sym (ap verdict e)

pub returns-in_err-test_touches-clause-told : goal.returns-in_err-test_touches-clause-told
returns-in_err-test_touches-clause-told c =
    let p = err_from_is_err_and c.from_residual-in_err-test_touches.result c.from_residual-in_err-test_touches.ensures.1 in
    let e = at_touches (shown c.args.rec.now) c.args.own.now c.args.used.now c.marks-marks.ensures (passed _ (sym (c.test_each.ensures mark_flaw (λ m r p. search rules)) ∙ c.in_ok-test_each.was)) (passed _ (sym c.test_links.ensures ∙ c.in_ok-test_links.was)) (passed _ (sym (c.test_each-2.ensures (own_flaw c.args.own.now) (λ m r p. search rules)) ∙ c.in_ok-test_each-2.was)) c.touches.ensures (refused _ (sym c.test_touches.ensures.told ∙ c.in_err-test_touches.was)) in
    p.1 ∙ ap Err p.2 ∙ sym (ap verdict e)

pub returns-clause-told : goal.returns-clause-told
returns-clause-told c = sym (ap verdict (at_touches (shown c.args.rec.now) c.args.own.now c.args.used.now c.marks-marks.ensures (passed _ (sym (c.test_each.ensures mark_flaw (λ m r p. search rules)) ∙ c.in_ok-test_each.was)) (passed _ (sym c.test_links.ensures ∙ c.in_ok-test_links.was)) (passed _ (sym (c.test_each-2.ensures (own_flaw c.args.own.now) (λ m r p. search rules)) ∙ c.in_ok-test_each-2.was)) c.touches.ensures (passed _ (sym c.test_touches.ensures.told ∙ c.in_ok-test_touches.was))))

pub returns-clause-after : goal.returns-clause-after
returns-clause-after c = λ z. c.test_touches.ensures.after c.in_ok-test_touches.was ∙ ap (λ (x : List (Option Touch)). after_touches x c.args.used.now) c.touches.ensures ∙ quad_after (shown c.args.rec.now) c.args.used.now
