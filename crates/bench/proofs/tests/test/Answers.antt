use Rattle.std.proofs.Common.{rules, ◌≡◌, map, List, Some, None, Err, Option, option_map, option_and_then, sym, ap, ◌∙◌}
use Rattle.std.proofs.lemmas.Result.{err_from_is_err_and}
use Rattle.bench.specs.declared.call.Call.{Call}
use Rattle.bench.specs.declared.call.Field.{Field}
use Rattle.bench.specs.declared.call.Touch.{Touch}
use Rattle.bench.specs.declared.fault.NoSuchRoot.{NoSuchRoot}
use Rattle.bench.specs.Faults.{field_told}
use Rattle.bench.specs.Tests.{first, quad, unnamed, fields, field_fault, link_fault, touches, touch_fault, first_of, verdict}
use Rattle.bench.proofs.Passes.{passed, refused, quad_fields, quad_touches}
use Rattle.bench.proofs.tests.test.Goals as goal

-- what is told of the four is told of the fields
of_four : (call : Call) {fs : List (Option Field)} {o : Option NoSuchRoot} → fs ≡ quad (map Some (fields call)) → first (map (option_and_then unnamed) fs) ≡ o → field_fault (fields call) ≡ option_map field_told o
of_four call e h = sym (quad_fields call) ∙ ap (λ (x : List (Option Field)). option_map field_told (first (map (option_and_then unnamed) x))) (sym e) ∙ ap (option_map field_told) h

past : {E : Type 0} {f : Option E} (h : Option E) → f ≡ None → first_of f h ≡ h
past h e = ap (λ x. first_of x h) e

pub returns-in_err-test_each : goal.returns-in_err-test_each
returns-in_err-test_each c =
    let f = of_four c.args.call.now c.fields.ensures (refused _ (sym (c.test_each.ensures unnamed (λ x r p. search rules)) ∙ c.in_err-test_each.was)) in
    let p = err_from_is_err_and c.from_residual.result c.from_residual.ensures.1 in
    p.1 ∙ ap Err p.2 ∙ sym (ap verdict (ap (λ x. first_of x (first_of (link_fault c.args.call.now) (touch_fault (touches c.args.call.now) c.args.used.now))) f))

pub returns-in_err-test_links : goal.returns-in_err-test_links
returns-in_err-test_links c =
    let f = of_four c.args.call.now c.fields.ensures (passed _ (sym (c.test_each.ensures unnamed (λ x r p. search rules)) ∙ c.in_ok-test_each.was)) in
    let l = refused _ (sym c.test_links.ensures ∙ c.in_err-test_links.was) in
    let p = err_from_is_err_and c.from_residual-in_err-test_links.result c.from_residual-in_err-test_links.ensures.1 in
    p.1 ∙ ap Err p.2 ∙ sym (ap verdict (past _ f ∙ ap (λ x. first_of x (touch_fault (touches c.args.call.now) c.args.used.now)) l))

pub returns : goal.returns
returns c =
    let f = of_four c.args.call.now c.fields.ensures (passed _ (sym (c.test_each.ensures unnamed (λ x r p. search rules)) ∙ c.in_ok-test_each.was)) in
    let l = passed _ (sym c.test_links.ensures ∙ c.in_ok-test_links.was) in
    c.test_roots.ensures ∙ ap verdict (ap (λ (x : List (Option Touch)). touch_fault x c.args.used.now) c.touches.ensures ∙ quad_touches c.args.call.now c.args.used.now ∙ sym (past _ f ∙ past _ l))
