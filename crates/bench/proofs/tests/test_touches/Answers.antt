use Rattle.std.proofs.Common.{◌≡◌, ℕ, ◌+◌, ◌<◌, Bool, List, ◌∷◌, length, get_or, drop, Some, None, Err, Option, sym, ap, ◌∙◌}
use Rattle.std.proofs.lemmas.List.{at_drop_more, at_drop_all}
use Rattle.std.proofs.lemmas.Result.{err_from_is_err_and}
use Rattle.bench.specs.declared.call.Touch.{Touch}
use Rattle.bench.specs.declared.fault.TouchFault.{TouchFault}
use Rattle.bench.specs.Tests.{touch_denied, touched, first_of, first_denied, after_touches, verdict}
use Rattle.bench.proofs.Passes.{passed, refused}
use Rattle.bench.proofs.tests.test_touches.Goals as goal
use Rattle.bench.proofs.tests.test_touches.Goals.{in-Some+in_ok-test_touch, in_default}

-- what is left, by its first touch
module _ (ts : List (Option Touch)) (i : ℕ) (o : Option Touch) (used : List Bool) (l : i < length ts) (e : get_or ts i None ≡ o) where
  here : {X : Type 0} (f : List (Option Touch) → List Bool → X) → f (drop i ts) used ≡ f (o ∷ drop (i + 1) ts) used
  here f = at_drop_more (λ x. f x used) ts i None l ∙ ap (λ x. f (x ∷ drop (i + 1) ts) used) e

-- where it is there
module _ (ts : List (Option Touch)) (i : ℕ) (t : Touch) (used : List Bool) (l : i < length ts) (e : get_or ts i None ≡ Some t) (f : Option TouchFault) (r : touch_denied t used ≡ f) where
  there : first_denied (drop i ts) used ≡ first_of f (first_denied (drop (i + 1) ts) (touched t used))
  there = here ts i (Some t) used l e first_denied ∙ ap (λ x. first_of x (first_denied (drop (i + 1) ts) (touched t used))) r

pub returns-in_err-test_touch : goal.returns-in_err-test_touch
returns-in_err-test_touch c =
    let r = refused _ (sym c.test_touch.ensures.told ∙ c.in_err-test_touch.was) in
    let a = there c.args.touches.now c.each.touch-index c.in-Some.touch c.each.used c.each-test.true c.in-Some.is (Some c.in_err-test_touch.field-0.0) r in
    let p = err_from_is_err_and c.from_residual.result c.from_residual.ensures.1 in
    let e = p.1 ∙ ap Err p.2 in
    record { told = e ∙ sym (ap verdict (sym c.each.invariant.0 ∙ a)); after = λ z. cc }

pub each-preserved : goal.each-preserved
each-preserved c = elim c.match-touch.branch [
  | in-Some+in_ok-test_touch w ↦
      let ts = c.args.touches.now in
      let i = c.each.touch-index in
      let t = w.in-Some.touch in
      let ok = w.in_ok-test_touch.was in
      let u = w.used-is ∙ w.test_touch.ensures.after ok in
      let r = passed (touch_denied t c.each.used) (sym w.test_touch.ensures.told ∙ ok) in (
        ap (first_denied (drop (i + 1) ts)) u ∙ sym (there ts i t c.each.used c.each-test.true w.in-Some.is None r) ∙ c.each.invariant.0,
        ap (after_touches (drop (i + 1) ts)) u ∙ sym (here ts i (Some t) c.each.used c.each-test.true w.in-Some.is after_touches) ∙ c.each.invariant.1,
      )
  | in_default w ↦
      let ts = c.args.touches.now in
      let i = c.each.touch-index in (
        ap (first_denied (drop (i + 1) ts)) w.used-is ∙ sym (here ts i None c.each.used c.each-test.true w.in_default.is first_denied) ∙ c.each.invariant.0,
        ap (after_touches (drop (i + 1) ts)) w.used-is ∙ sym (here ts i None c.each.used c.each-test.true w.in_default.is after_touches) ∙ c.each.invariant.1,
      )
]

pub returns : goal.returns
returns c =
    let none = at_drop_all (λ (x : List (Option Touch)). first_denied x c.each.used) c.args.touches.now c.each.touch-index c.each-test.false in
    let same = at_drop_all (λ (x : List (Option Touch)). after_touches x c.each.used) c.args.touches.now c.each.touch-index c.each-test.false in
    record { told = ap verdict (sym none ∙ c.each.invariant.0); after = λ z. sym same ∙ c.each.invariant.1 }
