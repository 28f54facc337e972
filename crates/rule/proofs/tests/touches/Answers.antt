use Rattle.std.proofs.Common.{◌≡◌, List, [], pos, Some, None, Option, sym, refl, ap, ◌∙◌}
use Rattle.bench.specs.declared.call.Call.{Call}
use Rattle.bench.specs.declared.call.Touch.{Touch}
use Rattle.bench.specs.Tests.{touches, quad}
use Rattle.rule.specs.Sheet.{make, copy, release, rebuild, put, sum, difference, look, match, test}
use Rattle.rule.specs.Read.{Rec, plain, branch, last}
use Rattle.rule.specs.Shown.{shown}
use Rattle.rule.specs.Judged.{rec_call, rec_touches}
use Rattle.rule.proofs.tests.touches.Goals as goal

-- what a record does to roots is what its call does
abbrev called : Option Call → List (Option Touch)
called None = []
called (Some call) = touches call

by_call : (r : Rec) {o : Option Call} → o ≡ rec_call r (pos 0) → called o ≡ rec_touches r
by_call r e = ap called e ∙ by r
  where
    by : (r : Rec) → called (rec_call r (pos 0)) ≡ rec_touches r
    by (plain (make d k s a b)) = refl
    by (plain (copy s d)) = refl
    by (plain (release r)) = refl
    by (plain (rebuild r k s a b)) = refl
    by (plain (put s v)) = refl
    by (plain (sum t x y)) = refl
    by (plain (difference t x y)) = refl
    by (plain (look r s)) = refl
    by (branch (match r k s a b) ya na) = refl
    by (branch (test x y) ya na) = refl
    by last = refl

pub returns-in-Some : goal.returns-in-Some
returns-in-Some c = c.touches.ensures ∙ ap quad (by_call (shown c.args.rec.now) (sym c.in-Some.is ∙ c.call.ensures))

pub returns-in-None : goal.returns-in-None
returns-in-None c = ap quad (by_call (shown c.args.rec.now) (sym c.in-None.is ∙ c.call.ensures))
