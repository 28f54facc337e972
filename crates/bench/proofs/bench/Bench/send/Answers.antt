use Rattle.std.proofs.Common.{◌≡◌, Some, None, Err, Option, sym, ap, ◌∙◌, subst}
use Rattle.std.proofs.lemmas.Result.{err_from_is_err_and}
use Rattle.bench.specs.declared.fault.BenchFault.{BenchFault}
use Rattle.bench.specs.Tests.{fault_of, verdict}
use Rattle.bench.specs.Bench.{Answers}
use Rattle.bench.proofs.Facts.{stood_after}
use Rattle.bench.proofs.Replies.{refused}
use Rattle.bench.proofs.bench.Bench.send.Goals as goal

judged : (o : Option BenchFault) (e : BenchFault) → Err e ≡ verdict o → o ≡ Some e
judged None e p = cc
judged (Some d) e p = cc

pub returns-in_err-test-clause-told : goal.returns-in_err-test-clause-told
returns-in_err-test-clause-told g c =
    let slots = c.args.self.now.roots.slots in
    let m = g.S.Store.means c.args.self.now.store in
    let call = c.args.call.now in
    let e = c.in_err-test.field-0.0 in
    let p = err_from_is_err_and c.from_residual.result c.from_residual.ensures.1 in
    subst (λ r. Answers slots m call r slots m) (sym (p.1 ∙ ap Err p.2)) (refused slots m call e (ap (fault_of call) (sym c.in_use.ensures) ∙ judged _ e c.in_err-test.ensures))

pub returns-clause-stood : goal.returns-clause-stood
returns-clause-stood g c = stood_after c.requires.stood c.act.new.self.roots.sized c.act.ensures.told
