use Rattle.std.proofs.Common.{pos, ◌∙◌}
use Rattle.bench.specs.declared.call.Call.{Call}
use Rattle.bench.specs.declared.call.Call.TheVariants.{Make}
use Rattle.bench.proofs.Serving.{running_none, running_next, running_all}
use Rattle.bench.proofs.bench.Bench.send_all.Goals as goal

pub each-init : goal.each-init
each-init g c = running_none g.S.Store c.args.self.now c.requires.ok c.requires.stood

pub each-preserved : goal.each-preserved
each-preserved g c =
    let none : Call = Make 0 0 (pos 0) 0 0 in
    running_next g.S.Store c.args.self.now c.args.calls.now c.each.answers c.each.i none c.send.result c.each.self c.send.new.self c.each-test.true (c.each.auto.answers ∙ c.if-answers-calls.false)
    c.each.invariant c.send.ensures.ok c.send.ensures.stood c.send.ensures.told c.send.ensures.effect

pub returns : goal.returns
returns g c =
    let x = running_all g.S.Store c.args.self.now c.args.calls.now c.each.answers c.each.i c.each.self c.each-test.false (c.each.auto.answers ∙ c.if-answers-calls.false) c.each.invariant in
    record { ok = x.ok; stood = x.stood; served = x.served }
