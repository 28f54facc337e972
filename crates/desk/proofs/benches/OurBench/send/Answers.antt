use Rattle.store.specs.View.{heap}
use Rattle.store.proofs.Plain.{plain}
use Rattle.desk.proofs.Ours.{our_law, ready}
use Rattle.desk.proofs.benches.OurBench.send.Goals as goal

pub send-requires : goal.send-requires
send-requires g c =
    let b = c.args.self.now in
    let m = g.met.L.Lowering in
    let r = ready m.keeps m.tells b.bench b.bench.roots.sized b.plain b.tidy b.out in
    record { ok = r.0; stood = r.1 }

pub invariant_of-self : goal.invariant_of-self
invariant_of-self g c =
    let h = heap c.send.new.self.store.table in
    let r = (g.met.L.Lowering.keeps.reads h).0 c.send.ensures.ok in
    record { plain = plain h r.0; tidy = r.1; out = c.send.ensures.stood.stands.1.out }

pub returns : goal.returns
returns g c =
    let m = g.met.L.Lowering in
    let e = c.send.ensures in
    record { told = e.told; effect = e.effect; law = our_law m.keeps m.tells c.args.self.now.bench c.send.new.self c.args.call.now c.send.result e.ok e.stood.stands.1.out e.effect }
