use Rattle.store.specs.View.{heap}
use Rattle.store.proofs.Plain.{plain}
use Rattle.bench.proofs.Serving.{placed}
use Rattle.desk.proofs.Ours.{lawful, ready}
use Rattle.desk.proofs.benches.OurBench.send_all.Goals as goal

pub send_all-requires : goal.send_all-requires
send_all-requires g c =
    let b = c.args.self.now in
    let m = g.met.L.Lowering in
    let r = ready m.keeps m.tells b.bench b.bench.roots.sized b.plain b.tidy b.out in
    record { ok = r.0; stood = r.1 }

pub invariant_of-self : goal.invariant_of-self
invariant_of-self g c =
    let h = heap c.send_all.new.self.store.table in
    let r = (g.met.L.Lowering.keeps.reads h).0 c.send_all.ensures.ok in
    record { plain = plain h r.0; tidy = r.1; out = c.send_all.ensures.stood.stands.1.out }

pub returns : goal.returns
returns g c = let m = g.met.L.Lowering in record { served = placed _ _ _ (λ f t s h. lawful m.keeps m.tells (f t s h)) c.send_all.result c.send_all.ensures.served }
