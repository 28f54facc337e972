use Rattle.std.proofs.Common.{sym, ap, subst}
use Rattle.store.specs.declared.stores.Counting.{Counting}
use Rattle.store.specs.View.{heap}
use Rattle.store.proofs.Plain.{plain}
use Rattle.desk.proofs.benches.OurBench.over.Goals as goal

pub invariant_of-result : goal.invariant_of-result
invariant_of-result g c =
    let h = heap c.over.result.store.table in
    let r = (g.met.L.Lowering.keeps.reads h).0 (subst (λ (s : Counting _). g.L.Lowering.okay (heap s.table)) (sym c.over.ensures.store) c.requires.ok) in
    record { plain = plain h r.0; tidy = r.1; out = c.over.ensures.start.1.out }

pub returns : goal.returns
returns g c = record { table = ap (λ (s : Counting _). heap s.table) c.over.ensures.store; empty = c.over.ensures.empty; start = c.over.ensures.start }
