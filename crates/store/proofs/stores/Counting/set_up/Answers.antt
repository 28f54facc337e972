use Rattle.std.proofs.Common.{[], length, sym, subst}
use Rattle.store.specs.Cells.{meaning}
use Rattle.store.specs.Heap.{Heap}
use Rattle.store.specs.Meaning.{Out}
use Rattle.store.proofs.Fresh.{fresh_out}
use Rattle.store.proofs.Told.{kept_fresh}
use Rattle.store.proofs.stores.Counting.set_up.Goals as goal

pub returns : goal.returns
returns g c =
    let m = g.met.L.Lowering in
    let l = g.L.Lowering in
    let r = c.in_ok-fresh.ensures in
    let n = length c.args.cells.now in (
      r.0,
      r.1,
      kept_fresh l.lowered m.lawful l.okay l.tidy m.keeps n r.0.some r.0.most r.1,
      subst (λ (k : Heap). Out (meaning k.cells) []) (sym r.1) (fresh_out n r.0.some r.0.most),
    )
