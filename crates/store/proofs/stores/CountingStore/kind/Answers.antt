use Rattle.store.specs.View.{heap}
use Rattle.store.proofs.Reach.{reached_inside}
use Rattle.store.proofs.stores.CountingStore.kind.Goals as goal

pub cell-requires : goal.cell-requires
cell-requires g c = let o = ((g.met.L.Lowering.keeps.reads (heap c.args.self.now.table)).0 c.requires.ok).0 in reached_inside o.sound c.requires.reached
