use Rattle.store.specs.View.{heap}
use Rattle.store.proofs.Reach.{reached_inside}
use Rattle.store.proofs.stores.CountingStore.link.Goals as goal

pub link-requires : goal.link-requires
link-requires g c = let o = ((g.met.L.Lowering.keeps.reads (heap c.args.self.now.table)).0 c.requires.ok).0 in record { inside = reached_inside o.sound c.requires.reached; shaped = o.sound.shaped c.args.c }
