use Rattle.std.proofs.Common.{[], ◌∷◌}
use Rattle.store.specs.Cells.{links_of}
use Rattle.store.specs.Heap.{cell}
use Rattle.store.specs.Meaning.{parting}
use Rattle.store.specs.View.{heap}
use Rattle.store.proofs.Meets.{part_parted}
use Rattle.store.proofs.Told.{moved_at, handed, kept_after, told_after}
use Rattle.store.proofs.stores.CountingStore.part.Goals as goal

pub part-requires : goal.part-requires
part-requires g c = record { okay = ((g.met.L.Lowering.keeps.reads (heap c.args.self.now.table)).0 c.requires.ok).0; few = c.requires.few; held = c.requires.held }

pub returns : goal.returns
returns g c =
    let m = g.met.L.Lowering in
    let l = g.L.Lowering in
    let h = heap c.args.self.now.table in
    let o = ((m.keeps.reads h).0 c.requires.ok).0 in
    let i = c.args.h.cell in
    let e = c.part.ensures.table in
    record {
      ok = kept_after l.lowered m.lawful l.okay l.tidy m.keeps (parting i) c.requires.ok c.requires.held e;
      handed = handed (cell h i) c.part.result (o.sound.shaped i) c.part.ensures.first c.part.ensures.second;
      told = moved_at h (i ∷ []) (links_of (cell h i)) e (part_parted l.lowered m.lawful o i c.requires.held).1;
      did = told_after l.lowered m.tells h (parting i) e;
    }
