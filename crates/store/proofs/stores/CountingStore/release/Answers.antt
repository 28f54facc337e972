use Rattle.std.proofs.Common.{[], ◌∷◌}
use Rattle.store.specs.Meaning.{releasing}
use Rattle.store.specs.View.{heap}
use Rattle.store.proofs.Meets.{release_moved}
use Rattle.store.proofs.Told.{moved_at, kept_after, told_after}
use Rattle.store.proofs.stores.CountingStore.release.Goals as goal

pub lower-requires : goal.lower-requires
lower-requires g c = record { okay = ((g.met.L.Lowering.keeps.reads (heap c.args.self.now.table)).0 c.requires.ok).0; held = c.requires.held }

pub returns : goal.returns
returns g c =
    let m = g.met.L.Lowering in
    let l = g.L.Lowering in
    let h = heap c.args.self.now.table in
    let i = c.args.h.cell in
    let e = c.lower.ensures in
    record {
      ok = kept_after l.lowered m.lawful l.okay l.tidy m.keeps (releasing i) c.requires.ok c.requires.held e;
      told = moved_at h (i ∷ []) [] e (release_moved l.lowered m.lawful ((m.keeps.reads h).0 c.requires.ok).0 i c.requires.held);
      did = told_after l.lowered m.tells h (releasing i) e;
    }
