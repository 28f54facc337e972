use Rattle.std.proofs.Common.{[], ◌∷◌, refl, arith}
use Rattle.store.specs.Meaning.{copying}
use Rattle.store.specs.View.{heap}
use Rattle.store.proofs.Reach.{count_small}
use Rattle.store.proofs.Steps.{held_here}
use Rattle.store.proofs.Meets.{copy_copied}
use Rattle.store.proofs.Told.{moved_at, kept_after, told_after}
use Rattle.store.proofs.stores.CountingStore.copy.Goals as goal

pub raise-requires : goal.raise-requires
raise-requires g c =
    let o = ((g.met.L.Lowering.keeps.reads (heap c.args.self.now.table)).0 c.requires.ok).0 in
    record { inside = held_here o c.args.h.now.cell c.requires.held; fits = omega (arith, count_small o.sound c.requires.few c.args.h.now.cell) }

pub returns : goal.returns
returns g c =
    let m = g.met.L.Lowering in
    let l = g.L.Lowering in
    let h = heap c.args.self.now.table in
    let i = c.args.h.now.cell in
    let e = c.raise.ensures in
    record {
      ok = kept_after l.lowered m.lawful l.okay l.tidy m.keeps (copying i) c.requires.ok c.requires.held e;
      same = refl;
      told = moved_at h [] (i ∷ []) e (copy_copied ((m.keeps.reads h).0 c.requires.ok).0 i c.requires.held).1;
      did = told_after l.lowered m.tells h (copying i) e;
    }
