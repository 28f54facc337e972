use Rattle.store.specs.Interface.{asked_for}
use Rattle.store.specs.Meaning.{rebuilding}
use Rattle.store.specs.View.{heap}
use Rattle.store.proofs.Told.{fitting_length, rebuild_told, kept_after, told_after}
use Rattle.store.proofs.stores.CountingStore.rebuild.Goals as goal

pub rebuild-requires : goal.rebuild-requires
rebuild-requires g c = record { okay = ((g.met.L.Lowering.keeps.reads (heap c.args.self.now.table)).0 c.requires.ok).0; held = c.requires.held; spare = c.requires.spare }

pub returns : goal.returns
returns g c =
    let m = g.met.L.Lowering in
    let l = g.L.Lowering in
    let h = heap c.args.self.now.table in
    let k = heap c.rebuild.new.self in
    let x = c.args.content in
    let i = c.args.old.cell in
    let q = rebuilding i (asked_for x.kind x.value x.links) in
    let e = c.rebuild.ensures.table in
    record {
      ok = kept_after l.lowered m.lawful l.okay l.tidy m.keeps q c.requires.ok (c.requires.held, fitting_length x.kind x.links x.fits, c.requires.spare) e;
      told = rebuild_told l.lowered m.lawful h k ((m.keeps.reads h).0 c.requires.ok).0 x.kind x.value x.links x.fits _ _ (told_after l.lowered m.tells h q e) (λ s. s) c.args.old c.requires.held c.requires.spare e c.rebuild.result c.rebuild.ensures.answer;
    }
