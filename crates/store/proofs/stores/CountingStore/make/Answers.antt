use Rattle.store.specs.Interface.{asked_for}
use Rattle.store.specs.Meaning.{making}
use Rattle.store.specs.View.{heap}
use Rattle.store.proofs.Told.{fitting_length, make_told, kept_after, told_after}
use Rattle.store.proofs.stores.CountingStore.make.Goals as goal

pub make-requires : goal.make-requires
make-requires g c = record { okay = ((g.met.L.Lowering.keeps.reads (heap c.args.self.now.table)).0 c.requires.ok).0; spare = c.requires.spare }

pub returns : goal.returns
returns g c =
    let m = g.met.L.Lowering in
    let l = g.L.Lowering in
    let h = heap c.args.self.now.table in
    let k = heap c.make.new.self in
    let x = c.args.content in
    let q = making (asked_for x.kind x.value x.links) in
    let e = c.make.ensures.table in
    record {
      ok = kept_after l.lowered m.lawful l.okay l.tidy m.keeps q c.requires.ok (fitting_length x.kind x.links x.fits, c.requires.spare) e;
      told = make_told l.lowered m.lawful h k ((m.keeps.reads h).0 c.requires.ok).0 x.kind x.value x.links x.fits _ _ (told_after l.lowered m.tells h q e) (λ s. s) c.requires.spare e c.make.result c.make.ensures.answer;
    }
