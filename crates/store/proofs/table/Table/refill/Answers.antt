use Rattle.std.proofs.Common.{◌<◌, length, sym, ap, ◌∙◌, subst, arith}
use Rattle.store.specs.Cells.{links_of}
use Rattle.store.specs.Heap.{Heap, filled}
use Rattle.store.specs.Interface.{asked_for}
use Rattle.store.specs.View.{heap}
use Rattle.store.proofs.Steps.{lowers}
use Rattle.store.proofs.table.Table.refill.Goals as goal

pub fill-requires : goal.fill-requires
fill-requires g c =
    let r = lowers g.L.Lowering.lowered g.met.L.Lowering.lawful (links_of c.args.old) (heap c.args.self.now) c.requires.okay c.requires.held in
    subst (λ (k : Heap). c.args.c < length k.cells) (sym c.lower_links.ensures) (omega (arith, r.1.sized, c.requires.inside))

pub returns : goal.returns
returns g c =
    c.fill.ensures ∙ ap (λ (k : Heap). filled k c.args.c (asked_for c.args.content.kind c.args.content.value c.args.content.links)) c.lower_links.ensures
