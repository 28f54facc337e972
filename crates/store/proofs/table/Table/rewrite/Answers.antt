use Rattle.std.proofs.Common.{◌∙◌}
use Rattle.store.specs.Cells.{links_of}
use Rattle.store.specs.Heap.{filled, lowered_all, rewritten}
use Rattle.store.specs.Interface.{asked_for}
use Rattle.store.proofs.Steps.{held_here, strip_lowerable, lowerable_at}
use Rattle.store.proofs.table.Table.rewrite.Goals as goal

pub strip-old-requires : goal.strip-old-requires
strip-old-requires g c = held_here c.requires.okay c.args.c c.requires.held

pub refill-requires : goal.refill-requires
refill-requires g c =
    let r = lowerable_at (strip_lowerable c.requires.okay c.args.c c.requires.held) c.strip-old.ensures.table c.strip-old.ensures.old in
    record { okay = r.okay; inside = r.inside; held = r.held }

pub returns : goal.returns
unfolding rewritten
returns g c =
    let e = c.strip-old.ensures.table in
    let f = c.strip-old.ensures.old in
    c.refill.ensures ∙ (λ i. filled (lowered_all g.L.Lowering.lowered (e i) (links_of (f i))) c.args.c (asked_for c.args.content.kind c.args.content.value c.args.content.links))
