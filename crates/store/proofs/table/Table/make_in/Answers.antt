use Rattle.std.proofs.Common.{refl, ◌∙◌}
use Rattle.store.specs.Cells.{links_of}
use Rattle.store.specs.Heap.{filled, lowered_all, made_in}
use Rattle.store.specs.Interface.{asked_for}
use Rattle.store.proofs.Reach.{first_free}
use Rattle.store.proofs.Steps.{first_here, claim_lowerable, lowerable_at}
use Rattle.store.proofs.table.Table.make_in.Goals as goal

pub claim-old-requires : goal.claim-old-requires
claim-old-requires g c = first_here (first_free c.requires.okay c.requires.first)

pub refill-requires : goal.refill-requires
refill-requires g c =
    let r = lowerable_at (claim_lowerable (first_free c.requires.okay c.requires.first)) c.claim-old.ensures.table c.claim-old.ensures.old in
    record { okay = r.okay; inside = r.inside; held = r.held }

pub returns : goal.returns
unfolding made_in
returns g c =
    let e = c.claim-old.ensures.table in
    let f = c.claim-old.ensures.old in
    record {
      table = c.refill.ensures ∙ (λ i. filled (lowered_all g.L.Lowering.lowered (e i) (links_of (f i))) c.args.c (asked_for c.args.content.kind c.args.content.value c.args.content.links));
      given = refl;
    }
