use Rattle.std.proofs.Common.{Some, set, ap, ◌∙◌, subst, sym, to_z-of_z}
use Rattle.store.specs.declared.fault.RefusedRebuild.{RefusedRebuild}
use Rattle.store.specs.Meaning.{Node, Spare, less}
use Rattle.store.specs.Rooted.{root_at}
use Rattle.bench.specs.Machine.{taken, spent, spend}
use Rattle.bench.specs.Step.{link_roots}
use Rattle.bench.specs.Handing.{put, put_links, LinksPassed}
use Rattle.bench.proofs.Facts.{asks, few_of, held_of}
use Rattle.bench.proofs.Passes.{rebuild_passes}
use Rattle.bench.proofs.Slots.{spend_none, spent_keeps}
use Rattle.bench.proofs.Taking.{restored}
use Rattle.bench.proofs.Sending.{rebuild_sent, rebuild_refused}
use Rattle.bench.proofs.bench.Bench.rebuild_cell.Goals as goal

pub take_content-content-requires : goal.take_content-content-requires
take_content-content-requires g c =
    subst (λ l. LinksPassed l c.args.kind c.args.a c.args.b) (sym c.take-old.ensures.emptied) (rebuild_passes c.args.self.now.roots.slots c.args.r c.args.kind c.args.value c.args.a c.args.b c.requires.passed)

pub rebuild-requires-clause-few : goal.rebuild-requires-clause-few
rebuild-requires-clause-few g c = few_of c.requires.stood

pub rebuild-requires-clause-held : goal.rebuild-requires-clause-held
rebuild-requires-clause-held g c = held_of c.args.r c.requires.stood c.take-old.ensures.given

-- the links that are taken led from the roots after the old one is emptied
pub rebuild-requires-clause-spare : goal.rebuild-requires-clause-spare
rebuild-requires-clause-spare g c =
    subst (Spare (less (g.S.Store.means c.args.self.now.store) c.take-old.result.cell))
    (sym (ap (λ (x : Node). x.links) c.take_content-content.ensures.asked ∙ ap (λ l. taken l (link_roots c.args.a c.args.b)) c.take-old.ensures.emptied))
    ((asks c.requires.stood).spare_less c.args.r c.take-old.result.cell (sym c.take-old.ensures.given) (link_roots c.args.a c.args.b))

-- the old root stays empty while the links are taken
pub fill-requires-clause-empty : goal.fill-requires-clause-empty
fill-requires-clause-empty g c =
    let slots = c.args.self.now.roots.slots in
    let rs = link_roots c.args.a c.args.b in
    ap (λ l. root_at l c.args.r) (c.take_content-content.ensures.taken.left ∙ ap (λ l. spent l rs) c.take-old.ensures.emptied) ∙ spent_keeps (spend slots c.args.r) rs c.args.r (spend_none slots c.args.r)

pub returns-in-Ok : goal.returns-in-Ok
returns-in-Ok g c =
    let v = to_z-of_z c.ranges.value in
    let t = c.take_content-content.ensures in
    let z = c.take-old.ensures.emptied in
    rebuild_sent g.S.Store c.args.self.now _ c.args.r c.args.kind c.args.value c.args.a c.args.b c.take-old.result.cell c.requires c.take-old.ensures.given _ c.in-Ok.hold.cell
    (t.asked ∙ (λ i. record { kind = c.args.kind; value = v i; links = taken (z i) (link_roots c.args.a c.args.b) }))
    (c.fill.ensures ∙ ap (λ l. set l c.args.r (Some c.in-Ok.hold.cell)) (t.taken.left ∙ ap (λ l. spent l (link_roots c.args.a c.args.b)) z)) c.in-Ok.ensures.ok c.in-Ok.ensures.told

pub returns-in-Err : goal.returns-in-Err
returns-in-Err g c =
    let t = c.in-Err.ensures.told in
    let slots = c.args.self.now.roots.slots in
    let two = c.take_content-content.new.roots.slots in
    let links = c.fill_links.ensures ∙ ap (λ (r : RefusedRebuild). put_links two c.args.a c.args.b r.links) t.3 ∙ c.take_content-content.ensures.taken.whole ∙ c.take-old.ensures.emptied in
    let named = ap (λ (r : RefusedRebuild). Some r.old.cell) t.3 ∙ c.take-old.ensures.given in
    rebuild_refused g.S.Store c.args.self.now _ c.args.r c.args.kind c.args.value c.args.a c.args.b c.take-old.result.cell c.requires c.take-old.ensures.given _ (ap (λ (r : RefusedRebuild). r.fault) t.3)
    (c.fill-in-Err.ensures ∙ (λ i. put (links i) c.args.r (named i)) ∙ restored slots c.args.r) c.in-Err.ensures.ok t.0 t.1 t.2
