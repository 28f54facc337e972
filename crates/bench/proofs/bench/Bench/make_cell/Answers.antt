use Rattle.std.proofs.Common.{Some, set, ap, ◌∙◌, subst, sym, to_z-of_z}
use Rattle.store.specs.declared.fault.Refused.{Refused}
use Rattle.store.specs.Meaning.{Node, Spare}
use Rattle.store.specs.Rooted.{root_at}
use Rattle.bench.specs.Machine.{taken}
use Rattle.bench.specs.Step.{link_roots}
use Rattle.bench.specs.Handing.{put_links}
use Rattle.bench.proofs.Facts.{asks, few_of}
use Rattle.bench.proofs.Passes.{make_passes, make_clear}
use Rattle.bench.proofs.Sending.{make_sent, make_refused}
use Rattle.bench.proofs.bench.Bench.make_cell.Goals as goal

pub take_content-content-requires : goal.take_content-content-requires
take_content-content-requires g c = make_passes c.args.self.now.roots.slots c.args.d c.args.kind c.args.value c.args.a c.args.b c.requires.passed

pub make-requires-clause-few : goal.make-requires-clause-few
make-requires-clause-few g c = few_of c.requires.stood

pub make-requires-clause-spare : goal.make-requires-clause-spare
make-requires-clause-spare g c = subst (Spare (g.S.Store.means c.args.self.now.store)) (sym (ap (λ (x : Node). x.links) c.take_content-content.ensures.asked)) ((asks c.requires.stood).spare (link_roots c.args.a c.args.b))

pub fill-requires-clause-empty : goal.fill-requires-clause-empty
fill-requires-clause-empty g c =
    ap (λ l. root_at l c.args.d) c.take_content-content.ensures.taken.left ∙ (make_clear c.args.self.now.roots.slots c.args.d c.args.kind c.args.value c.args.a c.args.b c.requires.passed).1

pub returns-in-Ok : goal.returns-in-Ok
returns-in-Ok g c =
    let v = to_z-of_z c.ranges.value in
    let t = c.take_content-content.ensures in
    make_sent g.S.Store c.args.self.now _ c.args.d c.args.kind c.args.value c.args.a c.args.b c.requires _ c.in-Ok.hold.cell
    (t.asked ∙ (λ i. record { kind = c.args.kind; value = v i; links = taken c.args.self.now.roots.slots (link_roots c.args.a c.args.b) }))
    (c.fill.ensures ∙ ap (λ l. set l c.args.d (Some c.in-Ok.hold.cell)) t.taken.left) c.in-Ok.ensures.ok c.in-Ok.ensures.told

pub returns-in-Err : goal.returns-in-Err
returns-in-Err g c =
    let t = c.in-Err.ensures.told in
    let two = c.take_content-content.new.roots.slots in
    make_refused g.S.Store c.args.self.now _ c.args.d c.args.kind c.args.value c.args.a c.args.b c.requires _ (ap (λ (r : Refused). r.fault) t.3)
    (c.fill_links.ensures ∙ ap (λ (r : Refused). put_links two c.args.a c.args.b r.links) t.3 ∙ c.take_content-content.ensures.taken.whole) c.in-Err.ensures.ok t.0 t.1 t.2
