use Rattle.std.proofs.Common.{◌≡◌, ◌≢◌, ℕ, Some, Option, sym, ap, ◌∙◌, subst, to_z-of_z, w32}
use Rattle.store.specs.Meaning.{by_hold}
use Rattle.bench.specs.Handing.{Settable, put_links}
use Rattle.bench.proofs.Facts.{few_of, held_of}
use Rattle.bench.proofs.Sending.{match_settable, match_sent, other_sent}
use Rattle.bench.proofs.bench.Bench.match_root.Goals as goal

pub kind-requires-clause-reached : goal.kind-requires-clause-reached
kind-requires-clause-reached g c = by_hold (held_of c.args.r c.requires.stood c.cell-c.ensures)

pub returns-then-kind : goal.returns-then-kind
returns-then-kind g c =
    let other : c.kind.result ≢ c.args.kind = c.if-kind.true in
    other_sent g.S.Store c.args.self.now c.args.r c.args.kind c.args.a c.args.b c.cell-c.result c.requires c.cell-c.ensures (λ q. other (c.kind.ensures ∙ q))

pub value-value-requires-clause-reached : goal.value-value-requires-clause-reached
value-value-requires-clause-reached g c = by_hold (held_of c.args.r c.requires.stood c.cell-c.ensures)

pub part-links-requires-clause-few : goal.part-links-requires-clause-few
part-links-requires-clause-few g c = few_of c.requires.stood

pub part-links-requires-clause-held : goal.part-links-requires-clause-held
part-links-requires-clause-held g c = held_of c.args.r c.requires.stood c.take-hold.ensures.given

-- the root names one cell
one_cell : (o : Option ℕ) (i j : ℕ) → Some i ≡ o → Some j ≡ o → i ≡ j
one_cell o i j e f = let z : Some i ≡ Some j = e ∙ sym f in cc

pub fill_links-requires : goal.fill_links-requires
fill_links-requires g c =
    let m = g.S.Store.means c.args.self.now.store in
    let one = one_cell _ c.cell-c.result c.take-hold.result.cell c.cell-c.ensures c.take-hold.ensures.given in
    subst (λ l. Settable l c.args.a c.args.b c.part-links.result) (sym c.take-hold.ensures.emptied)
    (match_settable g.S.Store c.args.self.now c.args.r c.args.kind c.args.a c.args.b c.take-hold.result.cell c.requires c.take-hold.ensures.given
    (ap (λ i. (m.content i).kind) (sym one) ∙ sym c.kind.ensures ∙ c.if-kind.false) c.part-links.result c.part-links.ensures.handed)

pub returns : goal.returns
returns g c =
    let m = g.S.Store.means c.args.self.now.store in
    let one = one_cell _ c.cell-c.result c.take-hold.result.cell c.cell-c.ensures c.take-hold.ensures.given in
    let v = to_z-of_z {w = w32} (record { sfits = c.value-value.type_inv }) in
    match_sent g.S.Store c.args.self.now _ c.args.r c.args.kind c.args.a c.args.b c.take-hold.result.cell c.requires c.take-hold.ensures.given
    (ap (λ i. (m.content i).kind) (sym one) ∙ sym c.kind.ensures ∙ c.if-kind.false) c.part-links.result _ c.part-links.ensures.handed (v ∙ c.value-value.ensures ∙ ap (λ i. (m.content i).value) one)
    (c.fill_links.ensures ∙ ap (λ l. put_links l c.args.a c.args.b c.part-links.result) c.take-hold.ensures.emptied) c.part-links.ensures.ok c.part-links.ensures.told c.part-links.ensures.did
