use Rattle.std.proofs.Common.{[], ◌∷◌, arith}
use Rattle.store.specs.Interface.{spent}
use Rattle.beam.proofs.Outs.{spending, none_spend, one_spends}
use Rattle.beam.proofs.steps.make_tag.Goals as goal

pub make-requires-2 : goal.make-requires-2
make-requires-2 g c =
    let m = c.in_ok-marked.marked in
    spending (m.cell ∷ []) (spent c.one.result) c.in_ok-marked.ensures.ok
    (λ d. omega (arith, c.in_ok-marked.ensures.held d, none_spend c.none.ensures d)) (omega arith)
    (λ d. omega (arith, one_spends c.one.ensures d))

pub make-requires-3 : goal.make-requires-3
make-requires-3 g c =
    let w = c.in_ok-weighed.weighed in
    spending (w.cell ∷ []) (spent c.one-2.result) c.in_ok-weighed.ensures.ok
    (λ d. omega (arith, c.in_ok-marked.ensures.held d, c.in_ok-weighed.ensures.held d, none_spend c.none.ensures d, one_spends c.one.ensures d)) (omega arith) (λ d. omega (arith, one_spends c.one-2.ensures d))
