use Rattle.std.proofs.Common.{[], ◌∷◌, arith}
use Rattle.store.specs.Interface.{spent}
use Rattle.beam.proofs.Outs.{few_out, spending, one_spends}
use Rattle.beam.proofs.steps.turn.Goals as goal

pub make-requires : goal.make-requires
make-requires g c =
    let l = c.args.lift in
    spending (l.tag.cell ∷ (l.pose.cell ∷ (l.state.cell ∷ []))) (spent c.one.result) c.requires.ok c.requires.out (omega arith) (λ d. omega (arith, one_spends c.one.ensures d))

pub release-requires-clause-few : goal.release-requires-clause-few
release-requires-clause-few g c =
    let l = c.args.lift in
    few_out (l.tag.cell ∷ (l.state.cell ∷ [])) (λ d. omega (arith, c.in-Err.ensures.held d, one_spends c.one.ensures d)) (omega arith)

pub release-requires-in-Err-clause-few : goal.release-requires-in-Err-clause-few
release-requires-in-Err-clause-few g c =
    let l = c.args.lift in
    few_out (l.state.cell ∷ []) (λ d. omega (arith, c.in-Err.ensures.held d, one_spends c.one.ensures d)) (omega arith)
