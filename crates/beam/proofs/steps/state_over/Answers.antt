use Rattle.std.proofs.Common.{[], ◌∷◌, ap, arith}
use Rattle.store.specs.Numbers.{hit}
use Rattle.store.specs.Interface.{spent}
use Rattle.beam.proofs.Outs.{few_out, spending, two_spend}
use Rattle.beam.proofs.steps.state_over.Goals as goal

pub copy-t-requires-clause-few : goal.copy-t-requires-clause-few
copy-t-requires-clause-few g c = few_out (c.args.tag.cell ∷ (c.args.pose.cell ∷ (c.args.old.cell ∷ []))) c.requires.out (omega arith)

pub copy-p-requires-clause-few : goal.copy-p-requires-clause-few
copy-p-requires-clause-few g c =
    let t = c.args.tag.cell in
    few_out (t ∷ (t ∷ (c.args.pose.cell ∷ (c.args.old.cell ∷ [])))) (λ d. omega arith) (omega arith)

pub rebuild-requires : goal.rebuild-requires
rebuild-requires g c =
    let t = c.args.tag.cell in
    let p = c.args.pose.cell in
    spending (t ∷ (t ∷ (p ∷ (p ∷ (c.args.old.cell ∷ []))))) (c.args.old.cell ∷ spent c.two.result) c.copy-p.ensures.ok (λ d. omega arith) (omega arith)
    (λ d. omega (arith, two_spend c.two.ensures d, ap (hit d) c.copy-t.ensures.same, ap (hit d) c.copy-p.ensures.same))
