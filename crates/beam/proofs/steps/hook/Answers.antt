use Rattle.std.proofs.Common.{[], ◌∷◌, arith}
use Rattle.store.specs.Interface.{spent}
use Rattle.beam.proofs.Outs.{few_out, spending, none_spend}
use Rattle.beam.proofs.steps.hook.Goals as goal

pub make-requires : goal.make-requires
make-requires g c = spending (c.args.tag.cell ∷ []) (spent c.none.result) c.requires.ok c.requires.out (omega arith) (λ d. omega (arith, none_spend c.none.ensures d))

pub release-requires-clause-few : goal.release-requires-clause-few
release-requires-clause-few g c = few_out (c.args.tag.cell ∷ []) (λ d. omega (arith, c.in-Err.ensures.held d, none_spend c.none.ensures d)) (omega arith)

pub copy-old-requires-clause-few : goal.copy-old-requires-clause-few
copy-old-requires-clause-few g c = few_out (c.in-Ok.pose.cell ∷ (c.args.tag.cell ∷ [])) (λ d. omega (arith, c.in-Ok.ensures.held d, none_spend c.none.ensures d)) (omega arith)
