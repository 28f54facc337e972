use Rattle.std.proofs.Common.{[], ◌∷◌, ap, arith}
use Rattle.store.specs.Numbers.{hit}
use Rattle.store.specs.Interface.{spent}
use Rattle.beam.proofs.Outs.{few_out, spending, none_spend, one_spends}
use Rattle.beam.proofs.trials.upper_released.Goals as goal

pub copy-kept-requires-clause-few : goal.copy-kept-requires-clause-few
copy-kept-requires-clause-few g c = few_out (c.in-Ok.leaf.cell ∷ []) (λ d. omega (arith, c.in-Ok.ensures.held d, none_spend c.leaf_of.ensures d)) (omega arith)

pub make-requires-2 : goal.make-requires-2
make-requires-2 g c =
    let a = c.in-Ok.leaf in
    spending (a.cell ∷ (a.cell ∷ [])) (spent c.one.result) c.copy-kept.ensures.ok
    (λ d. omega (arith, c.in-Ok.ensures.held d, none_spend c.leaf_of.ensures d)) (omega arith)
    (λ d. omega (arith, one_spends c.one.ensures d))

pub release-requires-clause-few : goal.release-requires-clause-few
release-requires-clause-few g c =
    let a = c.in-Ok.leaf in
    few_out (a.cell ∷ [])
    (λ d. omega (arith, c.in-Ok.ensures.held d, c.in_default-make.ensures.held d, none_spend c.leaf_of.ensures d, one_spends c.one.ensures d)) (omega arith)

pub release-requires-2-clause-few : goal.release-requires-2-clause-few
release-requires-2-clause-few g c =
    let a = c.in-Ok.leaf in
    few_out (c.in-Ok-make.upper.cell ∷ (a.cell ∷ []))
    (λ d. omega (arith, c.in-Ok.ensures.held d, c.in-Ok-make.ensures.held d, none_spend c.leaf_of.ensures d, one_spends c.one.ensures d)) (omega arith)

pub rebuild-requires : goal.rebuild-requires
rebuild-requires g c =
    let a = c.in-Ok.leaf in
    spending (a.cell ∷ []) (c.copy-kept.result.cell ∷ spent c.leaf_of-2.result.links) c.release-2.ensures.ok
    (λ d. omega (arith, c.in-Ok.ensures.held d, c.in-Ok-make.ensures.held d, none_spend c.leaf_of.ensures d, one_spends c.one.ensures d)) (omega arith)
    (λ d. omega (arith, ap (hit d) c.copy-kept.ensures.same, none_spend c.leaf_of-2.ensures d))

pub release-requires-in-Ok-rebuild-clause-few : goal.release-requires-in-Ok-rebuild-clause-few
release-requires-in-Ok-rebuild-clause-few g c =
    let a = c.in-Ok.leaf in
    few_out (c.in-Ok-rebuild.leaf.cell ∷ [])
    (λ d. omega (arith, c.in-Ok.ensures.held d, c.in-Ok-make.ensures.held d, c.in-Ok-rebuild.ensures.told.held d, ap (hit d) c.copy-kept.ensures.same, none_spend c.leaf_of.ensures d, one_spends c.one.ensures d, none_spend c.leaf_of-2.ensures d)) (omega arith)
