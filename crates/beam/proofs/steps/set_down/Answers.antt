use Rattle.std.proofs.Common.{◌≡◌, ℕ, List, [], ◌∷◌, ◌++◌, ap, ◌∙◌, arith}
use Rattle.store.specs.declared.hold.Links.{Links}
use Rattle.store.specs.Numbers.{times, opt, item}
use Rattle.store.specs.Interface.{Handed, spent}
use Rattle.beam.proofs.Outs.{few_out, spending}
use Rattle.beam.proofs.steps.set_down.Goals as goal

-- the links handed over are the tag and the pose
handed_are : (l : Links) (xs : List ℕ) (t p : ℕ) → Handed l xs → xs ≡ t ∷ (p ∷ []) → spent l ≡ t ∷ (p ∷ [])
handed_are l xs t p h e = (λ i. opt (h.first i) ++ opt (h.second i)) ∙ ap (λ (ys : List ℕ). opt (item ys 0) ++ opt (item ys 1)) e

pub part-links-requires-clause-few : goal.part-links-requires-clause-few
part-links-requires-clause-few g c =
    let l = c.args.lift in
    few_out (l.tag.cell ∷ (l.pose.cell ∷ (l.state.cell ∷ []))) c.requires.out (omega arith)

pub release_links-requires : goal.release_links-requires
release_links-requires g c =
    let t = c.args.lift.tag.cell in
    let p = c.args.lift.pose.cell in
    let l = handed_are c.part-links.result _ t p c.part-links.ensures.handed c.requires.links in
    spending (t ∷ (p ∷ (t ∷ (p ∷ [])))) (spent c.part-links.result) c.part-links.ensures.ok
    (λ d. omega (arith, c.part-links.ensures.told.held d, c.requires.out d, ap (times d) c.requires.links)) (omega arith) (λ d. omega (arith, ap (times d) l))
