use Rattle.std.proofs.Common.{ℕ, ◌≤◌, sym, ap, ◌∙◌, subst, arith}
use Rattle.store.specs.Numbers.{times, opt}
use Rattle.store.specs.Cells.{holds}
use Rattle.store.specs.Heap.{Heap, lowered_all}
use Rattle.store.specs.Sound.{Okay}
use Rattle.store.specs.View.{heap}
use Rattle.store.specs.NumbersLemmas.{times_append}
use Rattle.store.proofs.Steps.{lowers, lowered_more}
use Rattle.store.proofs.table.Table.lower_links.Goals as goal

pub lower_link-requires-2 : goal.lower_link-requires-2
lower_link-requires-2 g c =
    let a = opt c.args.old.link0 in
    let b = opt c.args.old.link1 in
    let r = lowers g.L.Lowering.lowered g.met.L.Lowering.lawful a (heap c.args.self.now) c.requires.okay (λ d. omega (arith, c.requires.held d, times_append d a b)) in
    record {
      okay = subst (λ (k : Heap). Okay k) (sym c.lower_link.ensures) r.0;
      held = subst (λ (k : Heap). (d : ℕ) → times d b ≤ holds k.cells d) (sym c.lower_link.ensures) (λ d. omega (arith, r.1.held d, c.requires.held d, times_append d a b));
    }

pub returns : goal.returns
returns g c =
    c.lower_link-2.ensures
    ∙ ap (λ (k : Heap). lowered_all g.L.Lowering.lowered k (opt c.args.old.link1)) c.lower_link.ensures
    ∙ sym (lowered_more g.L.Lowering.lowered (opt c.args.old.link0) (opt c.args.old.link1) (heap c.args.self.now))
