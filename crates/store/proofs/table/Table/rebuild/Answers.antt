use Rattle.std.proofs.Common.{◌≡◌, ℕ, ◌<◌, eqb, Some, Option, sym, refl, ap, ◌∙◌, subst, inl, inr, arith}
use Rattle.std.proofs.lemmas.Bool.{eq-eqb, ne_eqb, cond-true, cond-false}
use Rattle.store.specs.declared.cell.Cell.{Cell}
use Rattle.store.specs.declared.fault.StoreFault.TheVariants.{NoCell}
use Rattle.store.specs.Cells.{holds}
use Rattle.store.specs.Heap.{Heap, cell, rewritten, made_beside, rebuilt}
use Rattle.store.specs.Interface.{asked_for, on}
use Rattle.store.specs.Sound.{Okay}
use Rattle.store.specs.View.{heap}
use Rattle.store.specs.NumbersLemmas.{hit_self}
use Rattle.store.proofs.Steps.{held_here}
use Rattle.store.proofs.Meets.{make_built, fits_length}
use Rattle.store.proofs.table.Table.rebuild.Goals as goal

pub cell-requires : goal.cell-requires
cell-requires g c = held_here c.requires.okay c.args.old.cell c.requires.held

pub returns-then-cell-eq1 : goal.returns-then-cell-eq1
unfolding rebuilt
returns-then-cell-eq1 g c =
    let h = heap c.args.self.now in
    let x = asked_for c.args.content.kind c.args.content.value c.args.content.links in
    let i = c.args.old.cell in
    let one : (cell h i).count ≡ 1 = ap (λ (y : Cell). y.count) (sym c.cell.ensures) ∙ c.if-cell-eq1.true in
    record {
      table = c.rewrite.ensures ∙ sym (cond-true (eqb (cell h i).count 1) (rewritten g.L.Lowering.lowered h i x) (made_beside g.L.Lowering.lowered h i x h.free) (eq-eqb (cell h i).count 1 one));
      answer = inl (one, refl);
    }

pub lower-requires : goal.lower-requires
lower-requires g c =
    let h = heap c.args.self.now in
    let i = c.args.old.cell in
    let e = c.make_in-made.ensures.table in
    let x = asked_for c.args.content.kind c.args.content.value c.args.content.links in
    let b = make_built g.L.Lowering.lowered g.met.L.Lowering.lawful c.requires.okay x (fits_length c.args.content.kind (on c.args.content.links.first) (on c.args.content.links.second) c.args.content.fits) c.in-Some.c c.in-Some.is (λ d. omega (arith, c.requires.spare d)) in
    record {
      okay = subst (λ (k : Heap). Okay k) (sym e) b.okay;
      held = subst (λ (k : Heap). 0 < holds k.cells i) (sym e) (omega (arith, b.held i, c.requires.spare i, c.requires.held, hit_self i));
    }

pub returns-in-Some : goal.returns-in-Some
unfolding rebuilt made_beside
returns-in-Some g c =
    let h = heap c.args.self.now in
    let x = asked_for c.args.content.kind c.args.content.value c.args.content.links in
    let i = c.args.old.cell in
    let lower = g.L.Lowering.lowered in
    let more : (cell h i).count ≡ 1 → ⊥ = λ one. c.if-cell-eq1.false (ap (λ (y : Cell). y.count) c.cell.ensures ∙ one) in
    record {
      table = c.lower.ensures ∙ ap (λ (k : Heap). lower k i) c.make_in-made.ensures.table
          ∙ sym (ap (λ (o : Option ℕ). made_beside lower h i x o) c.in-Some.is)
          ∙ sym (cond-false (eqb (cell h i).count 1) (rewritten lower h i x) (made_beside lower h i x h.free) (ne_eqb (cell h i).count 1 more));
      answer = inr (more, c.in-Some.is ∙ ap (λ n. Some n) (sym c.make_in-made.ensures.given));
    }

pub returns-in-None : goal.returns-in-None
unfolding rebuilt made_beside
returns-in-None g c =
    let h = heap c.args.self.now in
    let x = asked_for c.args.content.kind c.args.content.value c.args.content.links in
    let i = c.args.old.cell in
    let lower = g.L.Lowering.lowered in
    let more : (cell h i).count ≡ 1 → ⊥ = λ one. c.if-cell-eq1.false (ap (λ (y : Cell). y.count) c.cell.ensures ∙ one) in
    record {
      table = sym (ap (λ (o : Option ℕ). made_beside lower h i x o) c.in-None.is)
          ∙ sym (cond-false (eqb (cell h i).count 1) (rewritten lower h i x) (made_beside lower h i x h.free) (ne_eqb (cell h i).count 1 more));
      answer = (more, c.in-None.is, λ i. record { old = c.args.old; links = c.into_links.ensures i; fault = NoCell });
    }
