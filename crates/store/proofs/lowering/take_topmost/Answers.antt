use Rattle.std.proofs.Common.{◌≡◌, ℕ, ◌≤◌, Option, sym, ap, ◌∙◌, subst, arith}
use Rattle.store.specs.declared.cell.Cell.{Cell}
use Rattle.store.specs.Numbers.{times, opt}
use Rattle.store.specs.Cells.{holds}
use Rattle.store.specs.Heap.{Heap, cell, shed, sunk_all, front_all, turned, turned_pile}
use Rattle.store.specs.Sound.{Piling}
use Rattle.store.specs.View.{heap}
use Rattle.store.specs.NumbersLemmas.{times_append}
use Rattle.store.specs.Pile.{Top, topmost, shed_here, shed_piling, shed_held, sinks, sunk_more, front_more}
use Rattle.store.proofs.lowering.take_topmost.Goals as goal

-- what the second lowering meets
record Halfway (k : Heap) (pile : Option ℕ) (link : Option ℕ) : Type 0 where
  piling : Piling k pile
  held : (d : ℕ) → times d (opt link) ≤ holds k.cells d

module _ (h : Heap) (c : ℕ) (t : Top h c) where
  first : Halfway (shed h c) (cell h c).next (cell h c).link0
  first = record {
    piling = shed_piling h c t.below t.listed t.chain t.free t.sound;
    held = λ d. omega (arith, shed_held h c t.below t.listed t.chain t.free t.sound d, times_append d (opt (cell h c).link0) (opt (cell h c).link1));
  }

  second : Halfway (sunk_all (shed h c) (cell h c).next (opt (cell h c).link0)) (front_all (shed h c) (cell h c).next (opt (cell h c).link0)) (cell h c).link1
  second =
      let r = sinks (opt (cell h c).link0) (shed h c) (cell h c).next first.piling first.held in
      record {
        piling = r.0;
        held = λ d. omega (arith, r.1.lowered.held d, shed_held h c t.below t.listed t.chain t.free t.sound d, times_append d (opt (cell h c).link0) (opt (cell h c).link1));
      }

  turns : (turned h c ≡ sunk_all (sunk_all (shed h c) (cell h c).next (opt (cell h c).link0)) (front_all (shed h c) (cell h c).next (opt (cell h c).link0)) (opt (cell h c).link1))
      × (turned_pile h c ≡ front_all (sunk_all (shed h c) (cell h c).next (opt (cell h c).link0)) (front_all (shed h c) (cell h c).next (opt (cell h c).link0)) (opt (cell h c).link1))
  turns = (sunk_more (opt (cell h c).link0) (opt (cell h c).link1) (shed h c) (cell h c).next, front_more (opt (cell h c).link0) (opt (cell h c).link1) (shed h c) (cell h c).next)

pub shed-old-requires : goal.shed-old-requires
shed-old-requires c =
    let h = heap c.args.table.now in
    let t = topmost c.requires in
    shed_here h c.args.top t.below t.listed t.chain t.free t.sound

pub sink_link-pile-requires : goal.sink_link-pile-requires
sink_link-pile-requires c =
    let h = heap c.args.table.now in
    let r = subst (λ (o : Cell). Halfway (shed h c.args.top) o.next o.link0) (sym c.shed-old.ensures.old) (first h c.args.top (topmost c.requires)) in
    let q = subst (λ (k : Heap). Halfway k c.shed-old.result.next c.shed-old.result.link0) (sym c.shed-old.ensures.table) r in
    record { piling = q.piling; held = q.held }

-- the table and the pile after the first lowering
module _ (h : Heap) (c : ℕ) (k l : Heap) (o : Cell) (p : Option ℕ) (e : k ≡ shed h c) (f : o ≡ cell h c) (g : l ≡ sunk_all k o.next (opt o.link0)) (q : p ≡ front_all k o.next (opt o.link0)) where
  half_table : l ≡ sunk_all (shed h c) (cell h c).next (opt (cell h c).link0)
  half_table = g ∙ ap (λ (x : Heap). sunk_all x o.next (opt o.link0)) e ∙ ap (λ (x : Cell). sunk_all (shed h c) x.next (opt x.link0)) f

  half_pile : p ≡ front_all (shed h c) (cell h c).next (opt (cell h c).link0)
  half_pile = q ∙ ap (λ (x : Heap). front_all x o.next (opt o.link0)) e ∙ ap (λ (x : Cell). front_all (shed h c) x.next (opt x.link0)) f

pub sink_link-requires : goal.sink_link-requires
sink_link-requires c =
    let h = heap c.args.table.now in
    let i = c.args.top in
    let a = half_table h i (heap c.shed-old.new.self) (heap c.sink_link-pile.new.table) c.shed-old.result c.sink_link-pile.result c.shed-old.ensures.table c.shed-old.ensures.old c.sink_link-pile.ensures.table c.sink_link-pile.ensures.pile in
    let b = half_pile h i (heap c.shed-old.new.self) (heap c.sink_link-pile.new.table) c.shed-old.result c.sink_link-pile.result c.shed-old.ensures.table c.shed-old.ensures.old c.sink_link-pile.ensures.table c.sink_link-pile.ensures.pile in
    let s = second h i (topmost c.requires) in
    let r = subst (λ (k : Heap). Halfway k (front_all (shed h i) (cell h i).next (opt (cell h i).link0)) (cell h i).link1) (sym a) s in
    let q = subst (λ (p : Option ℕ). Halfway (heap c.sink_link-pile.new.table) p (cell h i).link1) (sym b) r in
    let w = subst (λ (o : Cell). Halfway (heap c.sink_link-pile.new.table) c.sink_link-pile.result o.link1) (sym c.shed-old.ensures.old) q in
    record { piling = w.piling; held = w.held }

pub returns : goal.returns
returns c =
    let h = heap c.args.table.now in
    let i = c.args.top in
    let a = half_table h i (heap c.shed-old.new.self) (heap c.sink_link-pile.new.table) c.shed-old.result c.sink_link-pile.result c.shed-old.ensures.table c.shed-old.ensures.old c.sink_link-pile.ensures.table c.sink_link-pile.ensures.pile in
    let b = half_pile h i (heap c.shed-old.new.self) (heap c.sink_link-pile.new.table) c.shed-old.result c.sink_link-pile.result c.shed-old.ensures.table c.shed-old.ensures.old c.sink_link-pile.ensures.table c.sink_link-pile.ensures.pile in
    let k = heap c.sink_link-pile.new.table in
    let p = c.sink_link-pile.result in
    let x = c.shed-old.result.link1 in
    let y : x ≡ (cell h i).link1 = ap (λ (o : Cell). o.link1) c.shed-old.ensures.old in
    let z = turns h i (topmost c.requires) in
    record {
      table = c.sink_link.ensures.table ∙ (λ j. sunk_all (a j) (b j) (opt (y j))) ∙ sym z.0;
      pile = c.sink_link.ensures.pile ∙ (λ j. front_all (a j) (b j) (opt (y j))) ∙ sym z.1;
    }
