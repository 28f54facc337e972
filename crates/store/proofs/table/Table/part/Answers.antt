use Rattle.std.proofs.Common.{◌≡◌, ℕ, ◌+◌, ◌<◌, cond, eqb, length, Option, sym, ap, ◌∙◌, subst, arith}
use Rattle.std.proofs.lemmas.Bool.{eq-eqb, ne_eqb, cond-true, cond-false}
use Rattle.store.specs.declared.cell.Cell.{Cell}
use Rattle.store.specs.declared.table.Table.{Table}
use Rattle.store.specs.Numbers.{times, In, opt}
use Rattle.store.specs.Cells.{holds, links_of, meaning}
use Rattle.store.specs.Meaning.{Few}
use Rattle.store.specs.Heap.{Heap, cell, stripped, raised_all, parted}
use Rattle.store.specs.Sound.{Okay}
use Rattle.store.specs.View.{heap}
use Rattle.store.specs.NumbersLemmas.{times_append}
use Rattle.store.specs.CellsLemmas.{inlinks_at, opt_length}
use Rattle.store.proofs.Reach.{count_small}
use Rattle.store.proofs.Steps.{held_here, strip, strip_held, raises, raised_more}
use Rattle.store.proofs.table.Table.part.Goals as goal
use Rattle.store.proofs.table.Table.part.Goals.{then-old-eq1, else-old-eq1}

-- the cells that a link leads to can be raised
record Raisable (k : Heap) (link : Option ℕ) : Type 0 where
  inside : (d : ℕ) → In d (opt link) → d < length k.cells
  fits : (d : ℕ) → In d (opt link) → (cell k d).count < 65535

-- what is lowered at the end
record Last (k : Heap) (c : ℕ) : Type 0 where
  okay : Okay k
  held : 0 < holds k.cells c

module _ {h : Heap} (o : Okay h) (few : Few (meaning h.cells)) (c : ℕ) (out : 0 < holds h.cells c) where
  both : (d : ℕ) → times d (links_of (cell h c)) ≡ times d (opt (cell h c).link0) + times d (opt (cell h c).link1)
  both d = times_append d (opt (cell h c).link0) (opt (cell h c).link1)

  busy : (d : ℕ) → In d (links_of (cell h c)) → 0 < (cell h d).count
  busy d i = omega (arith, inlinks_at d h.cells c, o.sound.counted d)

  first : Raisable h (cell h c).link0
  first = record { inside = λ d i. o.sound.inside c d (omega (arith, both d)); fits = λ d i. omega (arith, count_small o.sound few d) }

  second : Raisable (raised_all h (opt (cell h c).link0)) (cell h c).link1
  second =
      let r = raises (opt (cell h c).link0) h o (λ d i. busy d (omega (arith, both d))) in
      record {
        inside = λ d i. let l = o.sound.inside c d (omega (arith, both d)) in omega (arith, l, r.1.sized);
        fits = λ d i. omega (arith, count_small o.sound few d, r.1.count d, opt_length (cell h c).link0 d);
      }

  stripped_last : Last (stripped h c) c
  stripped_last = record { okay = strip o c out; held = omega (arith, strip_held o c out c) }

  raised_last : Last (raised_all h (links_of (cell h c))) c
  raised_last = let r = raises (links_of (cell h c)) h o busy in record { okay = r.0; held = omega (arith, r.1.held c) }

pub cell-old-requires : goal.cell-old-requires
cell-old-requires g c = held_here c.requires.okay c.args.h.cell c.requires.held

pub strip-requires : goal.strip-requires
strip-requires g c = held_here c.requires.okay c.args.h.cell c.requires.held

pub raise_link-requires : goal.raise_link-requires
raise_link-requires g c =
    let r = subst (λ (x : Cell). Raisable (heap c.args.self.now) x.link0) (sym c.cell-old.ensures) (first c.requires.okay c.requires.few c.args.h.cell c.requires.held) in
    record { inside = r.inside; fits = r.fits }

-- the table after the links are raised
module _ (h k l : Heap) (i : ℕ) (x : Cell) (e : x ≡ cell h i) (f : k ≡ raised_all h (opt x.link0)) where
  raised_first : k ≡ raised_all h (opt (cell h i).link0)
  raised_first = f ∙ ap (λ (y : Cell). raised_all h (opt y.link0)) e

  raised_both : l ≡ raised_all k (opt x.link1) → l ≡ raised_all h (links_of (cell h i))
  raised_both g = g ∙ (λ j. raised_all (raised_first j) (opt (e j).link1)) ∙ sym (raised_more (opt (cell h i).link0) (opt (cell h i).link1) h)

pub raise_link-requires-else-old-eq1 : goal.raise_link-requires-else-old-eq1
raise_link-requires-else-old-eq1 g c =
    let h = heap c.args.self.now in
    let i = c.args.h.cell in
    let e = c.cell-old.ensures in
    let f = raised_first h (heap c.raise_link.new.self) h i c.cell-old.result e c.raise_link.ensures in
    let s = second c.requires.okay c.requires.few i c.requires.held in
    let q = subst (λ (k : Heap). Raisable k (cell h i).link1) (sym f) s in
    let r = subst (λ (x : Cell). Raisable (heap c.raise_link.new.self) x.link1) (sym e) q in
    record { inside = r.inside; fits = r.fits }

abbrev seen : Table → Heap
seen t = heap t

-- either way the table is as the last lowering asks, and so after it
pub lower-requires : goal.lower-requires
lower-requires g c =
    let h = heap c.args.self.now in
    let i = c.args.h.cell in
    let o = c.requires.okay in
    let r : Last (heap c.if-old-eq1.self) i = elim c.if-old-eq1.branch [
      | then-old-eq1 w ↦ subst (λ (k : Heap). Last k i) (sym (ap seen w.self-is ∙ w.strip.ensures.table)) (stripped_last o c.requires.few i c.requires.held)
      | else-old-eq1 w ↦ subst (λ (k : Heap). Last k i)
          (sym (ap seen w.self-is ∙ raised_both h (heap w.raise_link.new.self) (heap w.raise_link-else-old-eq1.new.self) i c.cell-old.result c.cell-old.ensures w.raise_link.ensures w.raise_link-else-old-eq1.ensures))
          (raised_last o c.requires.few i c.requires.held)
    ] in
    record { okay = r.okay; held = r.held }

pub returns : goal.returns
unfolding parted
returns g c =
    let h = heap c.args.self.now in
    let i = c.args.h.cell in
    let lower = g.L.Lowering.lowered in
    let n = (cell h i).count in
    let a = lower (stripped h i) i in
    let b = lower (raised_all h (links_of (cell h i))) i in
    let e = c.cell-old.ensures in
    let r : lower (heap c.if-old-eq1.self) i ≡ cond (eqb n 1) a b = elim c.if-old-eq1.branch [
      | then-old-eq1 w ↦ ap (λ (k : Heap). lower k i) (ap seen w.self-is ∙ w.strip.ensures.table)
          ∙ sym (cond-true (eqb n 1) a b (eq-eqb n 1 (ap (λ (y : Cell). y.count) (sym e) ∙ w.if-old-eq1.true)))
      | else-old-eq1 w ↦ ap (λ (k : Heap). lower k i)
          (ap seen w.self-is ∙ raised_both h (heap w.raise_link.new.self) (heap w.raise_link-else-old-eq1.new.self) i c.cell-old.result e w.raise_link.ensures w.raise_link-else-old-eq1.ensures)
          ∙ sym (cond-false (eqb n 1) a b (ne_eqb n 1 (λ one. w.if-old-eq1.false (ap (λ (y : Cell). y.count) e ∙ one))))
    ] in
    record {
      table = c.lower.ensures ∙ r;
      first = c.given_up.ensures ∙ ap (λ (x : Cell). x.link0) e;
      second = c.given_up-2.ensures ∙ ap (λ (x : Cell). x.link1) e;
    }
