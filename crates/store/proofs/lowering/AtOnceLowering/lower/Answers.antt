use Rattle.std.proofs.Common.{◌≡◌, ℕ, zero, suc, ◌<◌, ◌≤◌, [], Some, None, Option, sym, refl, ap, ◌∙◌, subst, arith}
use Rattle.store.specs.Cells.{total}
use Rattle.store.specs.Heap.{Heap, sunk, front, turned, turned_pile, drained, settled}
use Rattle.store.specs.Sound.{Okay, Piling}
use Rattle.store.specs.View.{heap}
use Rattle.store.specs.Sinks.{sink_here}
use Rattle.store.specs.Pile.{sink_piling, sink_went}
use Rattle.store.proofs.Weight.{load, load_is, turn_on, turn_lighter, drained_none}
use Rattle.store.proofs.lowering.AtOnceLowering.lower.Goals as goal

abbrev start : {h : Heap} → Okay h → Piling h None
start o = record { waiting = []; listed = o.listed; top = refl; free = o.chain; sound = o.sound }

pub sink-pile-requires : goal.sink-pile-requires
sink-pile-requires c =
    let h = heap c.args.table.now in
    record { inside = sink_here h c.args.c None c.requires.okay.sound c.requires.held; counted = omega (arith, c.requires.okay.sound.counted c.args.c, c.requires.held) }

pub emptying-init : goal.emptying-init
emptying-init c =
    let h = heap c.args.table.now in
    let p = sink_piling (start c.requires.okay) c.args.c c.requires.held in
    let q = subst (λ (k : Heap). Piling k (front h c.args.c None)) (sym c.sink-pile.ensures.table) p in
    (subst (λ (r : Option ℕ). Piling (heap c.sink-pile.new.self) r) (sym c.sink-pile.ensures.front) q, λ all l. (all, l, refl))

-- a turn in the midst of the loop
module _ (h k : Heap) (pile next : Option ℕ) (top : ℕ) (is : pile ≡ Some top) (p : Piling h pile) (e : k ≡ turned h top) (f : next ≡ turned_pile h top) where
  here : Piling h (Some top)
  here = subst (Piling h) is p

  on : Piling k next
  on = subst (λ (x : Heap). Piling x next) (sym e) (subst (λ (o : Option ℕ). Piling (turned h top) o) (sym f) (turn_on here))

  lighter : load k next < load h pile
  lighter = let q : load k next ≡ load (turned h top) (turned_pile h top) = (λ j. load (e j) (f j)) in omega (arith, turn_lighter here, q, ap (load h) is)

  further : (n : ℕ) (end : Heap) → load h pile ≤ n → drained n h pile ≡ end → (m : ℕ) × (load k next ≤ m) × (drained m k next ≡ end)
  unfolding drained
  further zero end l q = absurd (omega (arith, lighter))
  further (suc n) end l q = (n, omega (arith, lighter), (λ j. drained n (e j) (f j)) ∙ sym (ap (drained (suc n) h) is) ∙ q)

pub emptying-smaller : goal.emptying-smaller
emptying-smaller c = lighter (heap c.emptying.table) (heap c.take_topmost-pile.new.table) c.emptying.pile c.take_topmost-pile.result c.in-Some.top c.in-Some.is c.emptying.invariant.0 c.take_topmost-pile.ensures.table c.take_topmost-pile.ensures.pile

pub emptying-preserved : goal.emptying-preserved
emptying-preserved c = (
  on (heap c.emptying.table) (heap c.take_topmost-pile.new.table) c.emptying.pile c.take_topmost-pile.result c.in-Some.top c.in-Some.is c.emptying.invariant.0 c.take_topmost-pile.ensures.table c.take_topmost-pile.ensures.pile,
  λ all l.
      let r = c.emptying.invariant.1 all l in
      further (heap c.emptying.table) (heap c.take_topmost-pile.new.table) c.emptying.pile c.take_topmost-pile.result c.in-Some.top c.in-Some.is c.emptying.invariant.0 c.take_topmost-pile.ensures.table c.take_topmost-pile.ensures.pile r.0 _ r.1 r.2,
)

pub returns : goal.returns
unfolding settled
returns c =
    let h = heap c.args.table.now in
    let i = c.args.c in
    let s = start c.requires.okay in
    let w = sink_went s i c.requires.held in
    let l : load (sunk h i None) (front h i None) ≤ total h.cells = omega (arith, load_is (sink_piling s i c.requires.held), w.light) in
    let a = c.sink-pile.ensures.table in
    let b = c.sink-pile.ensures.front in
    let r = c.emptying.invariant.1 (total h.cells) (let q : load (heap c.sink-pile.new.self) c.sink-pile.result ≡ load (sunk h i None) (front h i None) = (λ j. load (a j) (b j)) in omega (arith, l, q)) in
    let n = heap c.emptying.table in
    sym (drained_none r.0 n) ∙ sym (ap (drained r.0 n) c.in_default.is) ∙ r.2 ∙ (λ j. drained (total h.cells) (a j) (b j))
