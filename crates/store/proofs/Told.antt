-- A store that stands on the table of counted cells answers as the interface asks.
use Rattle.std.proofs.Common.{◌≡◌, ℕ, ◌<◌, ◌≤◌, false, eqb, List, length, ℤ, is_some, None, Ok, Err, Option, Result, sym, refl, ap, ◌∙◌, subst, ⊎_elim, arith}
use Rattle.std.proofs.lemmas.Bool.{eq-eqb, ne_eqb, cond-true, cond-false, leb-false, lt-leb}
use Rattle.store.specs.declared.cell.Cell.{Cell}
use Rattle.store.specs.declared.hold.Hold.{Hold}
use Rattle.store.specs.declared.hold.Links.{Links}
use Rattle.store.specs.declared.fault.Refused.{Refused}
use Rattle.store.specs.declared.fault.RefusedRebuild.{RefusedRebuild}
use Rattle.store.specs.Meaning.{Node, arity, Meaning, Reached, less, Moved, Unchanged, Made, Full, Spare, Asked, making, rebuilding}
use Rattle.store.specs.Cells.{links_of, holds, meaning}
use Rattle.store.specs.Heap.{Heap, cell, made_in, rewritten, made_beside, rebuilt, after}
use Rattle.store.specs.Interface.{on, spent, Fits, asked_for, Handed, MakeTold, RebuildTold}
use Rattle.store.specs.Answers.{MakeAnswer, RebuildAnswer}
use Rattle.store.specs.Sound.{Fitting, Okay, Lawful}
use Rattle.store.specs.Setup.{fresh}
use Rattle.store.specs.Stores.{Keeping, Telling}
use Rattle.store.specs.NumbersLemmas.{item_first, item_second}
use Rattle.store.proofs.After.{Askable, after_okay, after_tidy}
use Rattle.store.proofs.Fresh.{fresh_okay, fresh_tidy}
use Rattle.store.proofs.Reach.{still_reached}
use Rattle.store.proofs.Meets.{make_made, rewrite_made, beside_made, make_full, rebuild_full, fits_length}

pub unchanged : {h k : Heap} → k ≡ h → Unchanged (meaning h.cells) (meaning k.cells)
unchanged {h} {k} e = subst (λ (x : Heap). Unchanged (meaning h.cells) (meaning x.cells)) (sym e) (record { sized = refl; held = λ d. refl; kept = λ d r q. refl })

pub fitting_length : (kind : ℕ) (l : Links) → Fits kind l → length (spent l) ≡ arity kind
fitting_length kind l f = fits_length kind (on l.first) (on l.second) f

-- where a rebuild is accepted, not every cell stays reached
open_still : (m : Meaning) {n : Meaning} {node : Node} {old c : ℕ} → Made (less m old) n node c → Full m → Reached (less m old) old → ⊥
open_still m {n} {node} {old} {c} w full still = w.fresh (still_reached m old still (full c w.inside))

made_none : (lower : Heap → ℕ → Heap) (h : Heap) (x : Node) → made_in lower h x None ≡ h
unfolding made_in
made_none lower h x = refl

beside_none : (lower : Heap → ℕ → Heap) (h : Heap) (old : ℕ) (x : Node) → made_beside lower h old x None ≡ h
unfolding made_beside
beside_none lower h old x = refl

module _ (lower : Heap → ℕ → Heap) (law : Lawful lower) (h k : Heap) (o : Okay h) (kind : ℕ) (value : ℤ) (l : Links) (f : Fits kind l) (did kept : Type 0) (d : did) (rests : k ≡ h → kept) where
  x : Node
  x = asked_for kind value l

  pub make_told : Spare (meaning h.cells) (spent l) → k ≡ after lower h (making (asked_for kind value l)) → (r : Result Hold Refused) → MakeAnswer h l r → MakeTold (meaning h.cells) (meaning k.cells) kind value l did kept r
  unfolding x
  make_told s e (Ok c) a =
      (subst (λ (y : Heap). Made (meaning h.cells) (meaning y.cells) x c.cell) (sym (e ∙ ap (made_in lower h x) a)) (make_made lower law o x (fitting_length kind l f) c.cell a s), d)
  make_told s e (Err r) a = let same : k ≡ h = e ∙ ap (made_in lower h x) a.0 ∙ made_none lower h x in (make_full o a.0, unchanged same, rests same, a.1)

  pub rebuild_told : (old : Hold) → 0 < holds h.cells old.cell → Spare (less (meaning h.cells) old.cell) (spent l) → k ≡ after lower h (rebuilding old.cell (asked_for kind value l)) →
      (r : Result Hold RefusedRebuild) → RebuildAnswer h old l r → RebuildTold (meaning h.cells) (meaning k.cells) old kind value l did kept r
  unfolding x rebuilt
  rebuild_told old out s e (Ok c) a = ⊎_elim
      (λ p. (
        subst (λ i. Made (less (meaning h.cells) old.cell) (meaning k.cells) x i) (sym p.1)
            (subst (λ (y : Heap). Made (less (meaning h.cells) old.cell) (meaning y.cells) x old.cell)
            (sym (e ∙ cond-true (eqb (cell h old.cell).count 1) (rewritten lower h old.cell x) (made_beside lower h old.cell x h.free) (eq-eqb (cell h old.cell).count 1 p.0)))
            (rewrite_made lower law o x (fitting_length kind l f) old.cell out p.0 s)),
        open_still (meaning h.cells) (rewrite_made lower law o x (fitting_length kind l f) old.cell out p.0 s),
        d,
      ))
      (λ p. (
        subst (λ (y : Heap). Made (less (meaning h.cells) old.cell) (meaning y.cells) x c.cell)
            (sym (e ∙ cond-false (eqb (cell h old.cell).count 1) (rewritten lower h old.cell x) (made_beside lower h old.cell x h.free) (ne_eqb (cell h old.cell).count 1 p.0) ∙ ap (made_beside lower h old.cell x) p.1))
            (beside_made lower law o x (fitting_length kind l f) old.cell c.cell p.1 out s),
        open_still (meaning h.cells) (beside_made lower law o x (fitting_length kind l f) old.cell c.cell p.1 out s),
        d,
      ))
      a
  rebuild_told old out s e (Err r) a =
      let same : k ≡ h = e ∙ cond-false (eqb (cell h old.cell).count 1) (rewritten lower h old.cell x) (made_beside lower h old.cell x h.free) (ne_eqb (cell h old.cell).count 1 a.0) ∙ ap (made_beside lower h old.cell x) a.1 ∙ beside_none lower h old.cell x in
      ((make_full o a.1, rebuild_full o old.cell out a.1 a.0), unchanged same, rests same, a.2)

-- where the table is what the call makes of it
pub moved_at : (h : Heap) {k l : Heap} (spends gives : List ℕ) → k ≡ l → Moved (meaning h.cells) (meaning l.cells) spends gives → Moved (meaning h.cells) (meaning k.cells) spends gives
moved_at h spends gives e r = subst (λ (x : Heap). Moved (meaning h.cells) (meaning x.cells) spends gives) (sym e) r

module _ (lower : Heap → ℕ → Heap) (law : Lawful lower) (okay : Heap → Type 0) (tidy : Cell → Cell) (keeps : Keeping lower okay tidy) where
  -- what a store keeps of its table holds after any call
  pub kept_after : {h k : Heap} (q : Asked) → okay h → Askable h q → k ≡ after lower h q → okay k
  kept_after {h} q o a e =
      let r = (keeps.reads h).0 o in
      subst okay (sym e) ((keeps.reads (after lower h q)).1 (after_okay lower law h r.0 q a, after_tidy lower law okay tidy keeps h r.0 r.1 q a))

  -- and of a fresh table
  pub kept_fresh : {k : Heap} (n : ℕ) → 0 < n → n ≤ 4096 → k ≡ fresh n → okay k
  kept_fresh n some most e = subst okay (sym e) ((keeps.reads (fresh n)).1 (fresh_okay n some most, fresh_tidy n some most tidy keeps.blank))

-- what a store tells of a change, where the table is what the call makes of it
pub told_after : (lower : Heap → ℕ → Heap) {okay : Heap → Type 0} {did : Heap → Asked → Heap → Type 0} {shows : Heap → Heap → Type 0} → Telling lower okay did shows → (h : Heap) {k : Heap} (q : Asked) → k ≡ after lower h q → did h q k
told_after lower {did = did} tells h q e = subst (did h q) (sym e) (tells.told h q)

-- link 1 is there only beside link 0
pub fitting_order : {kind : ℕ} {a b : Option ℕ} → Fitting kind a b → is_some a ≡ false → is_some b ≡ false
fitting_order {kind} f e = f.second ∙ lt-leb 2 (arity kind) (omega (arith, leb-false 1 (arity kind) (sym f.first ∙ e)))

-- the links that part hands over stand in their order
pub handed : (x : Cell) (l : Links) → Fitting x.kind x.link0 x.link1 → on l.first ≡ x.link0 → on l.second ≡ x.link1 → Handed l (links_of x)
handed x l f a b = record { first = a ∙ sym (item_first x.link0 x.link1 (fitting_order f)); second = b ∙ sym (item_second x.link0 x.link1 (fitting_order f)) }
