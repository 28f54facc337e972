-- The table after any call is sound and tidy, however cells are lowered.
use Rattle.std.proofs.Common.{◌≡◌, ℕ, ◌<◌, ◌≤◌, List, [], ◌∷◌, length, set, Some, None, Option, refl, ⊎_elim, arith, length-set}
use Rattle.std.proofs.lemmas.Bool.{cases_eq, eq-eqb, ne_eqb}
use Rattle.store.specs.declared.cell.Cell.{Cell}
use Rattle.store.specs.Numbers.{times, In}
use Rattle.store.specs.Meaning.{Node, arity, less, Spare, Asked, making, copying, releasing, parting, rebuilding}
use Rattle.store.specs.Cells.{empty, links_of, holds, meaning}
use Rattle.store.specs.Heap.{Heap, cell, raised, raised_all, claimed, stripped, written, filled, lowered_all, made_in, rewritten, made_beside, rebuilt, parted, after}
use Rattle.store.specs.Sound.{Okay, Lawful, Tidy}
use Rattle.store.specs.Stores.{Keeping}
use Rattle.store.specs.NumbersLemmas.{hit_self}
use Rattle.store.specs.CellsLemmas.{at_set, inlinks_at, counted_inside}
use Rattle.store.proofs.Reach.{first_free}
use Rattle.store.proofs.Steps.{lowers, first_here, held_here, Lowerable, claim_lowerable, strip_lowerable, strip, strip_held, raises}
use Rattle.store.proofs.Meets.{make_built, rewrite_built, beside_built, part_parted, copy_copied}

-- what the interface asks of the caller
abbrev pub Askable : Heap → Asked → Type 0
Askable h (making node) = (length node.links ≡ arity node.kind) × Spare (meaning h.cells) node.links
Askable h (copying c) = 0 < holds h.cells c
Askable h (releasing c) = 0 < holds h.cells c
Askable h (parting c) = 0 < holds h.cells c
Askable h (rebuilding c node) = (0 < holds h.cells c) × (length node.links ≡ arity node.kind) × Spare (less (meaning h.cells) c) node.links

module _ (lower : Heap → ℕ → Heap) (law : Lawful lower) (h : Heap) (o : Okay h) where
  made_okay : (node : Node) → length node.links ≡ arity node.kind → Spare (meaning h.cells) node.links → (f : Option ℕ) → h.free ≡ f → Okay (made_in lower h node f)
  unfolding made_in
  made_okay node l s None e = o
  made_okay node l s (Some c) e = (make_built lower law o node l c e s).okay

  beside_okay : (old : ℕ) (node : Node) → 0 < holds h.cells old → length node.links ≡ arity node.kind → Spare (less (meaning h.cells) old) node.links → (f : Option ℕ) → h.free ≡ f → Okay (made_beside lower h old node f)
  unfolding made_beside
  beside_okay old node out l s None e = o
  beside_okay old node out l s (Some c) e = (beside_built lower law o node l old c e out s).okay

  pub after_okay : (q : Asked) → Askable h q → Okay (after lower h q)
  unfolding rebuilt
  after_okay (making node) a = made_okay node a.0 a.1 h.free refl
  after_okay (copying c) a = (copy_copied o c a).0
  after_okay (releasing c) a = (law h c o a).0
  after_okay (parting c) a = (part_parted lower law o c a).0
  after_okay (rebuilding c node) a = ⊎_elim
      (λ e. rw (eq-eqb (cell h c).count 1 e) (rewrite_built lower law o node a.1 c a.0 e a.2).okay)
      (λ ne. rw (ne_eqb (cell h c).count 1 ne) (beside_okay c node a.0 a.1 a.2 h.free refl))
      (cases_eq (cell h c).count 1)

-- a cell that is written with a count above 0 is tidy
tidy_set : (tidy : Cell → Cell) → ((x : Cell) → 0 < x.count → tidy x ≡ x) → (cells : List Cell) (c : ℕ) (x : Cell) → c < length cells → 0 < x.count → Tidy tidy cells → Tidy tidy (set cells c x)
tidy_set tidy busy cells c x l p t d = ⊎_elim (λ q. rw q.1 (busy x p)) (λ q. rw q.1 (t d)) (at_set cells c x d l)

module _ (lower : Heap → ℕ → Heap) (law : Lawful lower) (okay : Heap → Type 0) (tidy : Cell → Cell) (keeps : Keeping lower okay tidy) where
  tidy_lowers : (xs : List ℕ) (h : Heap) → Okay h → ((d : ℕ) → times d xs ≤ holds h.cells d) → Tidy tidy h.cells → Tidy tidy (lowered_all lower h xs).cells
  unfolding lowered_all
  tidy_lowers [] h o room t = t
  tidy_lowers (c ∷ cs) h o room t =
      let out : 0 < holds h.cells c = omega (arith, room c, hit_self c) in
      let r = law h c o out in
      tidy_lowers cs (lower h c) r.0 (λ d. omega (arith, room d, r.1.held d)) (keeps.lowers h c o out t)

  -- a cell that was made ready keeps a count above 0 till it is written
  tidy_filled : (v : Heap) (c : ℕ) (old : Cell) (node : Node) → Lowerable v c old → Tidy tidy v.cells → Tidy tidy (filled (lowered_all lower v (links_of old)) c node).cells
  tidy_filled v c old node r t =
      let q = lowers lower law (links_of old) v r.okay r.held in
      let w = lowered_all lower v (links_of old) in
      let p : 0 < (cell w c).count = omega (arith, q.0.sound.counted c, q.1.held c, r.stays) in
      tidy_set tidy keeps.busy w.cells c (written node (cell w c).count (cell w c).next) (counted_inside w.cells c p) p (tidy_lowers (links_of old) v r.okay r.held t)

  tidy_raises : (xs : List ℕ) (h : Heap) → ((d : ℕ) → In d xs → d < length h.cells) → Tidy tidy h.cells → Tidy tidy (raised_all h xs).cells
  unfolding raised_all
  tidy_raises [] h l t = t
  tidy_raises (c ∷ cs) h l t = tidy_raises cs (raised h c) (λ d i. rw length-set (l d (omega arith))) (tidy_set tidy keeps.busy h.cells c _ (l c (omega (arith, hit_self c))) (omega arith) t)

  module _ (h : Heap) (o : Okay h) (t : Tidy tidy h.cells) where
    made_tidy : (node : Node) (f : Option ℕ) → h.free ≡ f → Tidy tidy (made_in lower h node f).cells
    unfolding made_in
    made_tidy node None e = t
    made_tidy node (Some c) e =
        let f = first_free o e in
        tidy_filled (claimed h c) c (cell h c) node (claim_lowerable f) (tidy_set tidy keeps.busy h.cells c (empty 1 None) (first_here f) (omega arith) t)

    stripped_tidy : (c : ℕ) → 0 < holds h.cells c → Tidy tidy (stripped h c).cells
    stripped_tidy c out = tidy_set tidy keeps.busy h.cells c (empty (cell h c).count (cell h c).next) (held_here o c out) (omega (arith, o.sound.counted c)) t

    beside_tidy : (old : ℕ) (node : Node) → 0 < holds h.cells old → length node.links ≡ arity node.kind → Spare (less (meaning h.cells) old) node.links → (f : Option ℕ) → h.free ≡ f → Tidy tidy (made_beside lower h old node f).cells
    unfolding made_beside
    beside_tidy old node out l s None e = t
    beside_tidy old node out l s (Some c) e =
        let b = make_built lower law o node l c e (λ d. omega (arith, s d)) in
        keeps.lowers (made_in lower h node (Some c)) old b.okay (omega (arith, b.held old, s old, hit_self old)) (made_tidy node (Some c) e)

    part_tidy : (c : ℕ) → 0 < holds h.cells c → Tidy tidy (parted lower h c).cells
    unfolding parted
    part_tidy c out = ⊎_elim
        (λ e. rw (eq-eqb (cell h c).count 1 e) (keeps.lowers (stripped h c) c (strip o c out) (omega (arith, strip_held o c out c)) (stripped_tidy c out)))
        (λ ne. rw (ne_eqb (cell h c).count 1 ne) (
        let r = raises (links_of (cell h c)) h o (λ d i. omega (arith, inlinks_at d h.cells c, o.sound.counted d)) in
        keeps.lowers (raised_all h (links_of (cell h c))) c r.0 (omega (arith, r.1.held c)) (tidy_raises (links_of (cell h c)) h (o.sound.inside c) t)))
        (cases_eq (cell h c).count 1)

    pub after_tidy : (q : Asked) → Askable h q → Tidy tidy (after lower h q).cells
    unfolding rebuilt rewritten
    after_tidy (making node) a = made_tidy node h.free refl
    after_tidy (copying c) a = tidy_set tidy keeps.busy h.cells c _ (held_here o c a) (omega arith) t
    after_tidy (releasing c) a = keeps.lowers h c o a t
    after_tidy (parting c) a = part_tidy c a
    after_tidy (rebuilding c node) a = ⊎_elim
        (λ e. rw (eq-eqb (cell h c).count 1 e) (tidy_filled (stripped h c) c (cell h c) node (strip_lowerable o c a.0) (stripped_tidy c a.0)))
        (λ ne. rw (ne_eqb (cell h c).count 1 ne) (beside_tidy c node a.0 a.1 a.2 h.free refl))
        (cases_eq (cell h c).count 1)
