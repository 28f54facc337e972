-- The steps that calls are made of.
use Rattle.std.proofs.Common.{◌≡◌, ℕ, ◌+◌, ◌<◌, ◌≤◌, List, [], ◌∷◌, ◌++◌, length, None, sym, refl, ap, ◌∙◌, subst, ⊎_elim, arith, length-set}
use Rattle.std.proofs.lemmas.Bool.{cases_lt}
use Rattle.store.specs.declared.cell.Cell.{Cell}
use Rattle.store.specs.Numbers.{hit, times, In}
use Rattle.store.specs.Cells.{empty, at, links_of, node_of, inlinks, holds}
use Rattle.store.specs.Heap.{Heap, cell, recounted, raised, raised_all, claimed, stripped, lowered_all}
use Rattle.store.specs.Sound.{Okay, Lowered, Lawful}
use Rattle.store.specs.NumbersLemmas.{hit_self, hit_other}
use Rattle.store.specs.CellsLemmas.{at_set, counted_inside}
use Rattle.store.specs.Writes.{recount, recount_held, clear, clear_held}
use Rattle.store.specs.Sinks.{chain_kept}
use Rattle.store.specs.Pile.{lowered_none, lowered_then}
use Rattle.store.proofs.Reach.{First}

-- a list of cells is lowered, one after the other
pub lowers : (lower : Heap → ℕ → Heap) → Lawful lower → (xs : List ℕ) (h : Heap) → Okay h → ((d : ℕ) → times d xs ≤ holds h.cells d) →
    Okay (lowered_all lower h xs) × Lowered h.cells (lowered_all lower h xs).cells xs
unfolding lowered_all
lowers lower law [] h o room = (o, lowered_none h.cells)
lowers lower law (c ∷ cs) h o room =
    let one = law h c o (omega (arith, room c, hit_self c)) in
    let rest = lowers lower law cs (lower h c) one.0 (λ d. omega (arith, room d, one.1.held d)) in
    (rest.0, lowered_then (c ∷ []) cs one.1 rest.1)

-- the first free cell is taken: it and its links are held
module _ {h : Heap} {c : ℕ} (f : First h c) where
  pub first_count : (cell h c).count ≡ 0
  first_count = ⊎_elim (λ l. absurd (omega (arith, f.sound.used c l, hit_self c))) (λ z. omega arith) (cases_lt 0 (cell h c).count)

  pub first_here : c < length h.cells
  first_here = ⊎_elim (λ l. l) (λ z. absurd (omega (arith, f.sound.beyond c z, hit_self c))) (cases_lt c (length h.cells))

  pub first_alone : (inlinks c h.cells ≡ 0) × (holds h.cells c ≡ 0)
  first_alone = let e = f.sound.counted c in let z = first_count in (omega arith, omega arith)

  once : times c f.rest ≡ 0
  once = omega (arith, f.sound.each c first_here first_count, hit_self c)

  pub claim : Okay (claimed h c)
  claim = record {
    listed = f.rest;
    chain = chain_kept h.cells c (empty 1 None) (cell h c).next f.rest once f.chain;
    sound = clear f.sound c first_here 1 None (omega (arith, first_alone.0)) f.rest (λ z. absurd (omega arith)) (λ z. once) (λ d ne. omega (arith, hit_other d c ne)) (λ z. refl);
  }

  pub claim_held : (d : ℕ) → holds (claimed h c).cells d ≡ holds h.cells d + hit d c + times d (links_of (cell h c))
  claim_held d = ⊎_elim
      (λ p. omega (arith, p.1, hit_self c, ap (λ i. hit i c) p.0, first_count, ap (λ i. (at h.cells i).count) p.0))
      (λ p. omega (arith, p.1, hit_other d c p.0))
      (clear_held f.sound c first_here 1 None (omega (arith, first_alone.0)) f.rest (λ z. absurd (omega arith)) (λ z. once) (λ d ne. omega (arith, hit_other d c ne)) (λ z. refl) d)

-- a held cell gives up its content: its links are held
module _ {h : Heap} (o : Okay h) (c : ℕ) (out : 0 < holds h.cells c) where
  pub held_here : c < length h.cells
  held_here = counted_inside h.cells c (omega (arith, o.sound.counted c))

  busy : 0 < (cell h c).count
  busy = omega (arith, o.sound.counted c)

  loose : (cell h c).next ≡ None
  loose = o.sound.unlisted c busy

  pub strip : Okay (stripped h c)
  strip = record {
    listed = o.listed;
    chain = chain_kept h.cells c _ h.free o.listed (o.sound.used c busy) o.chain;
    sound = clear o.sound c held_here (cell h c).count (cell h c).next (omega (arith, o.sound.counted c)) o.listed (λ z. absurd (omega (arith, busy))) (λ z. o.sound.used c busy) (λ d ne. refl) (λ z. loose);
  }

  pub strip_held : (d : ℕ) → holds (stripped h c).cells d ≡ holds h.cells d + times d (links_of (cell h c))
  strip_held d = ⊎_elim
      (λ p. omega (arith, p.1, ap (λ i. (at h.cells i).count) p.0))
      (λ p. p.1)
      (clear_held o.sound c held_here (cell h c).count (cell h c).next (omega (arith, o.sound.counted c)) o.listed (λ z. absurd (omega (arith, busy))) (λ z. o.sound.used c busy) (λ d ne. refl) (λ z. loose) d)

-- one more hold on each cell of a list
pub record Raised (cells new : List Cell) (gained : List ℕ) : Type 0 where
  pub sized : length new ≡ length cells
  pub held : (d : ℕ) → holds new d ≡ holds cells d + times d gained
  pub count : (d : ℕ) → (at new d).count ≡ (at cells d).count + times d gained
  pub kept : (d : ℕ) → node_of (at new d) ≡ node_of (at cells d)

module _ {h : Heap} (o : Okay h) (c : ℕ) (busy : 0 < (cell h c).count) where
  here : c < length h.cells
  here = counted_inside h.cells c busy

  pub raise : Okay (raised h c)
  raise = record {
    listed = o.listed;
    chain = chain_kept h.cells c _ h.free o.listed (o.sound.used c busy) o.chain;
    sound = recount o.sound c here ((cell h c).count + 1) (cell h c).next (omega (arith, o.sound.counted c)) o.listed (λ z. absurd (omega arith)) (λ z. o.sound.used c busy) (λ d ne. refl) (λ z. o.sound.unlisted c busy);
  }

  pub raise_raised : Raised h.cells (raised h c).cells (c ∷ [])
  raise_raised = record {
    sized = length-set h.cells c _;
    held = λ d. ⊎_elim
        (λ p. omega (arith, p.1, hit_self c, ap (λ i. hit i c) p.0, ap (λ i. (at h.cells i).count) p.0))
        (λ p. omega (arith, p.1, hit_other d c p.0))
        (recount_held o.sound c here ((cell h c).count + 1) (cell h c).next (omega (arith, o.sound.counted c)) o.listed (λ z. absurd (omega arith)) (λ z. o.sound.used c busy) (λ d ne. refl) (λ z. o.sound.unlisted c busy) d);
    count = λ d. ⊎_elim
        (λ p. omega (arith, hit_self c, ap (λ i. hit i c) p.0, ap (λ (y : Cell). y.count) p.1, ap (λ i. (at h.cells i).count) p.0))
        (λ p. omega (arith, hit_other d c p.0, ap (λ (y : Cell). y.count) p.1))
        (at_set h.cells c (recounted (cell h c) ((cell h c).count + 1) (cell h c).next) d here);
    kept = λ d. ⊎_elim (λ p. ap node_of p.1 ∙ ap (λ i. node_of (at h.cells i)) (sym p.0)) (λ p. ap node_of p.1) (at_set h.cells c _ d here);
  }

pub raises : (xs : List ℕ) (h : Heap) → Okay h → ((d : ℕ) → In d xs → 0 < (cell h d).count) → Okay (raised_all h xs) × Raised h.cells (raised_all h xs).cells xs
unfolding raised_all
raises [] h o busy = (o, record { sized = refl; held = λ d. omega arith; count = λ d. omega arith; kept = λ d. refl })
raises (c ∷ cs) h o busy =
    let b = busy c (omega (arith, hit_self c)) in
    let one = raise_raised o c b in
    let rest = raises cs (raised h c) (raise o c b) (λ d i. omega (arith, one.count d, busy d (omega arith))) in (
      rest.0,
      record {
        sized = rest.1.sized ∙ one.sized;
        held = λ d. omega (arith, one.held d, rest.1.held d);
        count = λ d. omega (arith, one.count d, rest.1.count d);
        kept = λ d. rest.1.kept d ∙ one.kept d;
      },
    )

pub lowered_more : (lower : Heap → ℕ → Heap) (xs ys : List ℕ) (h : Heap) → lowered_all lower h (xs ++ ys) ≡ lowered_all lower (lowered_all lower h xs) ys
unfolding lowered_all
lowered_more lower [] ys h = refl
lowered_more lower (c ∷ cs) ys h = lowered_more lower cs ys (lower h c)

pub raised_more : (xs ys : List ℕ) (h : Heap) → raised_all h (xs ++ ys) ≡ raised_all (raised_all h xs) ys
unfolding raised_all
raised_more [] ys h = refl
raised_more (c ∷ cs) ys h = raised_more cs ys (raised h c)

-- a cell that was made ready can have its old links lowered
pub record Lowerable (k : Heap) (c : ℕ) (old : Cell) : Type 0 where
  pub okay : Okay k
  pub inside : c < length k.cells
  pub held : (d : ℕ) → times d (links_of old) ≤ holds k.cells d
  pub stays : times c (links_of old) < holds k.cells c

pub claim_lowerable : {h : Heap} {c : ℕ} → First h c → Lowerable (claimed h c) c (cell h c)
claim_lowerable {h} {c} f = record { okay = claim f; inside = rw length-set (first_here f); held = λ d. omega (arith, claim_held f d); stays = omega (arith, claim_held f c, hit_self c) }

pub strip_lowerable : {h : Heap} → Okay h → (c : ℕ) → 0 < holds h.cells c → Lowerable (stripped h c) c (cell h c)
strip_lowerable {h} o c out = record { okay = strip o c out; inside = rw length-set (held_here o c out); held = λ d. omega (arith, strip_held o c out d); stays = omega (arith, strip_held o c out c) }

-- as it stands in the midst of a call
pub lowerable_at : {k l : Heap} {c : ℕ} {old new : Cell} → Lowerable k c old → l ≡ k → new ≡ old → Lowerable l c new
lowerable_at {k} {l} {c} {old} {new} r e f = subst (λ (x : Heap). Lowerable x c new) (sym e) (subst (λ (y : Cell). Lowerable k c y) (sym f) r)
