-- One is taken from a count, and a cell whose count falls to 0 is put on a list.
use Rattle.std.specs.Prelude.{◌≡◌, ℕ, ◌+◌, ◌-◌, ◌<◌, cond, List, [], ◌∷◌, length, Option, ◌==◌, slice_set, refl}
use Rattle.std.proofs.Common.{sym, ap, subst, ◌∙◌, ⊎_elim, arith, length-set}
use Rattle.std.proofs.lemmas.Bool.{cases_eq, eq-eqb, ne_eqb}
use Rattle.store.specs.declared.cell.Cell.{Cell}
use Rattle.store.specs.Numbers.{hit, times}
use Rattle.store.specs.Cells.{at, node_of, inlinks, holds}
use Rattle.store.specs.Heap.{Heap, cell, recounted, sunk, front, deferred}
use Rattle.store.specs.Sound.{Sound, Chain, Lowered, Lawful}
use Rattle.store.specs.NumbersLemmas.{hit_cases, hit_self, hit_other}
use Rattle.store.specs.CellsLemmas.{at_set, at_self, at_other, inlinks_set, counted_inside}
use Rattle.store.specs.Writes.{recount}

-- a write outside a chain leaves it
pub chain_kept : (cells : List Cell) (c : ℕ) (x : Cell) (head : Option ℕ) (cs : List ℕ) → times c cs ≡ 0 → Chain cells head cs → Chain (slice_set cells c x) head cs
chain_kept cells c x head [] e h = h
chain_kept cells c x head (d ∷ ds) e h =
    (h.0, subst (λ (y : Cell). Chain (slice_set cells c x) y.next ds) (sym (at_other cells c x d (λ q. omega (arith, hit_self c, ap (hit c) q)))) (chain_kept cells c x (at cells d).next ds (omega arith) h.1))

-- c is put before a list where its count was 1
abbrev pub more : ℕ → ℕ → List ℕ → List ℕ
more c n xs = cond (n == 1) (c ∷ xs) xs

module _ (h : Heap) (c : ℕ) (head : Option ℕ) {idle : List ℕ} (s : Sound h.cells idle) (out : 0 < holds h.cells c) where
  pub sink_here : c < length h.cells
  sink_here = counted_inside h.cells c (omega (arith, s.counted c))

  pub sink_sound : Sound (sunk h c head).cells (more c (cell h c).count idle)
  sink_sound = ⊎_elim
      (λ e. rw (eq-eqb (cell h c).count 1 e)
      (recount s c sink_here ((cell h c).count - 1) head (omega (arith, s.counted c)) (c ∷ idle)
      (λ z. omega (arith, hit_self c, s.used c (omega arith))) (λ z. absurd (omega arith)) (λ d ne. omega (arith, hit_other d c ne)) (λ z. absurd (omega arith))))
      (λ ne. rw (ne_eqb (cell h c).count 1 ne)
      (recount s c sink_here ((cell h c).count - 1) (cell h c).next (omega (arith, s.counted c)) idle
      (λ z. absurd (omega (arith, s.counted c, ne))) (λ z. s.used c (omega (arith, s.counted c))) (λ d n. refl) (λ z. s.unlisted c (omega (arith, s.counted c)))))
      (cases_eq (cell h c).count 1)

  sink_count : (d : ℕ) → (at (sunk h c head).cells d).count + hit d c ≡ (at h.cells d).count
  sink_count d = ⊎_elim
      (λ p. omega (arith, hit_self c, ap (hit d) (sym p.0), ap (hit c) p.0, hit_cases d c, ap (λ (y : Cell). y.count) p.1, s.counted c, ap (λ i. (at h.cells i).count) p.0))
      (λ p. omega (arith, hit_other d c p.0, ap (λ (y : Cell). y.count) p.1))
      (at_set h.cells c (recounted (cell h c) ((cell h c).count - 1) (cond ((cell h c).count == 1) head (cell h c).next)) d sink_here)

  pub sink_inlinks : (d : ℕ) → inlinks d (sunk h c head).cells ≡ inlinks d h.cells
  sink_inlinks d = omega (arith, inlinks_set d h.cells c (recounted (cell h c) ((cell h c).count - 1) (cond ((cell h c).count == 1) head (cell h c).next)) sink_here)

  pub sink_lowered : Lowered h.cells (sunk h c head).cells (c ∷ [])
  sink_lowered = record {
    sized = length-set h.cells c _;
    held = λ d. omega (arith, s.counted d, sink_sound.counted d, sink_count d, sink_inlinks d);
    fewer = λ d. omega (arith, sink_count d);
    inlinked = λ d. omega (arith, sink_inlinks d);
    kept = λ d z. ⊎_elim (λ p. ap node_of p.1 ∙ ap (λ i. node_of (at h.cells i)) (sym p.0)) (λ p. ap node_of p.1) (at_set h.cells c _ d sink_here);
  }

  pub sink_chain : (cs : List ℕ) → Chain h.cells head cs → times c cs ≡ 0 → Chain (sunk h c head).cells (front h c head) (more c (cell h c).count cs)
  sink_chain cs k z = ⊎_elim
      (λ e. rw (eq-eqb (cell h c).count 1 e)
      (refl, subst (λ (y : Cell). Chain (slice_set h.cells c (recounted (cell h c) ((cell h c).count - 1) head)) y.next cs) (sym (at_self h.cells c (recounted (cell h c) ((cell h c).count - 1) head) sink_here)) (chain_kept h.cells c _ head cs z k)))
      (λ ne. rw (ne_eqb (cell h c).count 1 ne) (chain_kept h.cells c _ head cs z k))
      (cases_eq (cell h c).count 1)

-- the deferring store
pub defers : Lawful deferred
unfolding deferred
defers h c o out = (
  record {
    listed = more c (cell h c).count o.listed;
    chain = sink_chain h c h.free o.sound out o.listed o.chain (o.sound.used c (omega (arith, o.sound.counted c)));
    sound = sink_sound h c h.free o.sound out;
  },
  sink_lowered h c h.free o.sound out,
)
