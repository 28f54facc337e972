-- In the deferring store a call changes at most two links, the cell and one other cell.
use Rattle.std.proofs.Common.{◌≡◌, ℕ, ◌+◌, ◌≤◌, List, [], ◌∷◌, length, set, Some, None, Option, refl, ap, ◌∙◌, ⊎_elim, arith, length-append}
use Rattle.std.proofs.lemmas.Bool.{cases_eq, eq-eqb, ne_eqb}
use Rattle.store.specs.declared.cell.Cell.{Cell}
use Rattle.store.specs.Numbers.{hit, times, opt}
use Rattle.store.specs.Meaning.{Node, most_links, Asked, making, copying, releasing, parting, rebuilding}
use Rattle.store.specs.Cells.{at, links_of}
use Rattle.store.specs.Heap.{Heap, cell, raised, raised_all, claimed, stripped, filled, lowered_all, made_in, rewritten, made_beside, rebuilt, parted, deferred, after}
use Rattle.store.specs.Sound.{Changed}
use Rattle.store.specs.NumbersLemmas.{hit_self}
use Rattle.store.specs.CellsLemmas.{at_other}

-- all cells but those of the list are as before
record SameBut (xs : List ℕ) (cells new : List Cell) : Type 0 where
  rest : (d : ℕ) → times d xs ≡ 0 → at new d ≡ at cells d

missed : (c d : ℕ) (xs : List ℕ) → times d (c ∷ xs) ≡ 0 → d ≡ c → ⊥
missed c d xs z e = omega (arith, hit_self c, ap (λ i. hit i c) e)

but_set : (cells : List Cell) (c : ℕ) (x : Cell) → SameBut (c ∷ []) cells (set cells c x)
but_set cells c x = record { rest = λ d z. at_other cells c x d (missed c d [] z) }

-- one change after another, where the list has all of both
but_then : {a b c : List Cell} (xs ys zs : List ℕ) → ((d : ℕ) → times d zs ≡ 0 → (times d xs ≡ 0) × (times d ys ≡ 0)) → SameBut xs a b → SameBut ys b c → SameBut zs a c
but_then xs ys zs all p q = record { rest = λ d z. let w = all d z in q.rest d w.1 ∙ p.rest d w.0 }

but_deferred : (h : Heap) (c : ℕ) → SameBut (c ∷ []) h.cells (deferred h c).cells
unfolding deferred
but_deferred h c = but_set h.cells c _

but_lowers : (xs : List ℕ) (h : Heap) → SameBut xs h.cells (lowered_all deferred h xs).cells
unfolding lowered_all
but_lowers [] h = record { rest = λ d z. refl }
but_lowers (c ∷ cs) h = but_then (c ∷ []) cs (c ∷ cs) (λ d z. (omega arith, omega arith)) (but_deferred h c) (but_lowers cs (deferred h c))

but_raises : (xs : List ℕ) (h : Heap) → SameBut xs h.cells (raised_all h xs).cells
unfolding raised_all
but_raises [] h = record { rest = λ d z. refl }
but_raises (c ∷ cs) h = but_then (c ∷ []) cs (c ∷ cs) (λ d z. (omega arith, omega arith)) (but_set h.cells c _) (but_raises cs (raised h c))

opt_short : (a : Option ℕ) → length (opt a) ≤ 1
opt_short None = omega arith
opt_short (Some c) = omega arith

links_short : (x : Cell) → length (links_of x) ≤ most_links
links_short x = omega (arith, length-append (opt x.link0) (opt x.link1), opt_short x.link0, opt_short x.link1)

module _ (h : Heap) where
  -- c, made ready as v, has its old links lowered and is written
  but_filled : (v : Heap) (c : ℕ) (node : Node) → SameBut (c ∷ []) h.cells v.cells → SameBut (c ∷ links_of (cell h c)) h.cells (filled (lowered_all deferred v (links_of (cell h c))) c node).cells
  but_filled v c node p =
      but_then (c ∷ links_of (cell h c)) (c ∷ []) (c ∷ links_of (cell h c)) (λ d z. (z, omega arith))
      (but_then (c ∷ []) (links_of (cell h c)) (c ∷ links_of (cell h c)) (λ d z. (omega arith, omega arith)) p (but_lowers (links_of (cell h c)) v))
      (but_set (lowered_all deferred v (links_of (cell h c))).cells c _)

  made_few : (node : Node) (f : Option ℕ) → Changed (most_links + 2) h.cells (made_in deferred h node f).cells
  unfolding made_in
  made_few node None = record { which = []; few = omega arith; rest = λ d z. refl }
  made_few node (Some c) = record { which = c ∷ links_of (cell h c); few = omega (arith, links_short (cell h c)); rest = (but_filled (claimed h c) c node (but_set h.cells c _)).rest }

  beside_few : (old : ℕ) (node : Node) (f : Option ℕ) → Changed (most_links + 2) h.cells (made_beside deferred h old node f).cells
  unfolding made_beside made_in
  beside_few old node None = record { which = []; few = omega arith; rest = λ d z. refl }
  beside_few old node (Some c) = record {
    which = old ∷ (c ∷ links_of (cell h c));
    few = omega (arith, links_short (cell h c));
    rest = (but_then (c ∷ links_of (cell h c)) (old ∷ []) (old ∷ (c ∷ links_of (cell h c))) (λ d z. (omega arith, omega arith))
        (but_filled (claimed h c) c node (but_set h.cells c _)) (but_deferred (made_in deferred h node (Some c)) old)).rest;
  }

  part_few : (c : ℕ) → Changed (most_links + 2) h.cells (parted deferred h c).cells
  unfolding parted
  part_few c = ⊎_elim
      (λ e. rw (eq-eqb (cell h c).count 1 e) (record { which = c ∷ []; few = omega arith; rest = (but_then (c ∷ []) (c ∷ []) (c ∷ []) (λ d z. (z, z)) (but_set h.cells c _) (but_deferred (stripped h c) c)).rest }))
      (λ ne. rw (ne_eqb (cell h c).count 1 ne) (record {
        which = c ∷ links_of (cell h c);
        few = omega (arith, links_short (cell h c));
        rest = (but_then (links_of (cell h c)) (c ∷ []) (c ∷ links_of (cell h c)) (λ d z. (omega arith, omega arith)) (but_raises (links_of (cell h c)) h) (but_deferred (raised_all h (links_of (cell h c))) c)).rest;
      }))
      (cases_eq (cell h c).count 1)

  pub after_few : (q : Asked) → Changed (most_links + 2) h.cells (after deferred h q).cells
  unfolding rebuilt rewritten
  after_few (making node) = made_few node h.free
  after_few (copying c) = record { which = c ∷ []; few = omega arith; rest = (but_set h.cells c _).rest }
  after_few (releasing c) = record { which = c ∷ []; few = omega arith; rest = (but_deferred h c).rest }
  after_few (parting c) = part_few c
  after_few (rebuilding c node) = ⊎_elim
      (λ e. rw (eq-eqb (cell h c).count 1 e) (record { which = c ∷ links_of (cell h c); few = omega (arith, links_short (cell h c)); rest = (but_filled (stripped h c) c node (but_set h.cells c _)).rest }))
      (λ ne. rw (ne_eqb (cell h c).count 1 ne) (beside_few c node h.free))
      (cases_eq (cell h c).count 1)
