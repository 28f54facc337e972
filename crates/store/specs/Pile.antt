-- The eager store's pile: what waits on it is wiped and listed until none waits.
use Rattle.std.specs.Prelude.{◌≡◌, ℕ, zero, suc, ◌+◌, ◌-◌, ◌<◌, ◌≤◌, true, false, cond, ◌⊎◌, List, [], ◌∷◌, ◌++◌, length, Some, None, Option, ◌==◌, ◌≢◌, slice_set}
use Rattle.std.proofs.Math.Path.{refl, ap}
use Rattle.std.proofs.Common.{sym, subst, ◌∙◌, arith}
use Rattle.std.proofs.Math.Logic.{⊎_elim}
use Rattle.std.proofs.Math.ListN.{length-set}
use Rattle.std.proofs.lemmas.Bool.{cases_lt, cases_eq, eq-eqb, ne_eqb}
use Rattle.store.specs.declared.cell.Cell.{Cell}
use Rattle.store.specs.Numbers.{hit, times}
use Rattle.store.specs.Cells.{empty, at, links_of, node_of, holds, total}
use Rattle.store.specs.Heap.{Heap, cell, recounted, sunk, front, sunk_all, front_all, shed, turned, turned_pile, drained, settled}
use Rattle.store.specs.Sound.{Sound, Chain, Okay, Piling, Lowered, Lawful, Wiped, Clean}
use Rattle.store.specs.NumbersLemmas.{hit_self, hit_other, times_append}
use Rattle.store.specs.CellsLemmas.{at_set, at_self, inlinks_set, total_set}
use Rattle.store.specs.Writes.{clear}
use Rattle.store.specs.Sinks.{chain_kept, more, sink_here, sink_sound, sink_lowered, sink_chain}

pub lowered_none : (cells : List Cell) → Lowered cells cells []
lowered_none cells = record { sized = refl; held = λ d. omega arith; fewer = λ d. omega arith; inlinked = λ d. omega arith; kept = λ d z. refl }

pub lowered_then : {a b c : List Cell} (xs ys : List ℕ) → Lowered a b xs → Lowered b c ys → Lowered a c (xs ++ ys)
lowered_then xs ys p q = record {
  sized = q.sized ∙ p.sized;
  held = λ d. omega (arith, times_append d xs ys, p.held d, q.held d);
  fewer = λ d. omega (arith, p.fewer d, q.fewer d);
  inlinked = λ d. omega (arith, p.inlinked d, q.inlinked d);
  kept = λ d z. q.kept d z ∙ p.kept d (omega (arith, q.fewer d));
}

abbrev pub weight : {h : Heap} {pile : Option ℕ} → Piling h pile → ℕ
weight {h} p = total h.cells + length p.waiting

-- of count 0 is wiped, unless it waits
abbrev pub CleanBut : List ℕ → List Cell → Type 0
CleanBut ws cells = (d : ℕ) → (at cells d).count ≡ 0 → times d ws ≡ 0 → Wiped (at cells d)

-- what a step from one pile to the next keeps; the holds of the list are ended
pub record Went {h k : Heap} {pile rest : Option ℕ} (p : Piling h pile) (q : Piling k rest) (ended : List ℕ) : Type 0 where
  pub lowered : Lowered h.cells k.cells ended
  pub light : weight q ≤ weight p
  pub clean : CleanBut p.waiting h.cells → CleanBut q.waiting k.cells

more_append : (c n : ℕ) (xs ys : List ℕ) → more c n xs ++ ys ≡ more c n (xs ++ ys)
more_append c n xs ys = elim (n == 1) as (λ b. cond b (c ∷ xs) xs ++ ys ≡ cond b (c ∷ (xs ++ ys)) (xs ++ ys)) [ true ↦ refl | false ↦ refl ]

module _ {h : Heap} {pile : Option ℕ} (p : Piling h pile) (c : ℕ) (out : 0 < holds h.cells c) where
  busy : 0 < (cell h c).count
  busy = omega (arith, p.sound.counted c)

  not_idle : (times c p.waiting ≡ 0) × (times c p.listed ≡ 0)
  not_idle = let e = p.sound.used c busy in let a = times_append c p.waiting p.listed in (omega arith, omega arith)

  pub sink_piling : Piling (sunk h c pile) (front h c pile)
  sink_piling = record {
    waiting = more c (cell h c).count p.waiting;
    listed = p.listed;
    top = sink_chain h c pile p.sound out p.waiting p.top not_idle.0;
    free = chain_kept h.cells c _ h.free p.listed not_idle.1 p.free;
    sound = rw (more_append c (cell h c).count p.waiting p.listed) (sink_sound h c pile p.sound out);
  }

  pub sink_went : Went p sink_piling (c ∷ [])
  unfolding sink_piling
  sink_went = record {
    lowered = sink_lowered h c pile p.sound out;
    light = ⊎_elim
        (λ e. let l : length (more c (cell h c).count p.waiting) ≡ suc (length p.waiting) = rw (eq-eqb (cell h c).count 1 e) in omega (arith, l, sum))
        (λ ne. let l : length (more c (cell h c).count p.waiting) ≡ length p.waiting = rw (ne_eqb (cell h c).count 1 ne) in omega (arith, l, sum))
        (cases_eq (cell h c).count 1);
    clean = λ k d z w. ⊎_elim
        (λ q. absurd (last d q.0 (ap (λ (y : Cell). y.count) (sym q.1) ∙ z) w))
        (λ q. rw q.1 (k d (ap (λ (y : Cell). y.count) (sym q.1) ∙ z) (fewer d w)))
        (at_set h.cells c _ d here);
  }
    where
      here : c < length h.cells
      here = sink_here h c pile p.sound out

      sum : suc (total (sunk h c pile).cells) ≡ total h.cells
      sum = omega (arith, total_set h.cells c (recounted (cell h c) ((cell h c).count - 1) (cond ((cell h c).count == 1) pile (cell h c).next)) here, busy)

      last : (d : ℕ) → d ≡ c → (cell h c).count - 1 ≡ 0 → times d (more c (cell h c).count p.waiting) ≢ 0
      last d e z w =
          let one : (cell h c).count ≡ 1 = omega (arith, busy) in
          let m : times d (more c (cell h c).count p.waiting) ≡ times d (c ∷ p.waiting) = rw (eq-eqb (cell h c).count 1 one) in
          omega (arith, m, w, ap (λ i. hit i c) e, hit_self c)

      fewer : (d : ℕ) → times d (more c (cell h c).count p.waiting) ≡ 0 → times d p.waiting ≡ 0
      fewer d w = ⊎_elim
          (λ e. let m : times d (more c (cell h c).count p.waiting) ≡ times d (c ∷ p.waiting) = rw (eq-eqb (cell h c).count 1 e) in omega (arith, m, w))
          (λ ne. let m : times d (more c (cell h c).count p.waiting) ≡ times d p.waiting = rw (ne_eqb (cell h c).count 1 ne) in omega (arith, m, w))
          (cases_eq (cell h c).count 1)

-- a list of holds is ended
pub sinks : (xs : List ℕ) (h : Heap) (pile : Option ℕ) (p : Piling h pile) → ((d : ℕ) → times d xs ≤ holds h.cells d) →
    (q : Piling (sunk_all h pile xs) (front_all h pile xs)) × Went p q xs
unfolding sunk_all front_all
sinks [] h pile p room = (p, record { lowered = lowered_none h.cells; light = omega arith; clean = λ k. k })
sinks (c ∷ cs) h pile p room =
    let out : 0 < holds h.cells c = omega (arith, room c, hit_self c) in
    let one = sink_went p c out in
    let rest = sinks cs (sunk h c pile) (front h c pile) (sink_piling p c out) (λ d. omega (arith, room d, one.lowered.held d)) in (
      rest.0,
      record {
        lowered = lowered_then (c ∷ []) cs one.lowered rest.1.lowered;
        light = omega (arith, one.light, rest.1.light);
        clean = λ k. rest.1.clean (one.clean k);
      },
    )

pub sunk_more : (xs ys : List ℕ) (h : Heap) (pile : Option ℕ) → sunk_all h pile (xs ++ ys) ≡ sunk_all (sunk_all h pile xs) (front_all h pile xs) ys
unfolding sunk_all front_all
sunk_more [] ys h pile = refl
sunk_more (c ∷ cs) ys h pile = sunk_more cs ys (sunk h c pile) (front h c pile)

pub front_more : (xs ys : List ℕ) (h : Heap) (pile : Option ℕ) → front_all h pile (xs ++ ys) ≡ front_all (sunk_all h pile xs) (front_all h pile xs) ys
unfolding sunk_all front_all
front_more [] ys h pile = refl
front_more (c ∷ cs) ys h pile = front_more cs ys (sunk h c pile) (front h c pile)

-- the topmost is wiped and listed: its links become holds that are still to be ended
module _ (h : Heap) (c : ℕ) (ws fs : List ℕ) (top : Chain h.cells (cell h c).next ws) (free : Chain h.cells h.free fs) (s : Sound h.cells (c ∷ (ws ++ fs))) where
  idle_count : (cell h c).count ≡ 0
  idle_count = ⊎_elim (λ l. absurd (omega (arith, s.used c l, hit_self c))) (λ z. omega arith) (cases_lt 0 (cell h c).count)

  pub shed_here : c < length h.cells
  shed_here = ⊎_elim (λ l. l) (λ z. absurd (omega (arith, s.beyond c z, hit_self c))) (cases_lt c (length h.cells))

  elsewhere : (times c ws ≡ 0) × (times c fs ≡ 0)
  elsewhere = let e = s.each c shed_here idle_count in let a = times_append c ws fs in let o = hit_self c in (omega arith, omega arith)

  pub shed_piling : Piling (shed h c) (cell h c).next
  shed_piling = record {
    waiting = ws;
    listed = c ∷ fs;
    top = chain_kept h.cells c _ (cell h c).next ws elsewhere.0 top;
    free = (refl, subst (λ (y : Cell). Chain (slice_set h.cells c (empty 0 h.free)) y.next fs) (sym (at_self h.cells c (empty 0 h.free) shed_here)) (chain_kept h.cells c _ h.free fs elsewhere.1 free));
    sound = clear s c shed_here 0 h.free (omega (arith, s.counted c, idle_count)) (ws ++ (c ∷ fs))
        (λ z. omega (arith, times_append c ws (c ∷ fs), elsewhere.0, elsewhere.1, hit_self c)) (λ z. absurd (omega arith))
        (λ d ne. omega (arith, times_append d ws (c ∷ fs), times_append d ws fs)) (λ z. absurd (omega arith));
  }

  shed_at : (d : ℕ) → ((d ≡ c) × (at (shed h c).cells d ≡ empty 0 h.free)) ⊎ ((d ≢ c) × (at (shed h c).cells d ≡ at h.cells d))
  shed_at d = at_set h.cells c (empty 0 h.free) d shed_here

  pub shed_held : (d : ℕ) → holds (shed h c).cells d ≡ holds h.cells d + times d (links_of (cell h c))
  unfolding shed_piling
  shed_held d = ⊎_elim
      (λ q. omega (arith, s.counted d, shed_piling.sound.counted d, inlinks_set d h.cells c (empty 0 h.free) shed_here, ap (λ (y : Cell). y.count) q.1, ap (λ i. (at h.cells i).count) q.0, idle_count))
      (λ q. omega (arith, s.counted d, shed_piling.sound.counted d, inlinks_set d h.cells c (empty 0 h.free) shed_here, ap (λ (y : Cell). y.count) q.1))
      (shed_at d)

  -- then its links are lowered
  pub turn : (q : Piling (turned h c) (turned_pile h c)) ×
      Lowered h.cells (turned h c).cells [] ×
      (weight q < total h.cells + length (c ∷ ws)) ×
      (CleanBut (c ∷ ws) h.cells → CleanBut q.waiting (turned h c).cells)
  unfolding shed_piling
  turn =
      let go = sinks (links_of (cell h c)) (shed h c) (cell h c).next shed_piling (λ d. omega (arith, shed_held d)) in
      let w = go.1 in (
        go.0,
        record {
          sized = w.lowered.sized ∙ length-set h.cells c (empty 0 h.free);
          held = λ d. omega (arith, w.lowered.held d, shed_held d);
          fewer = λ d. ⊎_elim
              (λ q. omega (arith, w.lowered.fewer d, ap (λ (y : Cell). y.count) q.1))
              (λ q. omega (arith, w.lowered.fewer d, ap (λ (y : Cell). y.count) q.1))
              (shed_at d);
          inlinked = λ d. omega (arith, w.lowered.inlinked d, inlinks_set d h.cells c (empty 0 h.free) shed_here);
          kept = λ d z. ⊎_elim
              (λ q. absurd (omega (arith, w.lowered.fewer d, ap (λ (y : Cell). y.count) q.1)))
              (λ q. w.lowered.kept d z ∙ ap node_of q.1)
              (shed_at d);
        },
        omega (arith, w.light, total_set h.cells c (empty 0 h.free) shed_here, idle_count),
        λ k. w.clean (λ d z n. ⊎_elim
            (λ q. rw q.1 (record { kind = refl; value = refl; link0 = refl; link1 = refl; count = refl }))
            (λ q. rw q.1 (k d (ap (λ (y : Cell). y.count) (sym q.1) ∙ z) (omega (arith, n, hit_other d c q.0))))
            (shed_at d)),
      )

pub none_some : {A : Type 0} {c : ℕ} → ◌≡◌ {A = Option ℕ} None (Some c) → A
none_some e = absurd (let z : ◌≡◌ {A = ℕ} 0 1 = cc in omega arith)

some_is : {c d : ℕ} → ◌≡◌ {A = Option ℕ} (Some c) (Some d) → d ≡ c
some_is e = cc

-- the topmost of a pile
pub record Top (h : Heap) (c : ℕ) : Type 0 where
  pub below : List ℕ
  pub listed : List ℕ
  pub chain : Chain h.cells (cell h c).next below
  pub free : Chain h.cells h.free listed
  pub sound : Sound h.cells (c ∷ (below ++ listed))

pub topmost : {h : Heap} {c : ℕ} → Piling h (Some c) → Top h c
topmost {h} {c} p = go p.waiting p.top p.sound
  where
    go : (ws : List ℕ) → Chain h.cells (Some c) ws → Sound h.cells (ws ++ p.listed) → Top h c
    go [] k s = none_some (sym k)
    go (w ∷ ws) k s =
        let e = some_is k.0 in
        record { below = ws; listed = p.listed; chain = subst (λ i. Chain h.cells (cell h i).next ws) e k.1; free = p.free; sound = subst (λ i. Sound h.cells (i ∷ (ws ++ p.listed))) e s }

-- where none waits, the store is as it should be
pub record Settled (h k : Heap) (ended : List ℕ) (clean : Type 0) : Type 0 where
  pub okay : Okay k
  pub lowered : Lowered h.cells k.cells ended
  pub wiped : clean → Clean k.cells

pub drain : (k : ℕ) (h : Heap) (pile : Option ℕ) (ws fs : List ℕ) → Chain h.cells pile ws → Chain h.cells h.free fs → Sound h.cells (ws ++ fs) → total h.cells + length ws ≤ k →
    Settled h (drained k h pile) [] (CleanBut ws h.cells)
unfolding drained
drain zero h pile [] fs top free s l = record { okay = record { listed = fs; chain = free; sound = s }; lowered = lowered_none h.cells; wiped = λ k d z. k d z refl }
drain zero h pile (w ∷ ws) fs top free s l = absurd (omega arith)
drain (suc k) h None [] fs top free s l = record { okay = record { listed = fs; chain = free; sound = s }; lowered = lowered_none h.cells; wiped = λ k d z. k d z refl }
drain (suc k) h None (w ∷ ws) fs top free s l = none_some top.0
drain (suc k) h (Some c) [] fs top free s l = none_some (sym top)
drain (suc k) h (Some c) (w ∷ ws) fs top free s l =
    let e = some_is top.0 in
    let t = turn h c ws fs (subst (λ i. Chain h.cells (cell h i).next ws) e top.1) free (subst (λ i. Sound h.cells (i ∷ (ws ++ fs))) e s) in
    let q = t.0 in
    let r = drain k (turned h c) (turned_pile h c) q.waiting q.listed q.top q.free q.sound (omega (arith, t.2)) in
    record {
      okay = r.okay;
      lowered = lowered_then [] [] t.1 r.lowered;
      wiped = λ k. r.wiped (t.3 (subst (λ i. CleanBut (i ∷ ws) h.cells) e k));
    }

-- the eager store
pub settles : (h : Heap) (c : ℕ) → Okay h → 0 < holds h.cells c → Settled h (settled h c) (c ∷ []) (Clean h.cells)
unfolding settled
settles h c o out =
    let start : Piling h None = record { waiting = []; listed = o.listed; top = refl; free = o.chain; sound = o.sound } in
    let p = sink_piling start c out in
    let w = sink_went start c out in
    let r = drain (total h.cells) (sunk h c None) (front h c None) p.waiting p.listed p.top p.free p.sound (omega (arith, w.light)) in
    record { okay = r.okay; lowered = lowered_then (c ∷ []) [] w.lowered r.lowered; wiped = λ k. r.wiped (w.clean (λ d z n. k d z)) }

pub eagers : Lawful settled
eagers h c o out = let r = settles h c o out in (r.okay, r.lowered)
