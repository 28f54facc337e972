-- As many nodes are reached as cells: so all cells are reached exactly when the count says so.
use Rattle.std.proofs.Common.{◌≡◌, ℕ, ◌<◌, ◌≤◌, true, ◌↔◌, List, map, length, Some, Option, sym, ap, ◌∙◌, subst, arith}
use lib.ListN.{length-map}
use Rattle.std.proofs.lemmas.Bool.{ltb-true, lt-ltb}
use Rattle.store.specs.Numbers.{times, In}
use Rattle.store.specs.Meaning.{Meaning, Reached, by_hold, less, Full}
use Rattle.store.specs.Rooted.{root_at}
use Rattle.store.proofs.Reach.{less_reached, still_reached}
use Rattle.bench.specs.Machine.{Machine, released, alive, live, shared}
use Rattle.bench.specs.Standing.{Standing}
use Rattle.bench.specs.Laws.{MakeExact, RebuildExact, MakeOpen, RebuildOpen}
use Rattle.bench.proofs.Pass.{pass_right}
use Rattle.bench.proofs.Slots.{by_in}
use Rattle.bench.proofs.Agree.{forth, back}
use Rattle.bench.proofs.Kept.{found_reached, reached_found, slot_held}
use Rattle.bench.proofs.Moves.{root_own}
use Rattle.bench.proofs.Rebuild.{lessens}
use Rattle.store.proofs.Count.{length_most, length_full}
use Rattle.bench.proofs.Count.{times_by, pulled}

module _ {t : Machine} {slots : List (Option ℕ)} {m : Meaning} {own : ℕ → ℕ} (s : Standing t slots m own) where
  -- a node is listed exactly when it stands in a reached cell
  pub cell_of : (i : ℕ) → In i (alive t) → (c : ℕ) × Reached m c × (own c ≡ i)
  cell_of i h = let b = back s.agree ((pass_right t s.sound i).0.0 h) in (b.0, found_reached s.out b.1, b.2)

  pub own_alive : {c : ℕ} → Reached m c → In (own c) (alive t)
  own_alive {c} r = (pass_right t s.sound (own c)).0.1 (forth s.agree (reached_found s.out r))

  pub own_apart : {c d : ℕ} → Reached m c → Reached m d → own c ≡ own d → c ≡ d
  own_apart {c} {d} r k = s.agree.apart c d (reached_found s.out r) (reached_found s.out k)

  -- the reached cells, in the order of their nodes
  cells : (cs : List ℕ) × (map own cs ≡ alive t) × ((c : ℕ) → In c cs → Reached m c)
  cells = pulled own (Reached m) (alive t) cell_of

  cells_all : {c : ℕ} → Reached m c → In c cells.0
  cells_all {c} r =
      let b = by_in own cells.0 (own c) (subst (In (own c)) (sym cells.1) (own_alive r)) in
      subst (λ d. In d cells.0) (own_apart (cells.2 b.0 b.1) r b.2) b.1

  cells_once : (c : ℕ) → times c cells.0 ≤ 1
  cells_once c = omega (arith, times_by own cells.0 c, ap (times (own c)) cells.1, (pass_right t s.sound (own c)).1)

  cells_live : length cells.0 ≡ live t
  cells_live = sym (length-map cells.0 own) ∙ ap length cells.1

  cells_inside : (c : ℕ) → In c cells.0 → c < m.size
  cells_inside c i = s.inside c (cells.2 c i)

  pub live_most : live t ≤ m.size
  live_most = omega (arith, cells_live, length_most cells.0 cells_once m.size cells_inside)

  pub full_live : Full m ↔ (live t ≡ m.size)
  full_live =
      let e = length_full cells.0 cells_once m.size cells_inside in
      (λ f. sym cells_live ∙ e.0 (λ c h. cells_all (f c h)), λ q c h. cells.2 c (e.1 (cells_live ∙ q) c h))

-- the old cell stays reached exactly when the old node is listed with its root emptied
pub still_shared : {t : Machine} {slots : List (Option ℕ)} {m : Meaning} {own : ℕ → ℕ} → Standing t slots m own → (r old : ℕ) → root_at slots r ≡ Some old → Reached (less m old) old ↔ (shared t r ≡ true)
still_shared {t} {slots} {m} {own} s r old e =
    let l = lessens s r old e in
    rw (root_own s r old e) (
      λ k. lt-ltb 0 (times (own old) (alive (released t r))) (own_alive l k),
      λ b.
          let c = cell_of l (own old) (ltb-true 0 (times (own old) (alive (released t r))) b) in
          subst (Reached (less m old)) (own_apart s (less_reached m old c.1) (by_hold (slot_held s r old e)) c.2) c.1,
    )

pub make_exact : MakeExact
make_exact t slots m (own, s) = full_live s

pub rebuild_exact : RebuildExact
rebuild_exact t slots m r old (own, s) e =
    let f = full_live s in
    let k = still_shared s r old e in
    (λ p. (f.0 p.0, k.0 p.1), λ p. (f.1 p.0, k.1 p.1))

pub make_open : MakeOpen
make_open t slots m n node c (own, s) v e = v.fresh ((full_live s).1 e c v.inside)

pub rebuild_open : RebuildOpen
rebuild_open t slots m n node r old c (own, s) e v q b = v.fresh (still_reached m old ((still_shared s r old e).1 b) ((full_live s).1 q c v.inside))
