-- What is reached in a store is what is found from the bench's slots; where holds only move, what is reached was reached.
use Rattle.std.proofs.Common.{◌≡◌, ℕ, ◌<◌, List, map, length, Some, Option, sym, ap, ◌∙◌, subst, ⊎_elim, arith}
use Rattle.std.proofs.lemmas.Bool.{cases_lt}
use Rattle.store.specs.Numbers.{In}
use Rattle.store.specs.Meaning.{Node, Meaning, Reached, by_hold, by_link, Moved, Out}
use Rattle.store.specs.Rooted.{root_at, named}
use Rattle.bench.specs.Machine.{Machine, rerooted}
use Rattle.bench.specs.Picture.{Found, from_root, from_link, bench_picture, node_by, root_by}
use Rattle.bench.specs.Standing.{Standing}
use Rattle.bench.proofs.Pass.{found_there}
use Rattle.bench.proofs.Slots.{by_in, named_by, root_named}
use Rattle.bench.proofs.Agree.{forth}

module _ {slots : List (Option ℕ)} {m : Meaning} (out : Out m (named slots)) where
  pub found_reached : {c : ℕ} → Found (bench_picture slots m) c → Reached m c
  found_reached {c} (from_root h) = by_hold (omega (arith, out c))
  found_reached (from_link r h) = by_link (found_reached r) h

  pub reached_found : {c : ℕ} → Reached m c → Found (bench_picture slots m) c
  reached_found {c} (by_hold h) = from_root (omega (arith, out c))
  reached_found (by_link r h) = from_link (reached_found r) h

-- d is reached in n as it was in m
abbrev pub AsWas : Meaning → Meaning → ℕ → Type 0
AsWas m n d = Reached m d × (n.content d ≡ m.content d)

-- where what is given was reached
pub was_reached : {m n : Meaning} {spent given : List ℕ} → Moved m n spent given → ((d : ℕ) → In d given → Reached m d) → (d : ℕ) → Reached n d → AsWas m n d
was_reached {m} {n} {spent} {given} v g d (by_hold h) =
    let r : Reached m d = ⊎_elim by_hold (λ z. g d (omega (arith, v.held d))) (cases_lt 0 (m.holds d)) in
    (r, v.kept d r (by_hold h))
was_reached {m} v g d (by_link {j} k h) =
    let w = was_reached v g j k in
    let r : Reached m d = by_link w.0 (subst (λ (x : Node). In d x.links) w.1 h) in
    (r, v.kept d r (by_link k h))

module _ {t : Machine} {slots : List (Option ℕ)} {m : Meaning} {own : ℕ → ℕ} (s : Standing t slots m own) where
  -- what a slot names is held, so reached
  pub slot_held : (r c : ℕ) → root_at slots r ≡ Some c → 0 < m.holds c
  slot_held r c e = omega (arith, s.out c, root_named slots r c e)

  pub own_there : {c : ℕ} → Reached m c → own c < length t.nodes
  own_there r = found_there s.sound (forth s.agree (reached_found s.out r))

  -- other roots, and a store where all that is reached is as it was
  pub keeps : (mine new : List (Option ℕ)) (n : Meaning) → mine ≡ map (root_by own) new → n.size ≡ m.size → Out n (named new) → ((d : ℕ) → Reached n d → AsWas m n d) → Standing (rerooted t mine) new n own
  keeps mine new n e sized out was = record {
    sound = record { earlier = s.sound.earlier; there = there };
    agree = record {
      roots = e;
      content = λ c f. s.agree.content c (old f) ∙ ap (node_by own) (sym (was c (found_reached out f)).1);
      apart = λ c d f g. s.agree.apart c d (old f) (old g);
    };
    out = out;
    inside = λ c r. omega (arith, s.inside c (was c r).0);
  }
    where
      old : {c : ℕ} → Found (bench_picture new n) c → Found (bench_picture slots m) c
      old {c} f = reached_found s.out (was c (found_reached out f)).0

      there : (i : ℕ) → In i (named mine) → i < length t.nodes
      there i h =
          let b = by_in own (named new) i (subst (In i) (ap named e ∙ named_by own new) h) in
          omega (arith, b.2, own_there (was b.0 (by_hold (omega (arith, b.1, out b.0)))).0)
