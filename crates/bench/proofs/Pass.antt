-- The pass lists what is found, each once.
use Rattle.std.proofs.Common.{◌≡◌, ℕ, zero, suc, ◌<◌, ◌≤◌, ltb, ◌⊎◌, List, ◌∷◌, ◌++◌, length, sym, refl, ap, subst, inl, inr, ⊎_elim, arith}
use Rattle.std.proofs.lemmas.Bool.{cases_lt, cases_eq, ltb-true, ltb-false, cond_both}
use Rattle.store.specs.Numbers.{times, In}
use Rattle.store.specs.Meaning.{Node}
use Rattle.store.specs.Rooted.{named}
use Rattle.store.specs.NumbersLemmas.{hit_cases, times_append}
use Rattle.bench.specs.Machine.{Machine, Sound, node_at, swept}
use Rattle.bench.specs.Picture.{Found, from_root, from_link, machine_picture}
use Rattle.bench.specs.Laws.{PassRight}

pub in_either : (c : ℕ) (xs ys : List ℕ) → In c (xs ++ ys) → In c xs ⊎ In c ys
in_either c xs ys h = ⊎_elim inl (λ z. inr (omega (arith, times_append c xs ys))) (cases_lt 0 (times c xs))

module _ (nodes : List Node) where
  -- the newest node is listed, or not
  swept_both : (n : ℕ) (from : List ℕ) (P : List ℕ → Type 0) → (In n from → P (n ∷ swept nodes n ((node_at nodes n).links ++ from))) → (times n from ≡ 0 → P (swept nodes n from)) → P (swept nodes (suc n) from)
  swept_both n from P on off =
      cond_both (ltb 0 (times n from)) _ _ P (λ e. on (ltb-true 0 (times n from) e)) (λ e. off (omega (arith, ltb-false 0 (times n from) e)))

  swept_below : (n : ℕ) (from : List ℕ) (i : ℕ) → n ≤ i → times i (swept nodes n from) ≡ 0
  swept_below zero from i h = refl
  swept_below (suc n) from i h = swept_both n from (λ l. times i l ≡ 0)
      (λ y. ⊎_elim (λ p. absurd (omega (arith, p.0))) (λ p. omega (arith, p.1, swept_below n ((node_at nodes n).links ++ from) i (omega arith))) (hit_cases i n))
      (λ z. swept_below n from i (omega arith))

  swept_once : (n : ℕ) (from : List ℕ) (i : ℕ) → times i (swept nodes n from) ≤ 1
  swept_once zero from i = omega arith
  swept_once (suc n) from i = swept_both n from (λ l. times i l ≤ 1)
      (λ y. ⊎_elim
      (λ p. omega (arith, p.1, swept_below n ((node_at nodes n).links ++ from) i (omega (arith, p.0))))
      (λ p. omega (arith, p.1, swept_once n ((node_at nodes n).links ++ from) i))
      (hit_cases i n))
      (λ z. swept_once n from i)

module _ {t : Machine} (s : Sound t) where
  abbrev F : ℕ → Type 0
  F = Found (machine_picture t)

  -- what is listed is found, where all to start from is
  listed_found : (n : ℕ) (from : List ℕ) → ((i : ℕ) → In i from → F i) → (i : ℕ) → In i (swept t.nodes n from) → F i
  listed_found zero from f i = λ h. absurd (omega arith)
  listed_found (suc n) from f i = swept_both t.nodes n from (λ l. In i l → F i)
      (λ y h. ⊎_elim
      (λ p. subst F (sym p.0) (f n y))
      (λ p. listed_found n ((node_at t.nodes n).links ++ from) (λ k q. ⊎_elim (from_link (f n y)) (f k) (in_either k (node_at t.nodes n).links from q)) i (omega (arith, p.1)))
      (hit_cases i n))
      (λ z h. listed_found n from f i h)

  -- the pass is down to n: the list has what the roots name, and the links of its own numbers from n up
  record DownTo (n : ℕ) (from : List ℕ) : Type 0 where
    rooted : (i : ℕ) → In i (named t.roots) → In i from
    linked : (j i : ℕ) → n ≤ j → In j from → In i (node_at t.nodes j).links → In i from

  down_found : {n : ℕ} {from : List ℕ} → DownTo (suc n) from → {i : ℕ} → n ≤ i → F i → In i from
  down_found d {i} h (from_root r) = d.rooted i r
  down_found d {i} h (from_link {j} r l) = let e = s.earlier j i l in d.linked j i (omega arith) (down_found d (omega arith) r) l

  down_miss : {n : ℕ} {from : List ℕ} → DownTo (suc n) from → times n from ≡ 0 → DownTo n from
  down_miss {n} {from} d z = record {
    rooted = d.rooted;
    linked = λ j i h k l. d.linked j i (⊎_elim (λ e. absurd (omega (arith, ap (λ x. times x from) e))) (λ ne. omega arith) (cases_eq j n)) k l;
  }

  down_hit : {n : ℕ} {from : List ℕ} → DownTo (suc n) from → DownTo n ((node_at t.nodes n).links ++ from)
  down_hit {n} {from} d = record {
    rooted = λ i h. omega (arith, d.rooted i h, times_append i (node_at t.nodes n).links from);
    linked = λ j i h k l. ⊎_elim
        (λ q. absurd (omega (arith, s.earlier n j q)))
        (λ q. ⊎_elim
        (λ e. omega (arith, times_append i (node_at t.nodes n).links from, subst (λ x. In i (node_at t.nodes x).links) e l))
        (λ ne. omega (arith, times_append i (node_at t.nodes n).links from, d.linked j i (omega arith) q l))
        (cases_eq j n))
        (in_either j (node_at t.nodes n).links from k);
  }

  found_listed : (n : ℕ) (from : List ℕ) → DownTo n from → (i : ℕ) → i < n → F i → In i (swept t.nodes n from)
  found_listed zero from d i h r = absurd (omega arith)
  found_listed (suc n) from d i h r = swept_both t.nodes n from (In i)
      (λ y. ⊎_elim (λ p. omega (arith, p.1)) (λ p. omega (arith, found_listed n ((node_at t.nodes n).links ++ from) (down_hit d) i (omega (arith, p.0)) r)) (hit_cases i n))
      (λ z. found_listed n from (down_miss d z) i (⊎_elim (λ e. absurd (omega (arith, down_found d {i = i} (omega arith) r, ap (λ x. times x from) e))) (λ ne. omega arith) (cases_eq i n)) r)

  -- what is found is there
  pub found_there : {i : ℕ} → F i → i < length t.nodes
  found_there {i} (from_root r) = s.there i r
  found_there {i} (from_link {j} r l) = omega (arith, found_there r, s.earlier j i l)

  begun : DownTo (length t.nodes) (named t.roots)
  begun = record { rooted = λ i h. h; linked = λ j i h k l. absurd (omega (arith, s.there j k)) }

pub pass_right : PassRight
pass_right t s i = (
  (listed_found s (length t.nodes) (named t.roots) (λ k. from_root) i, λ r. found_listed s (length t.nodes) (named t.roots) (begun s) i (found_there s r) r),
  swept_once t.nodes (length t.nodes) (named t.roots) i,
)
