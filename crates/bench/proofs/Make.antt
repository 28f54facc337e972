-- Make: one node more in the machine, one cell more that is reached in the store.
use Rattle.std.proofs.Common.{◌≡◌, ℕ, ◌<◌, ◌≤◌, cond, eqb, ◌⊎◌, List, [], ◌∷◌, ◌++◌, map, length, set, ℤ, Some, None, Option, sym, refl, ap, ◌∙◌, subst, inl, inr, ⊎_elim, arith}
use Rattle.std.proofs.lemmas.List.{map-set, get_or_append_left, get_or_at, get_or_past, length_push}
use Rattle.std.proofs.lemmas.Bool.{cases_order, eq-eqb, ne_eqb}
use Rattle.store.specs.Numbers.{times, In}
use Rattle.store.specs.Meaning.{Node, Meaning, Reached, by_hold, by_link, Made, Out}
use Rattle.store.specs.Rooted.{root_at, named}
use Rattle.store.specs.NumbersLemmas.{hit_cases, hit_self}
use Rattle.bench.specs.Machine.{Machine, blank, node_at, spent, taken, made}
use Rattle.bench.specs.Picture.{root_by, node_by}
use Rattle.bench.specs.Standing.{Standing}
use Rattle.bench.specs.Laws.{MakeStands}
use Rattle.bench.proofs.Slots.{named_spent, named_fill, length_spent, by_in, named_by, spent_by, taken_by}
use Rattle.bench.proofs.Kept.{found_reached, reached_found, AsWas, own_there}

-- two ways to number that are the same on what stands there
map_same : (f g : ℕ → ℕ) (xs : List ℕ) → ((i : ℕ) → In i xs → f i ≡ g i) → map f xs ≡ map g xs
map_same f g [] h = refl
map_same f g (x ∷ xs) h = rw (h x (omega (arith, hit_self x)), map_same f g xs (λ i k. h i (omega arith)))

slots_same : (f g : ℕ → ℕ) (slots : List (Option ℕ)) → ((i : ℕ) → In i (named slots) → f i ≡ g i) → map (root_by f) slots ≡ map (root_by g) slots
slots_same f g [] h = refl
slots_same f g (None ∷ ss) h = rw (slots_same f g ss h)
slots_same f g (Some c ∷ ss) h = rw (h c (omega (arith, hit_self c)), slots_same f g ss (λ i k. h i (omega arith)))

-- links still lead to earlier nodes with a new node at the end
node_more : (nodes : List Node) (x : Node) → ((i : ℕ) → In i x.links → i < length nodes) → ((j i : ℕ) → In i (node_at nodes j).links → i < j) → (j i : ℕ) → In i (node_at (nodes ++ x ∷ []) j).links → i < j
node_more nodes x new old j i h = ⊎_elim
    (λ e. omega (arith, new i (at (get_or_at nodes x [] blank j (sym e)))))
    (⊎_elim (λ l. old j i (at (get_or_append_left nodes (x ∷ []) blank j l))) (λ g. absurd (omega (arith, at (get_or_past (nodes ++ x ∷ []) j blank (omega (arith, length_push nodes x)))))))
    (cases_order j (length nodes))
  where
    at : {y : Node} → node_at (nodes ++ x ∷ []) j ≡ y → In i y.links
    at e = subst (λ (y : Node). In i y.links) e h

-- what is reached after a make is the new cell, or is as it was
pub new_or_was : {m n : Meaning} {x : Node} {c : ℕ} → Made m n x c → ((d : ℕ) → times d x.links ≤ m.holds d) → (d : ℕ) → Reached n d → (d ≡ c) ⊎ AsWas m n d
new_or_was {m} {n} {x} {c} v spare d (by_hold h) = ⊎_elim
    (λ p. inl p.0)
    (λ p. let r : Reached m d = by_hold (omega (arith, p.1, v.moved.held d)) in inr (r, v.moved.kept d r (by_hold h)))
    (hit_cases d c)
new_or_was {m} {n} {x} {c} v spare d (by_link {j} k h) =
    let r : Reached m d =
    ⊎_elim
    (λ e. by_hold (omega (arith, spare d, subst (λ (y : Node). In d y.links) (ap n.content e ∙ v.written) h)))
    (λ w. by_link w.0 (subst (λ (y : Node). In d y.links) w.1 h))
    (new_or_was v spare j k) in
    inr (r, v.moved.kept d r (by_link k h))

module _ {t : Machine} {slots : List (Option ℕ)} {m n : Meaning} {own : ℕ → ℕ} (s : Standing t slots m own) (d kind : ℕ) (value : ℤ) (rs : List ℕ) (c : ℕ)
    (here : d < length slots) (empty : root_at (spent slots rs) d ≡ None) (v : Made m n (record { kind = kind; value = value; links = taken slots rs }) c) where
  abbrev top : ℕ
  top = length t.nodes

  -- the new node stands in the new cell
  abbrev new : ℕ → ℕ
  new e = cond (eqb e c) top (own e)

  -- the node, as it is asked of the store, and in the machine
  abbrev x : Node
  x = record { kind = kind; value = value; links = taken slots rs }

  abbrev y : Node
  y = record { kind = kind; value = value; links = taken t.roots rs }

  abbrev after : List (Option ℕ)
  after = set (spent slots rs) d (Some c)

  spare : (e : ℕ) → times e (taken slots rs) ≤ m.holds e
  spare e = omega (arith, s.out e, named_spent e slots rs)

  new_here : new c ≡ top
  new_here = rw (eq-eqb c c refl)

  new_old : {e : ℕ} → Reached m e → new e ≡ own e
  new_old {e} r = rw (ne_eqb e c (λ q. v.fresh (subst (Reached m) q r)))

  node_same : (z : Node) → ((e : ℕ) → In e z.links → Reached m e) → node_by own z ≡ node_by new z
  node_same z h = ap {B = Node} (λ l. record { kind = z.kind; value = z.value; links = l }) (map_same own new z.links (λ e i. sym (new_old (h e i))))

  y_own : y ≡ node_by own x
  y_own = ap {B = Node} (λ l. record { kind = kind; value = value; links = l }) (ap (λ l. taken l rs) s.agree.roots ∙ taken_by own slots rs)

  spare_reached : (e : ℕ) → In e (taken slots rs) → Reached m e
  spare_reached e i = by_hold (omega (arith, spare e))

  roots_new : set (spent t.roots rs) d (Some top) ≡ map (root_by new) after
  roots_new =
      rw (s.agree.roots, spent_by own slots rs, map-set (root_by new) (spent slots rs) d (Some c), new_here)
      (ap (λ l. set l d (Some top)) (slots_same own new (spent slots rs) (λ e i. sym (new_old (by_hold (omega (arith, s.out e, named_spent e slots rs)))))))

  out_new : Out n (named after)
  out_new e = omega (arith, v.moved.held e, s.out e, named_spent e slots rs, named_fill e (spent slots rs) d c (omega (arith, length_spent slots rs)) empty)

  -- what is reached, and where it stands
  which : (e : ℕ) → Reached n e → ((e ≡ c) × (new e ≡ top)) ⊎ (AsWas m n e × (new e ≡ own e))
  which e r = ⊎_elim (λ q. inl (q, ap new q ∙ new_here)) (λ w. inr (w, new_old w.0)) (new_or_was v spare e r)

  there_new : (e : ℕ) → Reached n e → new e < length (t.nodes ++ y ∷ [])
  there_new e r = ⊎_elim (λ p. omega (arith, p.1, length_push t.nodes y)) (λ p. omega (arith, p.1, own_there s p.0.0, length_push t.nodes y)) (which e r)

  content_new : (e : ℕ) → Reached n e → node_at (t.nodes ++ y ∷ []) (new e) ≡ node_by new (n.content e)
  content_new e r = ⊎_elim
      (λ p. ap (node_at (t.nodes ++ y ∷ [])) p.1 ∙ get_or_at t.nodes y [] blank top refl ∙ y_own ∙ node_same x spare_reached ∙ ap (node_by new) (sym (ap n.content p.0 ∙ v.written)))
      (λ p.
      ap (node_at (t.nodes ++ y ∷ [])) p.1 ∙ get_or_append_left t.nodes (y ∷ []) blank (own e) (own_there s p.0.0)
      ∙ s.agree.content e (reached_found s.out p.0.0) ∙ node_same (m.content e) (λ k i. by_link p.0.0 i) ∙ ap (node_by new) (sym p.0.1))
      (which e r)

  apart_new : (e f : ℕ) → Reached n e → Reached n f → new e ≡ new f → e ≡ f
  apart_new e f r k q = ⊎_elim
      (λ p. ⊎_elim (λ u. p.0 ∙ sym u.0) (λ u. absurd (omega (arith, q, p.1, u.1, own_there s u.0.0))) (which f k))
      (λ p. ⊎_elim
      (λ u. absurd (omega (arith, q, p.1, u.1, own_there s p.0.0)))
      (λ u. s.agree.apart e f (reached_found s.out p.0.0) (reached_found s.out u.0.0) (sym p.1 ∙ q ∙ u.1))
      (which f k))
      (which e r)

  pub made_standing : Standing (made t d kind value rs) after n new
  made_standing = record {
    sound = record {
      earlier = node_more t.nodes y
          (λ i h. let b = by_in own (taken slots rs) i (subst (λ (z : Node). In i z.links) y_own h) in omega (arith, b.2, own_there s (spare_reached b.0 b.1)))
          s.sound.earlier;
      there = λ i h.
          let b = by_in new (named after) i (subst (In i) (ap named roots_new ∙ named_by new after) h) in
          omega (arith, b.2, there_new b.0 (by_hold (omega (arith, b.1, out_new b.0))));
    };
    agree = record {
      roots = roots_new;
      content = λ e f. content_new e (found_reached out_new f);
      apart = λ e f r k. apart_new e f (found_reached out_new r) (found_reached out_new k);
    };
    out = out_new;
    inside = λ e r. ⊎_elim (λ p. omega (arith, p.0, v.inside, v.moved.sized)) (λ p. omega (arith, s.inside e p.0.0, v.moved.sized)) (which e r);
  }

pub make_stands : MakeStands
make_stands t slots m n d kind value rs c (own, s) here empty v = (_, made_standing s d kind value rs c here empty v)
