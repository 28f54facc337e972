-- The links that part hands over are set in their roots.
use Rattle.std.proofs.Common.{◌≡◌, ℕ, ◌<◌, Bool, true, false, cond, not, eqb, leb, List, [], ◌∷◌, ◌++◌, length, Option, sym, refl, ap, ◌∙◌, subst, arith}
use Rattle.std.proofs.lemmas.Bool.{and_parts, eqb-false, leb-true, leb-false}
use Rattle.store.specs.Numbers.{item}
use Rattle.store.specs.Meaning.{arity}
use Rattle.store.specs.declared.hold.Links.{Links}
use Rattle.store.specs.Interface.{Handed}
use Rattle.bench.specs.Machine.{filled}
use Rattle.bench.specs.Standing.{Room}
use Rattle.bench.specs.Step.{link_roots}
use Rattle.bench.specs.Tests.{fits_kind}
use Rattle.bench.specs.Handing.{Back, put, Settable, put_links}
use Rattle.bench.proofs.Taking.{bit_fits}

record Hand (base : List (Option ℕ)) (a b : ℕ) (rs ns : List ℕ) : Type 0 where
  first : Back base a (item ns 0)
  second : Back (put base a (item ns 0)) b (item ns 1)
  whole : put (put base a (item ns 0)) b (item ns 1) ≡ filled base rs ns

hands : (fa fb : Bool) (a b : ℕ) (ns : List ℕ) (base : List (Option ℕ)) → length ns ≡ length (cond fa [] (a ∷ []) ++ cond fb [] (b ∷ [])) → Room base (cond fa [] (a ∷ []) ++ cond fb [] (b ∷ [])) ns →
    (fa ≡ false → a < 16) → (fb ≡ false → b < 16) → (fa ≡ true → fb ≡ false → ⊥) → Hand base a b (cond fa [] (a ∷ []) ++ cond fb [] (b ∷ [])) ns
hands true true a b [] base e r l m never = record { first = tt; second = tt; whole = refl }
hands true true a b (n ∷ ns) base e r l m never = absurd r
hands false true a b [] base e r l m never = absurd r
hands false true a b (x ∷ []) base e r l m never = record { first = (l refl, r.1); second = tt; whole = refl }
hands false true a b (x ∷ (y ∷ ns)) base e r l m never = absurd (omega (arith, e))
hands false false a b [] base e r l m never = absurd r
hands false false a b (x ∷ []) base e r l m never = absurd (omega (arith, e))
hands false false a b (x ∷ (y ∷ [])) base e r l m never = record { first = (l refl, r.1); second = (m refl, r.2.1); whole = refl }
hands false false a b (x ∷ (y ∷ (z ∷ ns))) base e r l m never = absurd (omega (arith, e))
hands true false a b ns base e r l m never = absurd (never refl refl)

handing : (base : List (Option ℕ)) (kind a b : ℕ) (ns : List ℕ) → fits_kind kind a b ≡ true → ((a ≡ 255 → ⊥) → a < 16) → ((b ≡ 255 → ⊥) → b < 16) → length ns ≡ length (link_roots a b) → Room base (link_roots a b) ns →
    Hand base a b (link_roots a b) ns
handing base kind a b ns ft l0 l1 e r =
    hands (eqb a 255) (eqb b 255) a b ns base e r (λ q. l0 (eqb-false a 255 q)) (λ q. l1 (eqb-false b 255 q))
    (λ p q. let parts = and_parts (cond (leb 1 (arity kind)) (not (eqb a 255)) (eqb a 255)) (cond (leb 2 (arity kind)) (not (eqb b 255)) (eqb b 255)) ft in
    let x : not (eqb a 255) ≡ leb 1 (arity kind) = bit_fits (eqb a 255) (leb 1 (arity kind)) parts.0 in
    let y : not (eqb b 255) ≡ leb 2 (arity kind) = bit_fits (eqb b 255) (leb 2 (arity kind)) parts.1 in
    omega (arith, leb-false 1 (arity kind) (sym x ∙ ap not p), leb-true 2 (arity kind) (sym y ∙ ap not q)))

-- the links of a cell of the kind, in hand
module _ (base : List (Option ℕ)) (kind a b : ℕ) (l : Links) (ns : List ℕ) (h : Handed l ns) (fits : fits_kind kind a b ≡ true) (l0 : (a ≡ 255 → ⊥) → a < 16) (l1 : (b ≡ 255 → ⊥) → b < 16) (e : length ns ≡ length (link_roots a b)) (r : Room base (link_roots a b) ns) where
  hand : Hand base a b (link_roots a b) ns
  hand = handing base kind a b ns fits l0 l1 e r

  pub hand_settable : Settable base a b l
  hand_settable = record {
    first = subst (Back base a) (sym h.first) hand.first;
    second = subst (λ (p : Option ℕ × Option ℕ). Back (put base a p.0) b p.1) (sym (λ i. (h.first i, h.second i))) hand.second;
  }

  pub hand_fills : put_links base a b l ≡ filled base (link_roots a b) ns
  hand_fills = (λ i. put (put base a (h.first i)) b (h.second i)) ∙ hand.whole
