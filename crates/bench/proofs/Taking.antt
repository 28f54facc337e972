-- The holds for two links are taken out of their roots, and set back.
use Rattle.std.proofs.Common.{◌≡◌, ℕ, ◌<◌, Bool, true, false, cond, not, eqb, leb, List, [], ◌∷◌, ◌++◌, length, set, is_some, Some, None, Option, sym, refl, ap, ◌∙◌, subst, set-set}
use Rattle.std.proofs.lemmas.List.{set_comm, get_or-set_other}
use lib.Seq.{set-get_or}
use Rattle.std.proofs.lemmas.Bool.{both_ways, eq-eqb, ne_eqb, and_parts}
use Rattle.store.specs.declared.hold.Links.{Links}
use Rattle.store.specs.Interface.{on}
use Rattle.store.specs.Rooted.{root_at}
use Rattle.bench.specs.Machine.{spend, spent, taken}
use Rattle.bench.specs.Step.{linked, link_roots}
use Rattle.store.specs.Meaning.{arity}
use Rattle.bench.specs.Handing.{Back, put, Spendable, LinksPassed, Taken}
use Rattle.bench.proofs.Slots.{spend_none, spent_keeps}
use Rattle.bench.proofs.Passes.{spent_append, spendable_taken, fits_arity}

-- a root that was emptied gets back what it named
pub restored : (slots : List (Option ℕ)) (r : ℕ) → put (spend slots r) r (root_at slots r) ≡ slots
restored slots r = go (root_at slots r) refl
  where
    go : (o : Option ℕ) → root_at slots r ≡ o → put (spend slots r) r o ≡ slots
    go None e = ap (set slots r) (sym e) ∙ set-get_or slots r None
    go (Some c) e = set-set slots r None (Some c) ∙ ap (set slots r) (sym e) ∙ set-get_or slots r None

-- what the field of a link gives
abbrev pub from_field : List (Option ℕ) → ℕ → Option ℕ
from_field slots a = cond (eqb a 255) None (root_at slots a)

field_restored : (slots : List (Option ℕ)) (a : ℕ) → put (spent slots (linked a)) a (from_field slots a) ≡ slots
field_restored slots a = elim (eqb a 255) as (λ f. put (spent slots (cond f [] (a ∷ []))) a (cond f None (root_at slots a)) ≡ slots) [ true ↦ refl | false ↦ restored slots a ]

module _ (slots one two : List (Option ℕ)) (a b : ℕ) (x y : Option ℕ) (e : one ≡ spent slots (linked a)) (f : two ≡ spent one (linked b)) (g : x ≡ from_field slots a) (h : y ≡ from_field one b) where
  both_spent : two ≡ spent slots (link_roots a b)
  both_spent = f ∙ ap (λ (l : List (Option ℕ)). spent l (linked b)) e ∙ sym (spent_append slots (linked a) (linked b))

  both_restored : put (put two b y) a x ≡ slots
  both_restored = (λ i. put (put (f i) b (h i)) a (g i)) ∙ ap (λ (l : List (Option ℕ)). put l a (from_field slots a)) (field_restored one b)
      ∙ ap (λ (l : List (Option ℕ)). put l a (from_field slots a)) e ∙ field_restored slots a

spendable_rest : (slots : List (Option ℕ)) (xs ys : List ℕ) → Spendable slots (xs ++ ys) → Spendable (spent slots xs) ys
spendable_rest slots [] ys s = s
spendable_rest slots (x ∷ xs) ys s = spendable_rest (spend slots x) xs ys s.1

-- a test on a link passed: it is there exactly where the kind has it
pub bit_fits : (u l : Bool) → cond l (not u) u ≡ true → not u ≡ l
bit_fits true true e = e
bit_fits true false e = refl
bit_fits false true e = refl
bit_fits false false e = sym e

field_some : (slots : List (Option ℕ)) (a : ℕ) → Spendable slots (linked a) → is_some (from_field slots a) ≡ not (eqb a 255)
field_some slots a = elim (eqb a 255) as (λ u. Spendable slots (cond u [] (a ∷ [])) → is_some (cond u None (root_at slots a)) ≡ not u) [ true ↦ λ s. refl | false ↦ λ s. s.0 ]

spendable_first : (slots : List (Option ℕ)) (xs ys : List ℕ) → Spendable slots (xs ++ ys) → Spendable slots xs
spendable_first slots [] ys s = tt
spendable_first slots (x ∷ xs) ys s = (s.0, spendable_first (spend slots x) xs ys s.1)

-- two roots are filled in either order
filled_apart : (slots : List (Option ℕ)) (a b : ℕ) (x y : Option ℕ) → (is_some x ≡ true → a ≡ b → ⊥) → put (put slots a x) b y ≡ put (put slots b y) a x
filled_apart slots a b None y n = refl
filled_apart slots a b (Some i) None n = refl
filled_apart slots a b (Some i) (Some j) n = set_comm slots a b (Some i) (Some j) (n refl)

back_after : (slots : List (Option ℕ)) (a b : ℕ) (x y : Option ℕ) → (is_some x ≡ true → a ≡ b → ⊥) → Back slots b y → Back (put slots a x) b y
back_after slots a b x None n k = tt
back_after slots a b None (Some j) n k = k
back_after slots a b (Some i) (Some j) n k = (k.0, get_or-set_other slots a b (Some i) None (λ q. n refl (sym q)) ∙ k.1)

module _ (base one two : List (Option ℕ)) (kind a b : ℕ) (p : LinksPassed base kind a b) (l : Links) (e : one ≡ spent base (linked a)) (f : two ≡ spent one (linked b)) (g : on l.first ≡ from_field base a) (h : on l.second ≡ from_field one b) where
  abbrev pub x : Option ℕ
  x = on l.first

  abbrev pub y : Option ℕ
  y = on l.second

  sp0 : Spendable base (linked a)
  sp0 = spendable_first base (linked a) (linked b) p.spends

  sp1 : Spendable one (linked b)
  sp1 = subst (λ (l : List (Option ℕ)). Spendable l (linked b)) (sym e) (spendable_rest base (linked a) (linked b) p.spends)

  some_0 : is_some x ≡ not (eqb a 255)
  some_0 = ap is_some g ∙ field_some base a sp0

  some_1 : is_some y ≡ not (eqb b 255)
  some_1 = ap is_some h ∙ field_some one b sp1

  parts : (cond (leb 1 (arity kind)) (not (eqb a 255)) (eqb a 255) ≡ true) × (cond (leb 2 (arity kind)) (not (eqb b 255)) (eqb b 255) ≡ true)
  parts = and_parts _ _ p.fits

  -- a link that is there is no 255
  real : (c : ℕ) (o : Option ℕ) → is_some o ≡ not (eqb c 255) → is_some o ≡ true → c ≡ 255 → ⊥
  real c o q u z = both_ways (not (eqb c 255)) (ap not (eq-eqb c 255 z)) (sym q ∙ u)

  emptied_0 : is_some x ≡ true → root_at two a ≡ None
  emptied_0 u =
      let ne : eqb a 255 ≡ false = ne_eqb a 255 (real a x some_0 u) in
      let one_is : one ≡ spend base a = e ∙ ap (λ v. spent base (cond v [] (a ∷ []))) ne in
      ap (λ (l : List (Option ℕ)). root_at l a) f ∙ spent_keeps one (linked b) a (ap (λ (l : List (Option ℕ)). root_at l a) one_is ∙ spend_none base a)

  emptied_1 : is_some y ≡ true → root_at two b ≡ None
  emptied_1 u =
      let ne : eqb b 255 ≡ false = ne_eqb b 255 (real b y some_1 u) in
      ap (λ (l : List (Option ℕ)). root_at l b) (f ∙ ap (λ v. spent one (cond v [] (b ∷ []))) ne) ∙ spend_none one b

  back : (slots : List (Option ℕ)) (c : ℕ) (o : Option ℕ) → (is_some o ≡ true → c < 16) → (is_some o ≡ true → root_at slots c ≡ None) → Back slots c o
  back slots c None p q = tt
  back slots c (Some i) p q = (p refl, q refl)

  parted_roots : is_some x ≡ true → a ≡ b → ⊥
  parted_roots u z =
      let ne : eqb a 255 ≡ false = ne_eqb a 255 (real a x some_0 u) in
      let one_is : one ≡ spend base a = e ∙ ap (λ v. spent base (cond v [] (a ∷ []))) ne in
      let nb : eqb b 255 ≡ false = ap (λ c. eqb c 255) (sym z) ∙ ne in
      let used : is_some (root_at one b) ≡ true = (subst (λ v. Spendable one (cond v [] (b ∷ []))) nb sp1).0 in
      let empty : root_at one b ≡ None = ap (λ c. root_at one c) (sym z) ∙ ap (λ (l : List (Option ℕ)). root_at l a) one_is ∙ spend_none base a in
      both_ways (is_some (root_at one b)) (ap is_some empty) used

  pub links_taken : Taken base two a b l
  links_taken = record {
    left = both_spent base one two a b x y e f g h;
    settable = record {
      first = back two a x (λ u. p.link_0 (real a x some_0 u)) emptied_0;
      second = back_after two a b x y parted_roots (back two b y (λ u. p.link_1 (real b y some_1 u)) emptied_1);
    };
    whole = filled_apart two a b x y parted_roots ∙ both_restored base one two a b x y e f g h;
  }

-- a kind has as many links as the roots give
pub linked_length : {slots : List (Option ℕ)} {kind a b : ℕ} → LinksPassed slots kind a b → length (taken slots (link_roots a b)) ≡ arity kind
linked_length {slots} {kind} {a} {b} p = spendable_taken slots (link_roots a b) p.spends ∙ fits_arity kind a b p.fits
