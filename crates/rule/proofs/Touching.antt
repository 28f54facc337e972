-- What a record that passed its tests asks of the machine: its call passes the machine's tests too, and only own roots change.
use Rattle.std.proofs.Common.{◌≡◌, ℕ, zero, suc, ◌<◌, Bool, true, false, cond, eqb, ltb, List, [], ◌∷◌, ◌++◌, length, set, is_some, Some, None, Option, option_map, sym, refl, ap, ◌∙◌, subst, ⊎_elim, arith}
use Rattle.std.proofs.lemmas.List.{length-set, get_or-set_other}
use Rattle.std.proofs.lemmas.Bool.{both_ways, lt-ltb, eq-eqb, eqb-false, cond-true, cond-false}
use Rattle.store.specs.Rooted.{root_at}
use Rattle.bench.specs.declared.call.Call.{Call}
use Rattle.bench.specs.declared.call.Field.{Field}
use Rattle.bench.specs.declared.call.Touch.{Touch}
use Rattle.bench.specs.declared.call.Touch.TheVariants.{Use, Spend, Fill}
use Rattle.bench.specs.Faults.{touch_told}
use Rattle.bench.specs.Machine.{spend, spent, filled}
use Rattle.bench.specs.Step.{linked, link_roots}
use Rattle.bench.specs.Tests.{fields, names_root, field_fault, fits_kind, link_fault, unless_none, touches, flags, in_use, touch_denied, first_of, first_denied, touch_fault, fault_of, after_touches}
use Rattle.bench.specs.declared.call.Field.TheVariants as field
use Rattle.bench.specs.declared.fault.BenchFault.TheVariants.{LinksUnfit}
use Rattle.bench.proofs.Passes.{flags_set, spent_append}
use Rattle.rule.specs.declared.mark.Mark.TheVariants.{Link}
use Rattle.rule.specs.Allowed.{FitsMark, Moves}

-- no fault before, and none here
pub no_first : {E : Type 0} (f g : Option E) → f ≡ None → g ≡ None → first_of f g ≡ None
no_first None g e h = h
no_first (Some x) g e h = e

pub no_fault : (call : Call) (used : List Bool) → field_fault (fields call) ≡ None → link_fault call ≡ None → touch_fault (touches call) used ≡ None → fault_of call used ≡ None
no_fault call used e f g = no_first (field_fault (fields call)) _ e (no_first (link_fault call) (touch_fault (touches call) used) f g)

pub root_there : (r : ℕ) (fs : List Field) → r < 16 → field_fault fs ≡ None → field_fault (field.Root r ∷ fs) ≡ None
root_there r fs l e = cond-true (ltb r 16) _ _ (lt-ltb r 16 l) ∙ e

pub kind_fits : (k a b : ℕ) → fits_kind k a b ≡ true → cond (fits_kind k a b) None (Some LinksUnfit) ≡ None
kind_fits k a b e = cond-true (fits_kind k a b) _ _ e

set_same : (u v : List Bool) (r q : ℕ) (b : Bool) → length u ≡ length v → in_use u q ≡ in_use v q → in_use (set u r b) q ≡ in_use (set v r b) q
set_same [] [] r q b l e = refl
set_same [] (y ∷ v) r q b l e = absurd (omega (arith, l))
set_same (x ∷ u) [] r q b l e = absurd (omega (arith, l))
set_same (x ∷ u) (y ∷ v) zero zero b l e = refl
set_same (x ∷ u) (y ∷ v) zero (suc q) b l e = e
set_same (x ∷ u) (y ∷ v) (suc r) zero b l e = e
set_same (x ∷ u) (y ∷ v) (suc r) (suc q) b l e = set_same u v r q b (omega (arith, l)) e

module _ (own : List Bool) where
  link_there : (r : ℕ) (fs : List Field) → FitsMark own (Link r) → field_fault fs ≡ None → field_fault (field.Link r ∷ fs) ≡ None
  link_there r fs h e = cond-true (names_root (field.Link r)) _ _ (⊎_elim (λ (p : (r < 16) × (in_use own r ≡ true)). cond-true (ltb r 16) _ _ (lt-ltb r 16 p.0)) (λ (z : r ≡ 255). named z (ltb r 16)) h) ∙ e
    where
      named : r ≡ 255 → (x : Bool) → cond x true (eqb r 255) ≡ true
      named z true = refl
      named z false = eq-eqb r 255 z

  -- a root and two links
  pub links_there : (r a b : ℕ) → r < 16 → FitsMark own (Link a) → FitsMark own (Link b) → field_fault (field.Root r ∷ (field.Link a ∷ (field.Link b ∷ []))) ≡ None
  links_there r a b l h k = root_there r (field.Link a ∷ (field.Link b ∷ [])) l (link_there a (field.Link b ∷ []) h (link_there b [] k refl))

  -- the root of a link that is there is owned
  pub link_owned : (a : ℕ) → FitsMark own (Link a) → eqb a 255 ≡ false → in_use own a ≡ true
  link_owned a h e = ⊎_elim (λ (p : (a < 16) × (in_use own a ≡ true)). p.1) (λ (z : a ≡ 255). absurd (eqb-false a 255 e z)) h

  -- each root touched is owned
  abbrev pub Owned : List (Option Touch) → Type 0
  Owned [] = Unit {0}
  Owned (None ∷ ts) = Owned ts
  Owned (Some (Use r) ∷ ts) = (in_use own r ≡ true) × Owned ts
  Owned (Some (Spend r) ∷ ts) = (in_use own r ≡ true) × Owned ts
  Owned (Some (Fill r) ∷ ts) = (in_use own r ≡ true) × Owned ts

  pub spend_owned : (a : ℕ) (ts : List (Option Touch)) → FitsMark own (Link a) → Owned ts → Owned (unless_none a (Spend a) ∷ ts)
  spend_owned a ts h o = by (eqb a 255) (link_owned a h)
    where
      by : (x : Bool) → (x ≡ false → in_use own a ≡ true) → Owned (cond x None (Some (Spend a)) ∷ ts)
      by true k = o
      by false k = (k refl, o)

  pub fill_owned : (a : ℕ) (ts : List (Option Touch)) → FitsMark own (Link a) → Owned ts → Owned (unless_none a (Fill a) ∷ ts)
  fill_owned a ts h o = by (eqb a 255) (link_owned a h)
    where
      by : (x : Bool) → (x ≡ false → in_use own a ≡ true) → Owned (cond x None (Some (Fill a)) ∷ ts)
      by true k = o
      by false k = (k refl, o)

  -- of the owned roots the same are in use
  pub record Agreeing (u v : List Bool) : Type 0 where
    pub long : length u ≡ length v
    pub same : (r : ℕ) → in_use own r ≡ true → in_use u r ≡ in_use v r

  agree_set : (u v : List Bool) (r : ℕ) (b : Bool) → Agreeing u v → Agreeing (set u r b) (set v r b)
  agree_set u v r b g = record { long = length-set u r b ∙ g.long ∙ sym (length-set v r b); same = λ q o. set_same u v r q b g.long (g.same q o) }

  pub agree_after : (ts : List (Option Touch)) (u v : List Bool) → Agreeing u v → Agreeing (after_touches ts u) (after_touches ts v)
  agree_after [] u v g = g
  agree_after (None ∷ ts) u v g = agree_after ts u v g
  agree_after (Some (Use r) ∷ ts) u v g = agree_after ts u v g
  agree_after (Some (Spend r) ∷ ts) u v g = agree_after ts (set u r false) (set v r false) (agree_set u v r false g)
  agree_after (Some (Fill r) ∷ ts) u v g = agree_after ts (set u r true) (set v r true) (agree_set u v r true g)

  -- what goes well with the roots v goes well with the roots u
  none_denied : (ts : List (Option Touch)) (u v w : List Bool) → Owned ts → Agreeing u v → Moves ts v w → first_denied ts u ≡ None
  none_denied [] u v w o g m = refl
  none_denied (None ∷ ts) u v w o g m = none_denied ts u v w o g m
  none_denied (Some (Use r) ∷ ts) u v w o g m =
      no_first (touch_denied (Use r) u) _ (cond-true (in_use u r) _ _ (g.same r o.0 ∙ m.0)) (none_denied ts u v w o.1 g m.1)
  none_denied (Some (Spend r) ∷ ts) u v w o g m =
      no_first (touch_denied (Spend r) u) _ (cond-true (in_use u r) _ _ (g.same r o.0 ∙ m.0)) (none_denied ts (set u r false) (set v r false) w o.1 (agree_set u v r false g) m.1)
  none_denied (Some (Fill r) ∷ ts) u v w o g m =
      no_first (touch_denied (Fill r) u) _ (cond-false (in_use u r) _ _ (g.same r o.0 ∙ m.0)) (none_denied ts (set u r true) (set v r true) w o.1 (agree_set u v r true g) m.1)

  pub no_touch_fault : (ts : List (Option Touch)) (u v w : List Bool) → Owned ts → Agreeing u v → Moves ts v w → touch_fault ts u ≡ None
  no_touch_fault ts u v w o g m = ap (option_map touch_told) (none_denied ts u v w o g m)

  -- what is not owned is as before
  abbrev pub Others : List (Option ℕ) → List (Option ℕ) → Type 0
  Others old new = (r : ℕ) → in_use own r ≡ false → root_at new r ≡ root_at old r

  pub others_set : (slots : List (Option ℕ)) (r : ℕ) (o : Option ℕ) → in_use own r ≡ true → Others slots (set slots r o)
  others_set slots r o h q k = get_or-set_other slots r q o None (λ e. both_ways (in_use own r) (ap (in_use own) (sym e) ∙ k) h)

  -- the roots after the touches
  pub record After (ts : List (Option Touch)) (old new : List (Option ℕ)) : Type 0 where
    pub used : flags new ≡ after_touches ts (flags old)
    pub long : length new ≡ length old
    pub others : Others old new

  pub at_rest : (slots : List (Option ℕ)) → After [] slots slots
  at_rest slots = record { used = refl; long = refl; others = λ r h. refl }

  module _ (ts : List (Option Touch)) (slots new : List (Option ℕ)) where
    pub use_first : (r : ℕ) → After ts slots new → After (Some (Use r) ∷ ts) slots new
    use_first r g = record { used = g.used; long = g.long; others = g.others }

    pub none_first : After ts slots new → After (None ∷ ts) slots new
    none_first g = record { used = g.used; long = g.long; others = g.others }

    pub spend_first : (r : ℕ) → in_use own r ≡ true → After ts (spend slots r) new → After (Some (Spend r) ∷ ts) slots new
    spend_first r h g = record {
      used = g.used ∙ ap (after_touches ts) (flags_set slots r None);
      long = g.long ∙ length-set slots r None;
      others = λ q k. g.others q k ∙ others_set slots r None h q k;
    }

    pub fill_first : (r : ℕ) (o : Option ℕ) → is_some o ≡ true → in_use own r ≡ true → After ts (set slots r o) new → After (Some (Fill r) ∷ ts) slots new
    fill_first r o e h g = record {
      used = g.used ∙ ap (after_touches ts) (flags_set slots r o ∙ ap (set (flags slots) r) e);
      long = g.long ∙ length-set slots r o;
      others = λ q k. g.others q k ∙ others_set slots r o h q k;
    }

    spend_link : (a : ℕ) → FitsMark own (Link a) → After ts (spent slots (linked a)) new → After (unless_none a (Spend a) ∷ ts) slots new
    spend_link a h = by (eqb a 255) (link_owned a h)
      where
        by : (x : Bool) → (x ≡ false → in_use own a ≡ true) → After ts (spent slots (cond x [] (a ∷ []))) new → After (cond x None (Some (Spend a)) ∷ ts) slots new
        by true k g = none_first g
        by false k g = spend_first a (k refl) g

  -- both links are spent
  pub spend_both : (ts : List (Option Touch)) (slots new : List (Option ℕ)) (a b : ℕ) → FitsMark own (Link a) → FitsMark own (Link b) → After ts (spent slots (link_roots a b)) new →
      After (unless_none a (Spend a) ∷ (unless_none b (Spend b) ∷ ts)) slots new
  spend_both ts slots new a b h k g =
      spend_link (unless_none b (Spend b) ∷ ts) slots new a h
      (spend_link ts (spent slots (linked a)) new b k (subst (λ l. After ts l new) (spent_append slots (linked a) (linked b)) g))

  -- or filled
  pub fill_both : (slots : List (Option ℕ)) (a b : ℕ) (ns : List ℕ) → FitsMark own (Link a) → FitsMark own (Link b) → length ns ≡ length (link_roots a b) →
      After (unless_none a (Fill a) ∷ (unless_none b (Fill b) ∷ [])) slots (filled slots (link_roots a b) ns)
  fill_both slots a b ns h k = by (eqb a 255) (eqb b 255) ns (link_owned a h) (link_owned b k)
    where
      by : (x y : Bool) (ns : List ℕ) → (x ≡ false → in_use own a ≡ true) → (y ≡ false → in_use own b ≡ true) → length ns ≡ length (cond x [] (a ∷ []) ++ cond y [] (b ∷ [])) →
          After (cond x None (Some (Fill a)) ∷ (cond y None (Some (Fill b)) ∷ [])) slots (filled slots (cond x [] (a ∷ []) ++ cond y [] (b ∷ [])) ns)
      by true true ns f g e = record { used = refl; long = refl; others = λ r z. refl }
      by true false [] f g e = absurd (omega (arith, e))
      by true false (n ∷ ns) f g e = let new = set slots b (Some n) in none_first (Some (Fill b) ∷ []) slots new (fill_first [] slots new b (Some n) refl (g refl) (at_rest new))
      by false true [] f g e = absurd (omega (arith, e))
      by false true (n ∷ ns) f g e = let new = set slots a (Some n) in fill_first (None ∷ []) slots new a (Some n) refl (f refl) (none_first [] new new (at_rest new))
      by false false [] f g e = absurd (omega (arith, e))
      by false false (n ∷ []) f g e = absurd (omega (arith, e))
      by false false (n ∷ (m ∷ ns)) f g e =
          let one = set slots a (Some n) in
          let two = set one b (Some m) in
          fill_first (Some (Fill b) ∷ []) slots two a (Some n) refl (f refl) (fill_first [] one two b (Some m) refl (g refl) (at_rest two))
