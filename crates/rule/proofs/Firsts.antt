-- The tests of one record: none fails exactly when its fields fit and its way with the roots goes well.
use Rattle.std.proofs.Common.{◌≡◌, ℕ, Bool, true, false, ◌||◌, eqb, ltb, List, [], ◌∷◌, ◌++◌, map, length, set, Some, None, Option, option_map, sym, refl, ap, ◌∙◌, subst, inl, inr, ⊎_elim}
use Rattle.std.proofs.lemmas.Bool.{or_cases, or_left, or_right, ltb-true, lt-ltb, eqb-true, eq-eqb, cond-true, cond-false}
use Rattle.std.proofs.lemmas.List.{length-set}
use Rattle.bench.specs.declared.call.Touch.{Touch}
use Rattle.bench.specs.declared.call.Touch.TheVariants.{Use, Spend, Fill}
use Rattle.bench.specs.Tests.{in_use, after_touches, first}
use Rattle.bench.specs.declared.fault.TouchFault.TheVariants.{Empty, InUse}
use Rattle.bench.proofs.Passes.{none_mapped, true_from_none, false_from_none}
use Rattle.rule.specs.declared.mark.Mark.{Mark}
use Rattle.rule.specs.declared.mark.Mark.TheVariants.{Root, Link, Slot}
use Rattle.rule.specs.declared.fault.Flaw.{Flaw}
use Rattle.rule.specs.declared.fault.Flaw.TheVariants.{LinksUnfit}
use Rattle.rule.specs.Check.{unless, mark_flaw, own_flaw, touch_flawed, touch_flaw, touch_flaws, record_flaws, at_place}
use Rattle.rule.specs.Allowed.{FitsMark, FitAll, Moves}

abbrev IsNone : {A : Type 0} → Option A → Type 0
IsNone None = Unit {0}
IsNone (Some x) = ⊥

pub some_none : {A : Type 0} (x : A) → Some x ≡ None → ⊥
some_none x e = subst IsNone (sym e) tt

module _ {A : Type 0} where
  pub first_cons : (x : Option A) (xs : List (Option A)) → first (x ∷ xs) ≡ None → (x ≡ None) × (first xs ≡ None)
  first_cons None xs e = (refl, e)
  first_cons (Some x) xs e = absurd (some_none x e)

  pub cons_first : (x : Option A) (xs : List (Option A)) → x ≡ None → first xs ≡ None → first (x ∷ xs) ≡ None
  cons_first None xs e f = f
  cons_first (Some x) xs e f = e

  pub first_append : (xs ys : List (Option A)) → first (xs ++ ys) ≡ None → (first xs ≡ None) × (first ys ≡ None)
  first_append [] ys e = (refl, e)
  first_append (None ∷ xs) ys e = first_append xs ys e
  first_append (Some x ∷ xs) ys e = absurd (some_none x e)

  pub append_first : (xs ys : List (Option A)) → first xs ≡ None → first ys ≡ None → first (xs ++ ys) ≡ None
  append_first [] ys e f = f
  append_first (None ∷ xs) ys e f = append_first xs ys e f
  append_first (Some x ∷ xs) ys e f = e

-- a flaw's place does not matter
pub first_placed : (p : ℕ) (xs : List (Option Flaw)) → first (map (at_place p) xs) ≡ None → first xs ≡ None
first_placed p [] e = refl
first_placed p (None ∷ xs) e = first_placed p xs e
first_placed p (Some x ∷ xs) e = absurd (some_none _ e)

pub placed_first : (p : ℕ) (xs : List (Option Flaw)) → first xs ≡ None → first (map (at_place p) xs) ≡ None
placed_first p [] e = refl
placed_first p (None ∷ xs) e = placed_first p xs e
placed_first p (Some x ∷ xs) e = absurd (some_none x e)

pub unless_true : (b : Bool) (e : Flaw) → unless b e ≡ None → b ≡ true
unless_true true e h = refl
unless_true false e h = absurd (some_none e h)

pub true_unless : (b : Bool) (e : Flaw) → b ≡ true → unless b e ≡ None
true_unless b e h = ap (λ t. unless t e) h

-- fields
link_fits : (own : List Bool) (r : ℕ) → (ltb r 16 || eqb r 255) ≡ true → (in_use own r || eqb r 255) ≡ true → FitsMark own (Link r)
link_fits own r e f = ⊎_elim
    (λ l. ⊎_elim (λ o. inl (ltb-true r 16 l, o)) (λ z. inr (eqb-true r 255 z)) (or_cases (in_use own r) (eqb r 255) f))
    (λ z. inr (eqb-true r 255 z))
    (or_cases (ltb r 16) (eqb r 255) e)

mark_fits : (own : List Bool) (m : Mark) → mark_flaw m ≡ None → own_flaw own m ≡ None → FitsMark own m
mark_fits own (Root r) e f = (ltb-true r 16 (unless_true _ _ e), unless_true _ _ f)
mark_fits own (Link r) e f = link_fits own r (unless_true _ _ e) (unless_true _ _ f)
mark_fits own (Slot s) e f = ltb-true s 8 (unless_true _ _ e)

fits_mark : (own : List Bool) (m : Mark) → FitsMark own m → (mark_flaw m ≡ None) × (own_flaw own m ≡ None)
fits_mark own (Root r) h = (true_unless _ _ (lt-ltb r 16 h.0), true_unless _ _ h.1)
fits_mark own (Link r) (inl h) = (true_unless _ _ (or_left (ltb r 16) (eqb r 255) (lt-ltb r 16 h.0)), true_unless _ _ (or_left (in_use own r) (eqb r 255) h.1))
fits_mark own (Link r) (inr h) = (true_unless _ _ (or_right (ltb r 16) (eqb r 255) (eq-eqb r 255 h)), true_unless _ _ (or_right (in_use own r) (eqb r 255) (eq-eqb r 255 h)))
fits_mark own (Slot s) h = (true_unless _ _ (lt-ltb s 8 h), refl)

marks_fit : (own : List Bool) (ms : List Mark) → first (map mark_flaw ms) ≡ None → first (map (own_flaw own) ms) ≡ None → FitAll own ms
marks_fit own [] e f = tt
marks_fit own (m ∷ ms) e f =
    let p = first_cons (mark_flaw m) (map mark_flaw ms) e in
    let q = first_cons (own_flaw own m) (map (own_flaw own) ms) f in
    (mark_fits own m p.0 q.0, marks_fit own ms p.1 q.1)

fit_marks : (own : List Bool) (ms : List Mark) → FitAll own ms → (first (map mark_flaw ms) ≡ None) × (first (map (own_flaw own) ms) ≡ None)
fit_marks own [] h = (refl, refl)
fit_marks own (m ∷ ms) h =
    let p = fits_mark own m h.0 in
    let q = fit_marks own ms h.1 in
    (cons_first (mark_flaw m) _ p.0 q.0, cons_first (own_flaw own m) _ p.1 q.1)

-- roots
moves : (ts : List (Option Touch)) (u : List Bool) → first (touch_flaws ts u) ≡ None → Moves ts u (after_touches ts u)
moves [] u e = refl
moves (None ∷ ts) u e = moves ts u e
moves (Some (Use r) ∷ ts) u e =
    let p = first_cons (touch_flaw (Use r) u) (touch_flaws ts u) e in
    ((true_from_none _ None (Empty r) (none_mapped touch_flawed _ p.0)).0, moves ts u p.1)
moves (Some (Spend r) ∷ ts) u e =
    let p = first_cons (touch_flaw (Spend r) u) (touch_flaws ts (set u r false)) e in
    ((true_from_none _ None (Empty r) (none_mapped touch_flawed _ p.0)).0, moves ts (set u r false) p.1)
moves (Some (Fill r) ∷ ts) u e =
    let p = first_cons (touch_flaw (Fill r) u) (touch_flaws ts (set u r true)) e in
    (false_from_none _ (InUse r) (none_mapped touch_flawed _ p.0), moves ts (set u r true) p.1)

no_flaws : (ts : List (Option Touch)) (u v : List Bool) → Moves ts u v → first (touch_flaws ts u) ≡ None
no_flaws [] u v m = refl
no_flaws (None ∷ ts) u v m = no_flaws ts u v m
no_flaws (Some (Use r) ∷ ts) u v m = cons_first (touch_flaw (Use r) u) _ (ap (option_map touch_flawed) (cond-true _ _ _ m.0)) (no_flaws ts u v m.1)
no_flaws (Some (Spend r) ∷ ts) u v m = cons_first (touch_flaw (Spend r) u) _ (ap (option_map touch_flawed) (cond-true _ _ _ m.0)) (no_flaws ts (set u r false) v m.1)
no_flaws (Some (Fill r) ∷ ts) u v m = cons_first (touch_flaw (Fill r) u) _ (ap (option_map touch_flawed) (cond-false _ _ _ m.0)) (no_flaws ts (set u r true) v m.1)

pub moved : (ts : List (Option Touch)) (u v : List Bool) → Moves ts u v → v ≡ after_touches ts u
moved [] u v m = m
moved (None ∷ ts) u v m = moved ts u v m
moved (Some (Use r) ∷ ts) u v m = moved ts u v m.1
moved (Some (Spend r) ∷ ts) u v m = moved ts (set u r false) v m.1
moved (Some (Fill r) ∷ ts) u v m = moved ts (set u r true) v m.1

pub length_after : (ts : List (Option Touch)) (u : List Bool) → length (after_touches ts u) ≡ length u
length_after [] u = refl
length_after (None ∷ ts) u = length_after ts u
length_after (Some (Use r) ∷ ts) u = length_after ts u
length_after (Some (Spend r) ∷ ts) u = length_after ts (set u r false) ∙ length-set u r false
length_after (Some (Fill r) ∷ ts) u = length_after ts (set u r true) ∙ length-set u r true

-- the record goes well where the roots u are in use
pub record Goes (own : List Bool) (marks : List Mark) (links : Bool) (ts : List (Option Touch)) (u : List Bool) : Type 0 where
  pub fit : FitAll own marks
  pub linked : links ≡ true
  pub move : Moves ts u (after_touches ts u)

module _ (own : List Bool) (marks : List Mark) (links : Bool) (ts : List (Option Touch)) (u : List Bool) where
  pub record_goes : first (record_flaws own marks links ts u) ≡ None → Goes own marks links ts u
  record_goes e =
      let p = first_append (map mark_flaw marks) (unless links LinksUnfit ∷ (map (own_flaw own) marks ++ touch_flaws ts u)) e in
      let q = first_cons (unless links LinksUnfit) (map (own_flaw own) marks ++ touch_flaws ts u) p.1 in
      let r = first_append (map (own_flaw own) marks) (touch_flaws ts u) q.1 in
      record { fit = marks_fit own marks p.0 r.0; linked = unless_true _ _ q.0; move = moves ts u r.1 }

  pub goes_record : (v : List Bool) → FitAll own marks → links ≡ true → Moves ts u v → first (record_flaws own marks links ts u) ≡ None
  goes_record v fit l m =
      let p = fit_marks own marks fit in
      append_first (map mark_flaw marks) _ p.0
      (cons_first (unless links LinksUnfit) _ (true_unless links LinksUnfit l)
      (append_first (map (own_flaw own) marks) (touch_flaws ts u) p.1 (no_flaws ts u v m)))
