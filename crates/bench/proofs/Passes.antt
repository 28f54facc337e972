-- What a call that passes its tests knows of the slots.
use Rattle.std.proofs.Common.{◌≡◌, ℕ, zero, suc, ◌+◌, ◌<◌, ◌≤◌, Bool, true, false, cond, not, ◌&&◌, eqb, ltb, leb, List, [], ◌∷◌, ◌++◌, map, length, get_or, drop, replicate, set, ℤ, is_some, Some, None, Ok, Err, Option, option_map, option_and_then, sym, refl, ap, ◌∙◌, arith, length-append, length-set}
use lib.ListN.{get_or-map}
use Rattle.std.proofs.lemmas.List.{map-set, at_drop_more}
use Rattle.std.proofs.lemmas.Bool.{ltb-true, eqb-true, eqb-false}
use Rattle.store.specs.Numbers.{opt}
use Rattle.store.specs.Meaning.{arity}
use Rattle.store.specs.Rooted.{root_at}
use Rattle.bench.specs.declared.call.Call.{Call}
use Rattle.bench.specs.declared.call.Call.TheVariants.{Make, Copy, Release, Match, Rebuild, Look, Same}
use Rattle.bench.specs.declared.call.Field.{Field}
use Rattle.bench.specs.declared.call.Field.TheVariants.{Root, Link}
use Rattle.bench.specs.declared.call.Touch.{Touch}
use Rattle.bench.specs.declared.call.Touch.TheVariants.{Use, Spend, Fill}
use Rattle.bench.specs.declared.fault.NoSuchRoot.{NoSuchRoot}
use Rattle.bench.specs.declared.fault.TouchFault.TheVariants.{Empty, InUse}
use Rattle.bench.specs.declared.fault.BenchFault.{BenchFault}
use Rattle.bench.specs.declared.fault.BenchFault.TheVariants as fault
use Rattle.bench.specs.declared.fault.BenchFault.TheVariants.{LinksUnfit}
use Rattle.bench.specs.Machine.{spend, spent, taken}
use Rattle.bench.specs.Picture.{root_by}
use Rattle.bench.specs.Standing.{Room}
use Rattle.bench.specs.Handing.{Spendable, LinksPassed}
use Rattle.bench.specs.Step.{linked, link_roots}
use Rattle.bench.specs.Tests.{fields, names_root, byte_of, unnamed, field_fault, first, quad, fits_kind, link_fault, unless_none, touches, flags, in_use, touch_denied, touched, first_of, first_denied, touch_fault, fault_of, verdict}
use Rattle.bench.specs.Faults.{field_told, touch_told}

-- Flags of slots.
pub flags_by : (own : ℕ → ℕ) (slots : List (Option ℕ)) → flags (map (root_by own) slots) ≡ flags slots
flags_by own [] = refl
flags_by own (None ∷ ss) = ap (λ (l : List Bool). false ∷ l) (flags_by own ss)
flags_by own (Some c ∷ ss) = ap (λ (l : List Bool). true ∷ l) (flags_by own ss)

pub flags_set : (slots : List (Option ℕ)) (r : ℕ) (o : Option ℕ) → flags (set slots r o) ≡ set (flags slots) r (is_some o)
flags_set slots r o = map-set is_some slots r o

pub flags_at : (slots : List (Option ℕ)) (r : ℕ) → in_use (flags slots) r ≡ is_some (root_at slots r)
flags_at slots r = get_or-map is_some slots r None

pub empty_from_flag : (o : Option ℕ) → is_some o ≡ false → o ≡ None
empty_from_flag None e = refl
empty_from_flag (Some c) e = cc

-- Roots that are spent.
pub spendable_append : (slots : List (Option ℕ)) (xs ys : List ℕ) → Spendable slots xs → Spendable (spent slots xs) ys → Spendable slots (xs ++ ys)
spendable_append slots [] ys s t = t
spendable_append slots (x ∷ xs) ys s t = (s.0, spendable_append (spend slots x) xs ys s.1 t)

pub spent_append : (slots : List (Option ℕ)) (xs ys : List ℕ) → spent slots (xs ++ ys) ≡ spent (spent slots xs) ys
spent_append slots [] ys = refl
spent_append slots (x ∷ xs) ys = spent_append (spend slots x) xs ys

pub spendable_taken : (slots : List (Option ℕ)) (rs : List ℕ) → Spendable slots rs → length (taken slots rs) ≡ length rs
spendable_taken slots [] s = refl
spendable_taken slots (r ∷ rs) s =
    omega (arith, length-append (opt (root_at slots r)) (taken (spend slots r) rs), one (root_at slots r) s.0, spendable_taken (spend slots r) rs s.1)
  where
    one : (o : Option ℕ) → is_some o ≡ true → length (opt o) ≡ 1
    one None e = cc
    one (Some c) e = refl

-- each root is empty when its turn to be filled comes
abbrev pub Fillable : List Bool → List ℕ → Type 0
Fillable used [] = Unit {0}
Fillable used (r ∷ rs) = (in_use used r ≡ false) × Fillable (set used r true) rs

abbrev pub fill_all : List Bool → List ℕ → List Bool
fill_all used [] = used
fill_all used (r ∷ rs) = fill_all (set used r true) rs

pub fillable_append : (used : List Bool) (xs ys : List ℕ) → Fillable used xs → Fillable (fill_all used xs) ys → Fillable used (xs ++ ys)
fillable_append used [] ys s t = t
fillable_append used (x ∷ xs) ys s t = (s.0, fillable_append (set used x true) xs ys s.1 t)

-- each names a root
abbrev pub AllRoots : List ℕ → Type 0
AllRoots [] = Unit {0}
AllRoots (r ∷ rs) = (r < 16) × AllRoots rs

pub all_roots_append : (xs ys : List ℕ) → AllRoots xs → AllRoots ys → AllRoots (xs ++ ys)
all_roots_append [] ys h k = k
all_roots_append (x ∷ xs) ys h k = (h.0, all_roots_append xs ys h.1 k)

pub room : (slots : List (Option ℕ)) (rs ns : List ℕ) → length slots ≡ 16 → AllRoots rs → Fillable (flags slots) rs → length ns ≡ length rs → Room slots rs ns
room slots [] [] l h f e = tt
room slots [] (n ∷ ns) l h f e = absurd (omega arith)
room slots (r ∷ rs) [] l h f e = absurd (omega arith)
room slots (r ∷ rs) (n ∷ ns) l h f e = (
  omega (arith, h.0),
  empty_from_flag (root_at slots r) (sym (flags_at slots r) ∙ f.0),
  room (set slots r (Some n)) rs ns (length-set slots r (Some n) ∙ l) h.1 (rw (flags_set slots r (Some n)) f.1) (omega arith),
)

-- No fault.
pub passed : {E : Type 0} (o : Option E) {x : Unit {0}} → verdict o ≡ Ok x → o ≡ None
passed None e = refl
passed (Some f) e = cc

pub refused : {E : Type 0} (o : Option E) {f : E} → verdict o ≡ Err f → o ≡ Some f
refused None e = cc
refused (Some g) e = cc

pub first_none : {E : Type 0} (f g : Option E) → first_of f g ≡ None → (f ≡ None) × (g ≡ None)
first_none None g e = (refl, e)
first_none (Some x) g e = (e, absurd (let z : ◌≡◌ {A = ℕ} 0 1 = cc in omega arith))

pub none_mapped : {E F : Type 0} (f : E → F) (o : Option E) → option_map f o ≡ None → o ≡ None
none_mapped f None e = refl
none_mapped f (Some x) e = cc

pub true_from_none : {E : Type 0} (b : Bool) (f : Option E) (x : E) → cond b f (Some x) ≡ None → (b ≡ true) × (f ≡ None)
true_from_none true f x e = (refl, e)
true_from_none false f x e = (cc, absurd (let z : ◌≡◌ {A = ℕ} 0 1 = cc in omega arith))

pub false_from_none : {E : Type 0} (b : Bool) (x : E) → cond b (Some x) None ≡ None → b ≡ false
false_from_none true x e = cc
false_from_none false x e = refl

pub tests_passed : (call : Call) (used : List Bool) → fault_of call used ≡ None → (field_fault (fields call) ≡ None) × (link_fault call ≡ None) × (touch_fault (touches call) used ≡ None)
tests_passed call used e =
    let p = first_none (field_fault (fields call)) (first_of (link_fault call) (touch_fault (touches call) used)) e in
    let q = first_none (link_fault call) (touch_fault (touches call) used) p.1 in
    (p.0, q.0, q.1)

-- the test of what is left, by what stands next
pub first_here : {T E : Type 0} (f : T → Option E) (xs : List (Option T)) (i : ℕ) (l : i < length xs) (d o : Option T) → get_or xs i d ≡ o → {x : Option E} → option_and_then f o ≡ x →
    first (map (option_and_then f) (drop i xs)) ≡ first (x ∷ map (option_and_then f) (drop (i + 1) xs))
first_here f xs i l d o e h =
    at_drop_more (λ ys. first (map (option_and_then f) ys)) xs i d l
    ∙ ap (λ q. first (option_and_then f q ∷ map (option_and_then f) (drop (i + 1) xs))) e
    ∙ ap (λ q. first (q ∷ map (option_and_then f) (drop (i + 1) xs))) h

-- none at the end changes nothing
pub quad_is : {A : Type 0} (ts : List (Option A)) → length ts ≤ 4 → (k : ℕ) × (quad ts ≡ ts ++ replicate k None)
quad_is [] l = (4, refl)
quad_is (a ∷ []) l = (3, refl)
quad_is (a ∷ (b ∷ [])) l = (2, refl)
quad_is (a ∷ (b ∷ (c ∷ []))) l = (1, refl)
quad_is (a ∷ (b ∷ (c ∷ (d ∷ [])))) l = (0, refl)
quad_is (a ∷ (b ∷ (c ∷ (d ∷ (e ∷ ts))))) l = absurd (omega (arith, l))

pub denied_pad : (ts : List (Option Touch)) (k : ℕ) (used : List Bool) → first_denied (ts ++ replicate k None) used ≡ first_denied ts used
denied_pad [] zero used = refl
denied_pad [] (suc k) used = denied_pad [] k used
denied_pad (None ∷ ts) k used = denied_pad ts k used
denied_pad (Some t ∷ ts) k used = ap (first_of (touch_denied t used)) (denied_pad ts k (touched t used))

fields_pad : (fs : List Field) (k : ℕ) → option_map field_told (first (map (option_and_then unnamed) (map Some fs ++ replicate k None))) ≡ field_fault fs
fields_pad [] zero = refl
fields_pad [] (suc k) = fields_pad [] k
fields_pad (f ∷ fs) k = by (names_root f) (record { 0 = byte_of f }) (map (option_and_then unnamed) (map Some fs ++ replicate k None)) (fields_pad fs k)
  where
    by : (b : Bool) (x : NoSuchRoot) (os : List (Option NoSuchRoot)) {o : Option BenchFault} → option_map field_told (first os) ≡ o → option_map field_told (first (cond b None (Some x) ∷ os)) ≡ cond b o (Some (field_told x))
    by true x os e = e
    by false x os e = refl

-- no call names or touches more than four roots
few : (call : Call) → (length (map Some (fields call)) ≤ 4) × (length (touches call) ≤ 4)
few (Make d k v a b) = (omega arith, omega arith)
few (Copy s d) = (omega arith, omega arith)
few (Release r) = (omega arith, omega arith)
few (Match r k a b) = (omega arith, omega arith)
few (Rebuild r k v a b) = (omega arith, omega arith)
few (Look r) = (omega arith, omega arith)
few (Same r s) = (omega arith, omega arith)

module _ (call : Call) where
  pub quad_fields : option_map field_told (first (map (option_and_then unnamed) (quad (map Some (fields call))))) ≡ field_fault (fields call)
  quad_fields = let q = quad_is (map Some (fields call)) (few call).0 in ap (λ (x : List (Option Field)). option_map field_told (first (map (option_and_then unnamed) x))) q.1 ∙ fields_pad (fields call) q.0

  pub quad_touches : (used : List Bool) → touch_fault (quad (touches call)) used ≡ touch_fault (touches call) used
  quad_touches used = let q = quad_is (touches call) (few call).1 in ap (λ (x : List (Option Touch)). touch_fault x used) q.1 ∙ ap (option_map touch_told) (denied_pad (touches call) q.0 used)

-- Fields, one after another.
pub root_field : (r : ℕ) (fs : List Field) → field_fault (Root r ∷ fs) ≡ None → (r < 16) × (field_fault fs ≡ None)
root_field r fs e = let p = true_from_none (ltb r 16) (field_fault fs) (fault.NoSuchRoot r) e in (ltb-true r 16 p.0, p.1)

pub link_field : (r : ℕ) (fs : List Field) → field_fault (Link r ∷ fs) ≡ None → ((r ≡ 255 → ⊥) → r < 16) × (field_fault fs ≡ None)
link_field r fs e =
    let p = true_from_none (names_root (Link r)) (field_fault fs) (fault.NoSuchRoot r) e in
    (named (ltb r 16) (eqb r 255) (ltb-true r 16) (eqb-true r 255) p.0, p.1)
  where
    named : (x y : Bool) → (x ≡ true → r < 16) → (y ≡ true → r ≡ 255) → cond x true y ≡ true → (r ≡ 255 → ⊥) → r < 16
    named true y lt eq h n = lt refl
    named false y lt eq h n = absurd (n (eq h))

pub linked_roots : (a : ℕ) → ((a ≡ 255 → ⊥) → a < 16) → AllRoots (linked a)
linked_roots a h = by (eqb a 255) (eqb-false a 255)
  where
    by : (x : Bool) → (x ≡ false → a ≡ 255 → ⊥) → AllRoots (cond x [] (a ∷ []))
    by true n = tt
    by false n = (h (n refl), tt)

-- Touches, one after another.
first_touch : (t : Touch) (ts : List (Option Touch)) (used : List Bool) → touch_fault (Some t ∷ ts) used ≡ None → (touch_denied t used ≡ None) × (touch_fault ts (touched t used) ≡ None)
first_touch t ts used e =
    let p = first_none (touch_denied t used) (first_denied ts (touched t used)) (none_mapped touch_told _ e) in
    (p.0, ap (option_map touch_told) p.1)

module _ (ts : List (Option Touch)) (slots : List (Option ℕ)) where
  pub use_touch : (r : ℕ) → touch_fault (Some (Use r) ∷ ts) (flags slots) ≡ None → (is_some (root_at slots r) ≡ true) × (touch_fault ts (flags slots) ≡ None)
  use_touch r e =
      let p = first_touch (Use r) ts (flags slots) e in
      (sym (flags_at slots r) ∙ (true_from_none (in_use (flags slots) r) None (Empty r) p.0).0, p.1)

  pub spend_touch : (r : ℕ) → touch_fault (Some (Spend r) ∷ ts) (flags slots) ≡ None → (is_some (root_at slots r) ≡ true) × (touch_fault ts (flags (spend slots r)) ≡ None)
  spend_touch r e =
      let p = first_touch (Spend r) ts (flags slots) e in
      (sym (flags_at slots r) ∙ (true_from_none (in_use (flags slots) r) None (Empty r) p.0).0, ap (λ (l : List Bool). touch_fault ts l) (flags_set slots r None) ∙ p.1)

  pub spend_link : (a : ℕ) → touch_fault (unless_none a (Spend a) ∷ ts) (flags slots) ≡ None → Spendable slots (linked a) × (touch_fault ts (flags (spent slots (linked a))) ≡ None)
  spend_link a = by (eqb a 255)
    where
      by : (x : Bool) → touch_fault (cond x None (Some (Spend a)) ∷ ts) (flags slots) ≡ None → Spendable slots (cond x [] (a ∷ [])) × (touch_fault ts (flags (spent slots (cond x [] (a ∷ [])))) ≡ None)
      by true e = (tt, e)
      by false e = let p = spend_touch a e in ((p.0, tt), p.1)

module _ (ts : List (Option Touch)) (used : List Bool) where
  pub fill_touch : (r : ℕ) → touch_fault (Some (Fill r) ∷ ts) used ≡ None → (in_use used r ≡ false) × (touch_fault ts (set used r true) ≡ None)
  fill_touch r e =
      let p = first_touch (Fill r) ts used e in
      (false_from_none (in_use used r) (InUse r) p.0, p.1)

  pub fill_link : (a : ℕ) → touch_fault (unless_none a (Fill a) ∷ ts) used ≡ None → Fillable used (linked a) × (touch_fault ts (fill_all used (linked a)) ≡ None)
  fill_link a = by (eqb a 255)
    where
      by : (x : Bool) → touch_fault (cond x None (Some (Fill a)) ∷ ts) used ≡ None → Fillable used (cond x [] (a ∷ [])) × (touch_fault ts (fill_all used (cond x [] (a ∷ []))) ≡ None)
      by true e = (tt, e)
      by false e = let p = fill_touch a e in ((p.0, tt), p.1)

-- an empty root is to be filled
pub fill_root : (ts : List (Option Touch)) (slots : List (Option ℕ)) (r : ℕ) → touch_fault (Some (Fill r) ∷ ts) (flags slots) ≡ None → root_at slots r ≡ None
fill_root ts slots r e = empty_from_flag (root_at slots r) (sym (flags_at slots r) ∙ (fill_touch ts (flags slots) r e).0)

-- both links are spent, and the rest follows
pub spend_links : (ts : List (Option Touch)) (slots : List (Option ℕ)) (a b : ℕ) → touch_fault (unless_none a (Spend a) ∷ (unless_none b (Spend b) ∷ ts)) (flags slots) ≡ None →
    Spendable slots (link_roots a b) × (touch_fault ts (flags (spent slots (link_roots a b))) ≡ None)
spend_links ts slots a b e =
    let p = spend_link (unless_none b (Spend b) ∷ ts) slots a e in
    let q = spend_link ts (spent slots (linked a)) b p.1 in
    (spendable_append slots (linked a) (linked b) p.0 q.0, ap (λ (l : List (Option ℕ)). touch_fault ts (flags l)) (spent_append slots (linked a) (linked b)) ∙ q.1)

-- both links are filled
pub fill_links : (ts : List (Option Touch)) (used : List Bool) (a b : ℕ) → touch_fault (unless_none a (Fill a) ∷ (unless_none b (Fill b) ∷ ts)) used ≡ None → Fillable used (link_roots a b)
fill_links ts used a b e =
    let p = fill_link (unless_none b (Fill b) ∷ ts) used a e in
    fillable_append used (linked a) (linked b) p.0 (fill_link ts (fill_all used (linked a)) b p.1).0

-- Links as the kind has them.
pub fits_from_none : (k a b : ℕ) → cond (fits_kind k a b) None (Some LinksUnfit) ≡ None → fits_kind k a b ≡ true
fits_from_none k a b e = (true_from_none (fits_kind k a b) None LinksUnfit e).0

pub fits_arity : (k a b : ℕ) → fits_kind k a b ≡ true → length (link_roots a b) ≡ arity k
fits_arity k a b e = by (ltb k 64) (ltb k 128) (eqb a 255) (eqb b 255) e
  where
    by : (x y p q : Bool) → (cond (leb 1 (cond x 0 (cond y 1 2))) (not p) p && cond (leb 2 (cond x 0 (cond y 1 2))) (not q) q) ≡ true →
        length (cond p [] (a ∷ []) ++ cond q [] (b ∷ [])) ≡ cond x 0 (cond y 1 2)
    by true y true true e = refl
    by true y true false e = cc
    by true y false q e = cc
    by false true true q e = cc
    by false true false true e = refl
    by false true false false e = cc
    by false false true q e = cc
    by false false false true e = cc
    by false false false false e = refl

-- Each call.
pub record CopyPassed (slots : List (Option ℕ)) (s d : ℕ) : Type 0 where
  pub there : d < 16
  pub used : is_some (root_at slots s) ≡ true
  pub clear : root_at slots d ≡ None

pub record MatchPassed (slots : List (Option ℕ)) (r k a b : ℕ) : Type 0 where
  pub link_0 : (a ≡ 255 → ⊥) → a < 16
  pub link_1 : (b ≡ 255 → ⊥) → b < 16
  pub fits : fits_kind k a b ≡ true
  pub room : (ns : List ℕ) → length ns ≡ length (link_roots a b) → Room (spend slots r) (link_roots a b) ns

-- a root and two links
link_fields : (r a b : ℕ) → field_fault (Root r ∷ (Link a ∷ (Link b ∷ []))) ≡ None → (r < 16) × ((a ≡ 255 → ⊥) → a < 16) × ((b ≡ 255 → ⊥) → b < 16)
link_fields r a b e =
    let p = root_field r (Link a ∷ (Link b ∷ [])) e in
    let q = link_field a (Link b ∷ []) p.1 in
    (p.0, q.0, (link_field b [] q.1).0)

module _ (slots : List (Option ℕ)) where
  pub make_passes : (d k : ℕ) (v : ℤ) (a b : ℕ) → fault_of (Make d k v a b) (flags slots) ≡ None → LinksPassed slots k a b
  make_passes d k v a b e =
      let p = tests_passed (Make d k v a b) (flags slots) e in
      let f = link_fields d a b p.0 in
      record { link_0 = f.1; link_1 = f.2; fits = fits_from_none k a b p.1; spends = (spend_links (Some (Fill d) ∷ []) slots a b p.2).0 }

  -- the root that a make fills is there, and empty once the links are spent
  pub make_clear : (d k : ℕ) (v : ℤ) (a b : ℕ) → fault_of (Make d k v a b) (flags slots) ≡ None → (d < 16) × (root_at (spent slots (link_roots a b)) d ≡ None)
  make_clear d k v a b e =
      let p = tests_passed (Make d k v a b) (flags slots) e in
      ((link_fields d a b p.0).0, fill_root [] (spent slots (link_roots a b)) d (spend_links (Some (Fill d) ∷ []) slots a b p.2).1)

  pub copy_passes : (s d : ℕ) → fault_of (Copy s d) (flags slots) ≡ None → CopyPassed slots s d
  copy_passes s d e =
      let p = tests_passed (Copy s d) (flags slots) e in
      let f = root_field s (Root d ∷ []) p.0 in
      let u = use_touch (Some (Fill d) ∷ []) slots s p.2 in
      record { there = (root_field d [] f.1).0; used = u.0; clear = fill_root [] slots d u.1 }

  pub match_passes : (r k a b : ℕ) → length slots ≡ 16 → fault_of (Match r k a b) (flags slots) ≡ None → MatchPassed slots r k a b
  match_passes r k a b l e =
      let p = tests_passed (Match r k a b) (flags slots) e in
      let f = link_fields r a b p.0 in
      let s = spend_touch (unless_none a (Fill a) ∷ (unless_none b (Fill b) ∷ [])) slots r p.2 in
      let empty = fill_links [] (flags (spend slots r)) a b s.1 in
      let roots = all_roots_append (linked a) (linked b) (linked_roots a f.1) (linked_roots b f.2) in
      record {
        link_0 = f.1;
        link_1 = f.2;
        fits = fits_from_none k a b p.1;
        room = λ ns h. room (spend slots r) (link_roots a b) ns (length-set slots r None ∙ l) roots empty h;
      }

  pub rebuild_passes : (r k : ℕ) (v : ℤ) (a b : ℕ) → fault_of (Rebuild r k v a b) (flags slots) ≡ None → LinksPassed (spend slots r) k a b
  rebuild_passes r k v a b e =
      let p = tests_passed (Rebuild r k v a b) (flags slots) e in
      let f = link_fields r a b p.0 in
      let s = spend_touch (unless_none a (Spend a) ∷ (unless_none b (Spend b) ∷ (Some (Fill r) ∷ []))) slots r p.2 in
      record { link_0 = f.1; link_1 = f.2; fits = fits_from_none k a b p.1; spends = (spend_links (Some (Fill r) ∷ []) (spend slots r) a b s.1).0 }
