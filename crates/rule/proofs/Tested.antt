-- The first of several tests that fails.
use Rattle.std.proofs.Common.{◌≡◌, ℕ, zero, suc, ◌≤◌, Bool, List, [], ◌∷◌, ◌++◌, map, length, replicate, Some, None, Option, option_map, option_and_then, sym, refl, ap, ◌∙◌, arith}
use Rattle.bench.specs.declared.call.Touch.{Touch}
use Rattle.bench.specs.Tests.{touch_denied, touched, first_of, first_denied, after_touches, quad, first}
use Rattle.bench.specs.declared.fault.TouchFault.{TouchFault}
use Rattle.bench.proofs.Passes.{denied_pad, quad_is}
use Rattle.rule.specs.declared.mark.Mark.{Mark}
use Rattle.rule.specs.declared.fault.Flaw.{Flaw}
use Rattle.rule.specs.declared.fault.Flaw.TheVariants.{LinksUnfit}
use Rattle.rule.specs.Check.{unless, mark_flaw, own_flaw, touch_flawed, touch_flaw, touch_flaws}
use Rattle.rule.specs.Sheet.{make, copy, release, rebuild, put, sum, difference, look, match, test}
use Rattle.rule.specs.Read.{Rec, plain, branch, last}
use Rattle.rule.specs.Judged.{rec_marks, rec_links, rec_touches, rec_flaws}

module _ {A : Type 0} where
  pub first_on : (xs ys : List (Option A)) → first xs ≡ None → first (xs ++ ys) ≡ first ys
  first_on [] ys e = refl
  first_on (None ∷ xs) ys e = first_on xs ys e
  first_on (Some a ∷ xs) ys e = cc

  pub first_stop : (xs ys : List (Option A)) (a : A) → first xs ≡ Some a → first (xs ++ ys) ≡ Some a
  first_stop [] ys a e = cc
  first_stop (None ∷ xs) ys a e = first_stop xs ys a e
  first_stop (Some b ∷ xs) ys a e = e

  pub first_more : (x : Option A) (xs ys : List (Option A)) → first xs ≡ first ys → first (x ∷ xs) ≡ first (x ∷ ys)
  first_more None xs ys e = e
  first_more (Some a) xs ys e = refl

-- the flaw of several touches
pub denied_flaws : (ts : List (Option Touch)) (used : List Bool) → first (touch_flaws ts used) ≡ option_map touch_flawed (first_denied ts used)
denied_flaws [] used = refl
denied_flaws (None ∷ ts) used = denied_flaws ts used
denied_flaws (Some t ∷ ts) used = first_more (touch_flaw t used) _ (option_map touch_flawed (first_denied ts (touched t used)) ∷ []) (denied_flaws ts (touched t used) ∙ sym (alone _)) ∙ by (touch_denied t used) _
  where
    alone : (o : Option Flaw) → first (o ∷ []) ≡ o
    alone None = refl
    alone (Some x) = refl

    by : (x y : Option TouchFault) → first (option_map touch_flawed x ∷ (option_map touch_flawed y ∷ [])) ≡ option_map touch_flawed (first_of x y)
    by None y = alone (option_map touch_flawed y)
    by (Some e) y = refl

-- none at the end changes nothing
after_pad : (ts : List (Option Touch)) (k : ℕ) (used : List Bool) → after_touches (ts ++ replicate k None) used ≡ after_touches ts used
after_pad [] zero used = refl
after_pad [] (suc k) used = after_pad [] k used
after_pad (None ∷ ts) k used = after_pad ts k used
after_pad (Some t ∷ ts) k used = after_pad ts k (touched t used)

marks_pad : {M : Type 0} (f : M → Option Flaw) (ms : List M) (k : ℕ) → first (map (option_and_then f) (map Some ms ++ replicate k None)) ≡ first (map f ms)
marks_pad f [] zero = refl
marks_pad f [] (suc k) = marks_pad f [] k
marks_pad f (m ∷ ms) k = first_more (f m) _ _ (marks_pad f ms k)

-- no record touches more than four roots, or names more than four
few : (r : Rec) → (length (rec_touches r) ≤ 4) × (length (map Some (rec_marks r)) ≤ 4)
few (plain (make d k s a b)) = (omega arith, omega arith)
few (plain (copy s d)) = (omega arith, omega arith)
few (plain (release r)) = (omega arith, omega arith)
few (plain (rebuild r k s a b)) = (omega arith, omega arith)
few (plain (put s v)) = (omega arith, omega arith)
few (plain (sum t x y)) = (omega arith, omega arith)
few (plain (difference t x y)) = (omega arith, omega arith)
few (plain (look r s)) = (omega arith, omega arith)
few (branch (match r k s a b) ya na) = (omega arith, omega arith)
few (branch (test x y) ya na) = (omega arith, omega arith)
few last = (omega arith, omega arith)

module _ (r : Rec) where
  quad_denied : (used : List Bool) → first_denied (quad (rec_touches r)) used ≡ first_denied (rec_touches r) used
  quad_denied used = let q = quad_is (rec_touches r) (few r).0 in ap (λ (x : List (Option Touch)). first_denied x used) q.1 ∙ denied_pad (rec_touches r) q.0 used

  pub quad_after : (used : List Bool) → after_touches (quad (rec_touches r)) used ≡ after_touches (rec_touches r) used
  quad_after used = let q = quad_is (rec_touches r) (few r).0 in ap (λ (x : List (Option Touch)). after_touches x used) q.1 ∙ after_pad (rec_touches r) q.0 used

  quad_marks : (f : Mark → Option Flaw) → first (map (option_and_then f) (quad (map Some (rec_marks r)))) ≡ first (map f (rec_marks r))
  quad_marks f = let q = quad_is (map Some (rec_marks r)) (few r).1 in ap (λ (x : List (Option Mark)). first (map (option_and_then f) x)) q.1 ∙ marks_pad f (rec_marks r) q.0

-- the tests of one record: fields, links, own, touches
module _ (r : Rec) (own used : List Bool) {ms : List (Option Mark)} (e : ms ≡ quad (map Some (rec_marks r))) where
  abbrev M : List (Option Flaw)
  M = map mark_flaw (rec_marks r)

  abbrev l : Option Flaw
  l = unless (rec_links r) LinksUnfit

  abbrev O : List (Option Flaw)
  O = map (own_flaw own) (rec_marks r)

  abbrev T : List (Option Flaw)
  T = touch_flaws (rec_touches r) used

  -- what is tested of the four is tested of the record
  of_four : (f : Mark → Option Flaw) → first (map f (rec_marks r)) ≡ first (map (option_and_then f) ms)
  of_four f = sym (ap (λ (x : List (Option Mark)). first (map (option_and_then f) x)) e ∙ quad_marks r f)

  pub at_fields : {f : Flaw} → first (map (option_and_then mark_flaw) ms) ≡ Some f → first (rec_flaws own r used) ≡ Some f
  at_fields p = first_stop M (l ∷ (O ++ T)) _ (of_four mark_flaw ∙ p)

  module _ (m : first (map (option_and_then mark_flaw) ms) ≡ None) where
    past_fields : first (rec_flaws own r used) ≡ first (l ∷ (O ++ T))
    past_fields = first_on M (l ∷ (O ++ T)) (of_four mark_flaw ∙ m)

    pub at_links : {f : Flaw} → l ≡ Some f → first (rec_flaws own r used) ≡ Some f
    at_links p = past_fields ∙ ap (λ (x : Option Flaw). first (x ∷ (O ++ T))) p

    module _ (n : l ≡ None) where
      past_links : first (rec_flaws own r used) ≡ first (O ++ T)
      past_links = past_fields ∙ ap (λ (x : Option Flaw). first (x ∷ (O ++ T))) n

      pub at_own : {f : Flaw} → first (map (option_and_then (own_flaw own)) ms) ≡ Some f → first (rec_flaws own r used) ≡ Some f
      at_own p = past_links ∙ first_stop O T _ (of_four (own_flaw own) ∙ p)

      module _ (o : first (map (option_and_then (own_flaw own)) ms) ≡ None) {ts : List (Option Touch)} (t : ts ≡ quad (rec_touches r)) where
        pub at_touches : {x : Option TouchFault} → first_denied ts used ≡ x → first (rec_flaws own r used) ≡ option_map touch_flawed x
        at_touches p = past_links ∙ first_on O T (of_four (own_flaw own) ∙ o) ∙ denied_flaws (rec_touches r) used ∙ ap (option_map touch_flawed) (sym (quad_denied r used) ∙ ap (λ (x : List (Option Touch)). first_denied x used) (sym t) ∙ p)
