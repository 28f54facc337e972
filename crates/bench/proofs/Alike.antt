-- Pictures that agree look alike: each find of one is the other's find under its number.
use Rattle.std.proofs.Common.{◌≡◌, ℕ, zero, suc, List, [], ◌∷◌, map, ℤ, Some, None, Option, sym, refl, ap, ◌∙◌, arith}
use Rattle.store.specs.Numbers.{hit, In, item}
use Rattle.store.specs.Meaning.{Node}
use Rattle.store.specs.Rooted.{root_at}
use Rattle.store.specs.NumbersLemmas.{hit_self}
use Rattle.store.specs.Pile.{none_some}
use Rattle.bench.specs.Picture.{Picture, Found, from_root, from_link, Agree, LooksAlike, root_by, hop, walk, find, shown}
use Rattle.bench.specs.Laws.{PicturesAlike, BenchAlike}
use Rattle.bench.proofs.Slots.{root_named, root_at_by}
use Rattle.bench.proofs.Agree.{links_agree}

pub item_by : (f : ℕ → ℕ) (xs : List ℕ) (k : ℕ) → item (map f xs) k ≡ root_by f (item xs k)
item_by f [] k = refl
item_by f (x ∷ xs) zero = refl
item_by f (x ∷ xs) (suc k) = item_by f xs k

pub item_in : (xs : List ℕ) (k c : ℕ) → item xs k ≡ Some c → In c xs
item_in [] k c e = none_some e
item_in (x ∷ xs) zero c e = let q : x ≡ c = cc in omega (arith, hit_self c, ap (hit c) q)
item_in (x ∷ xs) (suc k) c e = omega (arith, item_in xs k c e)

-- if there is anything, it is found
abbrev OnlyFound : Picture → Option ℕ → Type 0
OnlyFound p o = (c : ℕ) → o ≡ Some c → Found p c

module _ (p : Picture) where
  hop_found : (o : Option ℕ) (k : ℕ) → OnlyFound p o → OnlyFound p (hop p o k)
  hop_found None k h c e = none_some e
  hop_found (Some j) k h c e = from_link (h j refl) (item_in (p.content j).links k c e)

  walk_found : (o : Option ℕ) (path : List ℕ) → OnlyFound p o → OnlyFound p (walk p o path)
  walk_found o [] h = h
  walk_found o (k ∷ ks) h = walk_found (hop p o k) ks (hop_found o k h)

  root_found : (r : ℕ) → OnlyFound p (root_at p.roots r)
  root_found r c e = from_root (root_named p.roots r c e)

  pub find_found : (r : ℕ) (path : List ℕ) → OnlyFound p (find p r path)
  find_found r path = walk_found (root_at p.roots r) path (root_found r)

module _ {p q : Picture} {f : ℕ → ℕ} (a : Agree p q f) where
  hop_agree : (o : Option ℕ) (k : ℕ) → OnlyFound p o → hop q (root_by f o) k ≡ root_by f (hop p o k)
  hop_agree None k h = refl
  hop_agree (Some c) k h = ap (λ l. item l k) (links_agree a (h c refl)) ∙ item_by f (p.content c).links k

  walk_agree : (o : Option ℕ) (path : List ℕ) → OnlyFound p o → walk q (root_by f o) path ≡ root_by f (walk p o path)
  walk_agree o [] h = refl
  walk_agree o (k ∷ ks) h = ap (λ u. walk q u ks) (hop_agree o k h) ∙ walk_agree (hop p o k) ks (hop_found p o k h)

  pub find_agree : (r : ℕ) (path : List ℕ) → find q r path ≡ root_by f (find p r path)
  find_agree r path = ap (λ l. walk q (root_at l r) path) a.roots ∙ ap (λ o. walk q o path) (root_at_by f p.roots r) ∙ walk_agree (root_at p.roots r) path (root_found p r)

  shown_agree : (o : Option ℕ) → OnlyFound p o → shown p o ≡ shown q (root_by f o)
  shown_agree None h = refl
  shown_agree (Some c) h = ap {B = Option (ℕ × ℤ)} (λ (x : Node). Some (x.kind, x.value)) (sym (a.content c (h c refl)))

  apart_agree : (o u : Option ℕ) → OnlyFound p o → OnlyFound p u → root_by f o ≡ root_by f u → o ≡ u
  apart_agree None None h k e = refl
  apart_agree None (Some d) h k e = none_some e
  apart_agree (Some c) None h k e = none_some (sym e)
  apart_agree (Some c) (Some d) h k e = ap Some (a.apart c d (h c refl) (k d refl) (cc))

  pub alike : LooksAlike p q
  alike = record {
    shows = λ r path. shown_agree (find p r path) (find_found p r path) ∙ ap (shown q) (sym (find_agree r path));
    meets = λ r path s way. (
      λ e. find_agree r path ∙ ap (root_by f) e ∙ sym (find_agree s way),
      λ e. apart_agree (find p r path) (find p s way) (find_found p r path) (find_found p s way) (sym (find_agree r path) ∙ e ∙ find_agree s way),
    );
  }

pub pictures_alike : PicturesAlike
pictures_alike p q f a = alike a

pub bench_alike : BenchAlike
bench_alike t slots m (own, s) = alike s.agree
