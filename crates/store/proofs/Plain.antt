-- `Plain` says what `Okay` says: the list and the rank are computed from the table.
use Rattle.std.proofs.Common.{◌≡◌, ℕ, zero, suc, ◌+◌, ◌<◌, ◌≤◌, Bool, true, false, cond, ◌&&◌, eqb, ltb, List, [], ◌∷◌, length, is_some, Some, None, Option, sym, refl, ap, ◌∙◌, subst, ⊎_elim, arith}
use Rattle.std.proofs.lemmas.Bool.{both_ways, ltb-true, cases_eq, true≢false, cases_Bool, cases_lt, lt-ltb, le-ltb, eq-eqb, ne_eqb, and_from, and_left, and_right, or_cases, or_left, or_right}
use Rattle.store.specs.declared.cell.Cell.{Cell}
use Rattle.store.specs.Numbers.{times, In}
use Rattle.store.specs.Cells.{at, links_of}
use Rattle.store.specs.Heap.{Heap}
use Rattle.store.specs.Sound.{Sound, Chain, Okay, Clean}
use Rattle.store.specs.Plain.{walked, ends, any_of, deep, idle, Plain, PlainClean, PlainIsOkay, PlainIsClean}
use Rattle.store.specs.NumbersLemmas.{hit_cases, hit_self}
use Rattle.store.specs.CellsLemmas.{at_past, inlinks_at, inlinks_from}
use Rattle.store.specs.Pile.{none_some}
use Rattle.store.proofs.Weight.{walked_chain, idle_few}

is_none : (o : Option ℕ) → (is_some o ≡ true → ⊥) → o ≡ None
is_none None never = refl
is_none (Some x) never = absurd (never refl)

not_so : (b : Bool) → (b ≡ true → ⊥) → b ≡ false
not_so b never = ⊎_elim (λ e. absurd (never e)) (λ e. e) (cases_Bool b)

-- 1 where the test passes, else 0
abbrev one : Bool → ℕ
one b = cond b 1 0

one_yes : (b : Bool) → b ≡ true → one b ≡ 1
one_yes b e = ap one e

one_no : (b : Bool) → b ≡ false → one b ≡ 0
one_no b e = ap one e

one_most : (b : Bool) → one b ≤ 1
one_most true = omega arith
one_most false = omega arith

any_in : (test : ℕ → Bool) (xs : List ℕ) (d : ℕ) → In d xs → test d ≡ true → any_of test xs ≡ true
unfolding any_of
any_in test [] d i e = absurd (omega arith)
any_in test (x ∷ xs) d i e = ⊎_elim
    (λ p. or_left (test x) (any_of test xs) (subst (λ y. test y ≡ true) p.0 e))
    (λ p. or_right (test x) (any_of test xs) (any_in test xs d (omega (arith, p.1)) e))
    (hit_cases d x)

any_from : (test : ℕ → Bool) (xs : List ℕ) → any_of test xs ≡ true → (d : ℕ) × In d xs × (test d ≡ true)
unfolding any_of
any_from test [] e = absurd (true≢false (sym e))
any_from test (x ∷ xs) e = ⊎_elim
    (λ here. (x, omega (arith, hit_self x), here))
    (λ there. let r = any_from test xs there in (r.0, omega (arith, r.1), r.2))
    (or_cases (test x) (any_of test xs) e)

-- The free list.
chain_ends : (cs : List ℕ) (k : ℕ) (cells : List Cell) (head : Option ℕ) → Chain cells head cs → length cs ≤ k → ends k cells head ≡ true
unfolding ends
chain_ends [] k cells None h l = refl
chain_ends [] k cells (Some c) h l = none_some (sym h)
chain_ends (d ∷ ds) k cells None h l = none_some h.0
chain_ends (d ∷ ds) zero cells (Some c) h l = absurd (omega arith)
chain_ends (d ∷ ds) (suc k) cells (Some c) h l =
    let e : d ≡ c = (let q = h.0 in cc) in
    subst (λ i. ends k cells (at cells i).next ≡ true) e (chain_ends ds k cells (at cells d).next h.1 (omega arith))

ends_chain : (k : ℕ) (cells : List Cell) (head : Option ℕ) → ends k cells head ≡ true → Chain cells head (walked k cells head)
unfolding ends walked
ends_chain zero cells None e = refl
ends_chain zero cells (Some c) e = absurd (true≢false (sym e))
ends_chain (suc k) cells None e = refl
ends_chain (suc k) cells (Some c) e = (refl, ends_chain k cells (at cells c).next e)

module _ (cells : List Cell) (d : ℕ) where
  idle_in : d < length cells → (at cells d).count ≡ 0 → idle cells d ≡ 1
  idle_in l z = one_yes (ltb d (length cells) && eqb (at cells d).count 0) (and_from (ltb d (length cells)) (eqb (at cells d).count 0) (lt-ltb d (length cells) l) (eq-eqb (at cells d).count 0 z))

  idle_used : 0 < (at cells d).count → idle cells d ≡ 0
  idle_used u = one_no (ltb d (length cells) && eqb (at cells d).count 0) (and_right (ltb d (length cells)) (eqb (at cells d).count 0) (ne_eqb (at cells d).count 0 (λ e. omega arith)))

  idle_past : length cells ≤ d → idle cells d ≡ 0
  idle_past l = one_no (ltb d (length cells) && eqb (at cells d).count 0) (and_left (ltb d (length cells)) (eqb (at cells d).count 0) (le-ltb d (length cells) l))

listed_idle : {cells : List Cell} {listed : List ℕ} → Sound cells listed → (d : ℕ) → times d listed ≡ idle cells d
listed_idle {cells} s d = ⊎_elim
    (λ l. ⊎_elim
    (λ u. s.used d u ∙ sym (idle_used cells d u))
    (λ z. let none : (at cells d).count ≡ 0 = omega arith in s.each d l none ∙ sym (idle_in cells d l none))
    (cases_lt 0 (at cells d).count))
    (λ l. s.beyond d l ∙ sym (idle_past cells d l))
    (cases_lt d (length cells))

-- From a rank to no walk as long as there are cells: how many of the first n have a rank below m
lower : (ℕ → ℕ) → ℕ → ℕ → ℕ
lower rank m zero = 0
lower rank m (suc n) = one (ltb (rank n) m) + lower rank m n

module _ (rank : ℕ → ℕ) where
  one_lower : (x m k : ℕ) → m ≤ k → one (ltb (rank x) m) ≤ one (ltb (rank x) k)
  one_lower x m k h = ⊎_elim
      (λ e. omega (arith, one_yes (ltb (rank x) k) (lt-ltb (rank x) k (omega (arith, ltb-true (rank x) m e))), one_yes (ltb (rank x) m) e))
      (λ e. omega (arith, one_no (ltb (rank x) m) e))
      (cases_Bool (ltb (rank x) m))

  lower_most : (m k n : ℕ) → m ≤ k → lower rank m n ≤ lower rank k n
  unfolding lower
  lower_most m k zero h = omega arith
  lower_most m k (suc n) h = omega (arith, one_lower n m k h, lower_most m k n h)

  -- one is counted on the right only
  lower_less : (m k n d : ℕ) → d < n → m ≤ rank d → rank d < k → lower rank m n < lower rank k n
  unfolding lower
  lower_less m k zero d l a b = absurd (omega arith)
  lower_less m k (suc n) d l a b = ⊎_elim
      (λ e. omega (arith, lower_most m k n (omega arith), one_no (ltb (rank n) m) (le-ltb (rank n) m (omega (arith, ap rank e))), one_yes (ltb (rank n) k) (lt-ltb (rank n) k (omega (arith, ap rank e)))))
      (λ ne. omega (arith, one_lower n m k (omega arith), lower_less m k n d (omega (arith, ne)) a b))
      (cases_eq d n)

  lower_all : (m n : ℕ) → lower rank m n ≤ n
  unfolding lower
  lower_all m zero = omega arith
  lower_all m (suc n) = omega (arith, one_most (ltb (rank n) m), lower_all m n)

  -- one is not counted
  lower_short : (m n c : ℕ) → c < n → m ≤ rank c → lower rank m n < n
  unfolding lower
  lower_short m zero c l a = absurd (omega arith)
  lower_short m (suc n) c l a = ⊎_elim
      (λ e. omega (arith, lower_all m n, one_no (ltb (rank n) m) (le-ltb (rank n) m (omega (arith, ap rank e)))))
      (λ ne. omega (arith, one_most (ltb (rank n) m), lower_short m n c (omega (arith, ne)) a))
      (cases_eq c n)

-- no walk from a cell is longer than its rank
deep_rank : (cells : List Cell) (rank : ℕ → ℕ) → ((j d : ℕ) → In d (links_of (at cells j)) → rank d < rank j) → (k c : ℕ) → deep k cells c ≡ true → k ≤ rank c
unfolding deep
deep_rank cells rank falls zero c e = omega arith
deep_rank cells rank falls (suc k) c e =
    let r = any_from (deep k cells) (links_of (at cells c)) e in
    omega (arith, falls c r.0 r.1, deep_rank cells rank falls k r.0 r.2)

-- a cell past the table has no links
deep_past : (cells : List Cell) (k c : ℕ) → 0 < k → length cells ≤ c → deep k cells c ≡ false
unfolding deep any_of
deep_past cells zero c p l = absurd (omega arith)
deep_past cells (suc k) c p l = ap (λ (x : Cell). any_of (deep k cells) (links_of x)) (at_past cells c l)

module _ {cells : List Cell} {listed : List ℕ} (s : Sound cells listed) where
  -- a rank that stays below the size: how many cells have a lower one
  near : ℕ → ℕ
  near c = lower s.rank (s.rank c) (length cells)

  near_falls : (j d : ℕ) → In d (links_of (at cells j)) → near d < near j
  unfolding near
  near_falls j d i = lower_less s.rank (s.rank d) (s.rank j) (length cells) d (s.inside j d i) (omega arith) (s.falls j d i)

  no_deep : (c : ℕ) → deep (length cells) cells c ≡ false
  unfolding near
  no_deep c = ⊎_elim
      (λ l. not_so (deep (length cells) cells c) (λ e. let d = deep_rank cells near near_falls (length cells) c e in omega (arith, d, lower_short s.rank (s.rank c) (length cells) c l (omega arith))))
      (λ l. deep_past cells (length cells) c s.some l)
      (cases_lt c (length cells))

-- And from no such walk to a rank: for how many lengths below k a walk begins at the cell
depth : ℕ → List Cell → ℕ → ℕ
depth zero cells c = 0
depth (suc k) cells c = one (deep k cells c) + depth k cells c

depth_most : (k : ℕ) (cells : List Cell) (c : ℕ) → depth k cells c ≤ k
unfolding depth
depth_most zero cells c = omega arith
depth_most (suc k) cells c = omega (arith, one_most (deep k cells c), depth_most k cells c)

depth_falls : (k : ℕ) (cells : List Cell) (j d : ℕ) → In d (links_of (at cells j)) → depth k cells d < depth (suc k) cells j
unfolding depth deep
depth_falls zero cells j d i = omega arith
depth_falls (suc k) cells j d i = ⊎_elim
    (λ e. omega (arith, depth_falls k cells j d i, one_yes (deep k cells d) e, one_yes (deep (suc k) cells j) (any_in (deep k cells) (links_of (at cells j)) d i e)))
    (λ e. omega (arith, depth_falls k cells j d i, one_no (deep k cells d) e))
    (cases_Bool (deep k cells d))

pub plain : (h : Heap) → Okay h → Plain h
plain h o =
    let cells = h.cells in
    let s = o.sound in
    let few = idle_few s in
    let same = walked_chain o.listed (length cells) cells h.free o.chain few in (
      (s.some, s.most, λ c. (s.shaped c).first, λ c. (s.shaped c).second),
      (λ d l. let r = inlinks_from d cells l in s.inside r.0 d r.2, s.counted, no_deep s),
      (λ d. ap (times d) same ∙ listed_idle s d, λ d e. ⊎_elim (λ u. absurd (both_ways (is_some (at cells d).next) (ap is_some (s.unlisted d u)) e)) (λ z. z) (cases_lt 0 (at cells d).count)),
      chain_ends o.listed (length cells) cells h.free o.chain few,
    )

pub okay : (h : Heap) → Plain h → Okay h
unfolding depth
okay h p =
    let cells = h.cells in
    let n = length cells in
    record {
      listed = walked n cells h.free;
      chain = ends_chain n cells h.free p.3;
      sound = record {
        some = p.0.0;
        most = p.0.1;
        shaped = λ c. record { first = p.0.2 c; second = p.0.3 c };
        inside = λ j d i. p.1.0 d (omega (arith, inlinks_at d cells j));
        counted = p.1.1;
        each = λ d l z. p.2.0 d ∙ idle_in cells d l z;
        used = λ d u. p.2.0 d ∙ idle_used cells d u;
        beyond = λ d l. p.2.0 d ∙ idle_past cells d l;
        unlisted = λ d u. is_none (at cells d).next (λ e. omega (arith, p.2.1 d e));
        rank = depth n cells;
        clock = n + 1;
        early = λ c. omega (arith, depth_most n cells c);
        falls = λ j d i. omega (arith, depth_falls n cells j d i, one_no (deep n cells j) (p.1.2 j));
      };
    }

pub plain_clean : (cells : List Cell) → Clean cells → PlainClean cells
plain_clean cells w c z =
    let x = w c z in
    (x.kind, x.value, ap is_some x.link0, ap is_some x.link1)

pub clean : (cells : List Cell) → PlainClean cells → Clean cells
clean cells p c z =
    let x = p c z in
    record { kind = x.0; value = x.1; link0 = is_none (at cells c).link0 (both_ways (is_some (at cells c).link0) x.2); link1 = is_none (at cells c).link1 (both_ways (is_some (at cells c).link1) x.3); count = z }

pub plain_is_okay : PlainIsOkay
plain_is_okay h = (okay h, plain h)

pub plain_is_clean : PlainIsClean
plain_is_clean cells = (clean cells, plain_clean cells)
