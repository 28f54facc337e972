-- Writing one cell keeps a table sound.
use Rattle.std.specs.Prelude.{◌≡◌, ℕ, ◌+◌, ◌<◌, ◌≤◌, true, false, cond, leb, ◌⊎◌, List, [], ◌∷◌, ◌++◌, length, is_some, None, Option, ◌==◌, ◌≢◌, nat_le, nat_lt, slice_set, refl}
use Rattle.std.proofs.Common.{sym, ap, ◌∙◌, arith, length-set}
use Rattle.std.proofs.Math.Logic.{inl, inr, ⊎_elim}
use Rattle.std.proofs.lemmas.Bool.{cases_eq, eq-eqb, ne_eqb, le-leb}
use Rattle.store.specs.declared.cell.Cell.{Cell}
use Rattle.store.specs.Numbers.{times, In, opt, item}
use Rattle.store.specs.Meaning.{Node, arity}
use Rattle.store.specs.Cells.{empty, at, links_of, inlinks, holds}
use Rattle.store.specs.Heap.{recounted, written}
use Rattle.store.specs.Sound.{Fitting, Sound}
use Rattle.store.specs.NumbersLemmas.{times_same}
use Rattle.store.specs.CellsLemmas.{at_set, at_self, inlinks_set, inlinks_at, counted_inside}

pub arity_most : (k : ℕ) → arity k ≤ 2
arity_most k = elim (nat_lt k 64) as (λ b. cond b 0 (cond (nat_lt k 128) 1 2) ≤ 2) [ true ↦ omega arith | false ↦ elim (nat_lt k 128) as (λ b. cond b 1 2 ≤ 2) [ true ↦ omega arith | false ↦ omega arith ] ]

-- a node of the right length is written as it is
pub written_links : (node : Node) (n : ℕ) (next : Option ℕ) → length node.links ≡ arity node.kind → links_of (written node n next) ≡ node.links
written_links node n next e = go node.links (omega (arith, arity_most node.kind))
  where
    go : (xs : List ℕ) → length xs ≤ 2 → opt (item xs 0) ++ opt (item xs 1) ≡ xs
    go [] h = refl
    go (x ∷ []) h = refl
    go (x ∷ (y ∷ [])) h = refl
    go (x ∷ (y ∷ (z ∷ zs))) h = absurd (omega arith)

pub written_fits : (node : Node) → length node.links ≡ arity node.kind → Fitting node.kind (item node.links 0) (item node.links 1)
written_fits node e = record { first = first node.links ∙ ap (leb 1) e; second = second node.links ∙ ap (leb 2) e }
  where
    first : (xs : List ℕ) → is_some (item xs 0) ≡ nat_le 1 (length xs)
    first [] = refl
    first (x ∷ xs) = sym (le-leb 1 (length (x ∷ xs)) (omega arith))

    second : (xs : List ℕ) → is_some (item xs 1) ≡ nat_le 2 (length xs)
    second [] = refl
    second (x ∷ []) = refl
    second (x ∷ (y ∷ xs)) = sym (le-leb 2 (length (x ∷ (y ∷ xs))) (omega arith))

-- what the cell x, written at c, must bring; idle is what is idle then
record Fit (cells : List Cell) (old_idle : List ℕ) (c : ℕ) (x : Cell) (idle : List ℕ) : Type 0 where
  shape : Fitting x.kind x.link0 x.link1
  inside : (d : ℕ) → In d (links_of x) → d < length cells
  law : (d : ℕ) → (d ≢ c) → inlinks d cells + times d (links_of x) ≤ (at cells d).count + times d (links_of (at cells c))
  self : inlinks c cells + times c (links_of x) ≤ x.count + times c (links_of (at cells c))
  none : x.count ≡ 0 → times c idle ≡ 1
  some : 0 < x.count → times c idle ≡ 0
  rest : (d : ℕ) → (d ≢ c) → times d idle ≡ times d old_idle
  next : 0 < x.count → x.next ≡ None
  rank : ℕ → ℕ
  clock : ℕ
  early : (d : ℕ) → rank d < clock
  own : (d : ℕ) → In d (links_of x) → rank d < rank c
  others : (j d : ℕ) → (j ≢ c) → In d (links_of (at cells j)) → rank d < rank j

module _ {cells : List Cell} {old_idle : List ℕ} (s : Sound cells old_idle) (c : ℕ) (x : Cell) (here : c < length cells) where
  write : (idle : List ℕ) → Fit cells old_idle c x idle → Sound (slice_set cells c x) idle
  write idle f = record {
    some = rw length-set s.some;
    most = rw length-set s.most;
    shaped = λ d. ⊎_elim (λ p. rw p.1 f.shape) (λ p. rw p.1 (s.shaped d)) (new d);
    inside = λ j d h. rw length-set (⊎_elim (λ p. f.inside d (rw p.1 at h)) (λ p. s.inside j d (rw p.1 at h)) (new j));
    counted = λ d. ⊎_elim
        (λ p. rw p.0 (omega (arith, f.self, inlinks_set c cells c x here, ap (λ (y : Cell). y.count) (at_self cells c x here))))
        (λ p. omega (arith, f.law d p.0, inlinks_set d cells c x here, ap (λ (y : Cell). y.count) p.1))
        (new d);
    each = λ d l z. ⊎_elim
        (λ p. rw p.0 (f.none (ap (λ (y : Cell). y.count) (sym p.1) ∙ z)))
        (λ p. f.rest d p.0 ∙ s.each d (rw length-set at l) (ap (λ (y : Cell). y.count) (sym p.1) ∙ z))
        (new d);
    used = λ d z. ⊎_elim
        (λ p. rw p.0 (f.some (rw p.1 at z)))
        (λ p. f.rest d p.0 ∙ s.used d (rw p.1 at z))
        (new d);
    beyond = λ d l. let k : length cells ≤ d = rw length-set at l in f.rest d (λ e. omega arith) ∙ s.beyond d k;
    unlisted = λ d z. ⊎_elim
        (λ p. ap (λ (y : Cell). y.next) p.1 ∙ f.next (rw p.1 at z))
        (λ p. ap (λ (y : Cell). y.next) p.1 ∙ s.unlisted d (rw p.1 at z))
        (new d);
    rank = f.rank;
    clock = f.clock;
    early = f.early;
    falls = λ j d h. ⊎_elim (λ p. rw p.0 (f.own d (rw p.1 at h))) (λ p. f.others j d p.0 (rw p.1 at h)) (new j);
  }
    where
      new : (d : ℕ) → ((d ≡ c) × (at (slice_set cells c x) d ≡ x)) ⊎ ((d ≢ c) × (at (slice_set cells c x) d ≡ at cells d))
      new d = at_set cells c x d here

  -- what the counts and links say of the holds after the write
  held : {idle : List ℕ} → Sound (slice_set cells c x) idle → (d : ℕ) →
      ((d ≡ c) × (holds (slice_set cells c x) d + times d (links_of x) + (at cells d).count ≡ holds cells d + times d (links_of (at cells c)) + x.count))
      ⊎ ((d ≢ c) × (holds (slice_set cells c x) d + times d (links_of x) ≡ holds cells d + times d (links_of (at cells c))))
  held n d = ⊎_elim
      (λ p. inl (p.0, omega (arith, s.counted d, n.counted d, inlinks_set d cells c x here, ap (λ (y : Cell). y.count) p.1)))
      (λ p. inr (p.0, omega (arith, s.counted d, n.counted d, inlinks_set d cells c x here, ap (λ (y : Cell). y.count) p.1)))
      (at_set cells c x d here)

module _ {cells : List Cell} {old_idle : List ℕ} (s : Sound cells old_idle) (c : ℕ) (here : c < length cells) where
  -- only the count of c, and its successor, change
  module _ (n : ℕ) (next : Option ℕ) (enough : inlinks c cells ≤ n) (idle : List ℕ) (none : n ≡ 0 → times c idle ≡ 1) (some : 0 < n → times c idle ≡ 0)
      (rest : (d : ℕ) → (d ≢ c) → times d idle ≡ times d old_idle) (loose : 0 < n → next ≡ None) where
    pub recount : Sound (slice_set cells c (recounted (at cells c) n next)) idle
    recount = write s c (recounted (at cells c) n next) here idle (record {
      shape = s.shaped c;
      inside = s.inside c;
      law = λ d ne. omega (arith, s.counted d);
      self = omega arith;
      none = none;
      some = some;
      rest = rest;
      next = loose;
      rank = s.rank;
      clock = s.clock;
      early = s.early;
      own = s.falls c;
      others = λ j d ne. s.falls j d;
    })

    pub recount_held : (d : ℕ) →
        ((d ≡ c) × (holds (slice_set cells c (recounted (at cells c) n next)) d + (at cells d).count ≡ holds cells d + n))
        ⊎ ((d ≢ c) × (holds (slice_set cells c (recounted (at cells c) n next)) d ≡ holds cells d))
    recount_held d = ⊎_elim (λ p. inl (p.0, omega (arith, p.1, ap (λ i. times d (links_of (at cells i))) p.0))) (λ p. inr (p.0, omega (arith, p.1))) (held s c (recounted (at cells c) n next) here recount d)

  -- c gives up its content
  module _ (n : ℕ) (next : Option ℕ) (enough : inlinks c cells ≤ n) (idle : List ℕ) (none : n ≡ 0 → times c idle ≡ 1) (some : 0 < n → times c idle ≡ 0)
      (rest : (d : ℕ) → (d ≢ c) → times d idle ≡ times d old_idle) (loose : 0 < n → next ≡ None) where
    pub clear : Sound (slice_set cells c (empty n next)) idle
    clear = write s c (empty n next) here idle (record {
      shape = record { first = refl; second = refl };
      inside = λ d h. absurd (omega arith);
      law = λ d ne. omega (arith, s.counted d);
      self = omega arith;
      none = none;
      some = some;
      rest = rest;
      next = loose;
      rank = s.rank;
      clock = s.clock;
      early = s.early;
      own = λ d h. absurd (omega arith);
      others = λ j d ne. s.falls j d;
    })

    pub clear_held : (d : ℕ) →
        ((d ≡ c) × (holds (slice_set cells c (empty n next)) d + (at cells d).count ≡ holds cells d + times d (links_of (at cells c)) + n))
        ⊎ ((d ≢ c) × (holds (slice_set cells c (empty n next)) d ≡ holds cells d + times d (links_of (at cells c))))
    clear_held d = ⊎_elim (λ p. inl (p.0, omega (arith, p.1))) (λ p. inr (p.0, omega (arith, p.1))) (held s c (empty n next) here clear d)

  -- c, held and without content, is written; nothing links to it, so it may take the next rank
  module _ (node : Node) (n : ℕ) (next : Option ℕ) (positive : 0 < n) (is : (at cells c).count ≡ n) (bare : (d : ℕ) → times d (links_of (at cells c)) ≡ 0) (alone : inlinks c cells ≡ 0)
      (length_is : length node.links ≡ arity node.kind) (room : (d : ℕ) → times d node.links ≤ holds cells d) (not_own : times c node.links ≡ 0) (loose : next ≡ None) where
    rank_new : ℕ → ℕ
    rank_new d = cond (d == c) s.clock (s.rank d)

    rank_cases : (d : ℕ) → ((d ≡ c) × (rank_new d ≡ s.clock)) ⊎ ((d ≢ c) × (rank_new d ≡ s.rank d))
    unfolding rank_new
    rank_cases d = ⊎_elim (λ e. inl (e, rw (eq-eqb d c e))) (λ ne. inr (ne, rw (ne_eqb d c ne))) (cases_eq d c)

    pub fill : Sound (slice_set cells c (written node n next)) old_idle
    fill = write s c (written node n next) here old_idle (record {
      shape = written_fits node length_is;
      inside = λ d h. counted_inside cells d (omega (arith, room d, s.counted d, ap (times d) (written_links node n next length_is)));
      law = λ d ne. omega (arith, s.counted d, room d, ap (times d) (written_links node n next length_is));
      self = omega (arith, not_own, alone, ap (times c) (written_links node n next length_is));
      none = λ z. absurd (omega arith);
      some = λ p. s.used c (omega arith);
      rest = λ d ne. refl;
      next = λ p. loose;
      rank = rank_new;
      clock = s.clock + 1;
      early = λ d. omega (arith, rank_cases d, s.early d);
      own = λ d h. ⊎_elim
          (λ p. absurd (omega (arith, times_same d c node.links p.0, ap (times d) (written_links node n next length_is))))
          (λ p. omega (arith, p.1, rank_cases c, s.early d))
          (rank_cases d);
      others = λ j d ne h. ⊎_elim
          (λ p. absurd (omega (arith, inlinks_at d cells j, ap (λ i. inlinks i cells) p.0)))
          (λ p. omega (arith, p.1, rank_cases j, s.falls j d h))
          (rank_cases d);
    })

    pub fill_held : (d : ℕ) → holds (slice_set cells c (written node n next)) d + times d node.links ≡ holds cells d
    fill_held d = ⊎_elim
        (λ p. omega (arith, p.1, ap (times d) (written_links node n next length_is), bare d, ap (λ i. (at cells i).count) p.0))
        (λ p. omega (arith, p.1, ap (times d) (written_links node n next length_is), bare d))
        (held s c (written node n next) here fill d)
