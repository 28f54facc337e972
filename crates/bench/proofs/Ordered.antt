-- A table in order, whose holds out are the roots, stands for some machine: a node for each cell, in the order of the cells' ranks.
use Rattle.std.proofs.Common.{◌≡◌, ℕ, zero, suc, ◌+◌, ◌-◌, ◌<◌, cond, eqb, List, [], ◌∷◌, ◌++◌, map, length, sym, refl, ap, ◌∙◌, subst, ⊎_elim, arith}
use lib.ListN.{length-map}
use Rattle.std.proofs.lemmas.List.{length-append, get_or_append_left, get_or-append-add}
use Rattle.std.proofs.lemmas.Bool.{cases_lt, cond-true, cond_both, eq-eqb, eqb-true}
use Rattle.store.specs.Numbers.{In}
use Rattle.store.specs.Meaning.{Node, arity, Meaning, Reached, by_hold}
use Rattle.store.specs.Cells.{at, meaning}
use Rattle.store.specs.Rooted.{named}
use Rattle.store.proofs.Meets.{fits_length}
use Rattle.store.proofs.Reach.{reached_inside}
use Rattle.bench.specs.Machine.{Machine, blank, node_at}
use Rattle.bench.specs.Picture.{root_by, node_by}
use Rattle.bench.specs.Laws.{OrderedStands}
use Rattle.bench.proofs.Slots.{by_in, named_by}
use Rattle.bench.proofs.Kept.{found_reached}

-- x s, x (s + 1) and so on, k of them
abbrev row : (ℕ → Node) → ℕ → ℕ → List Node
row x s zero = []
row x s (suc k) = x s ∷ row x (suc s) k

row_length : (x : ℕ → Node) (s k : ℕ) → length (row x s k) ≡ k
row_length x s zero = refl
row_length x s (suc k) = omega (arith, row_length x (suc s) k)

row_at : (x : ℕ → Node) (s k i : ℕ) → i < k → node_at (row x s k) i ≡ x (s + i)
row_at x s zero i h = absurd (omega arith)
row_at x s (suc k) zero h = ap x (omega arith)
row_at x s (suc k) (suc i) h = row_at x (suc s) k i (omega arith) ∙ ap x (omega arith)

-- rows of n
module _ (n : ℕ) where
  -- the place of column c in row r
  abbrev place : ℕ → ℕ → ℕ
  place zero c = c
  place (suc r) c = n + place r c

  place_from : (r c : ℕ) → place r 0 + c ≡ place r c
  place_from zero c = omega arith
  place_from (suc r) c = omega (arith, place_from r c)

  place_rises : (r q c d : ℕ) → r < q → c < n → place r c < place q d
  place_rises r zero c d h l = absurd (omega arith)
  place_rises zero (suc q) c d h l = omega arith
  place_rises (suc r) (suc q) c d h l = omega (arith, place_rises r q c d (omega arith) l)

  place_apart : (r q c d : ℕ) → c < n → d < n → place r c ≡ place q d → c ≡ d
  place_apart zero zero c d l k e = e
  place_apart zero (suc q) c d l k e = absurd (omega (arith, e, l))
  place_apart (suc r) zero c d l k e = absurd (omega (arith, e, k))
  place_apart (suc r) (suc q) c d l k e = place_apart r q c d l k (omega (arith, e))

  module _ (x : ℕ → ℕ → Node) where
    abbrev rows : ℕ → ℕ → List Node
    rows s zero = []
    rows s (suc k) = row (x s) 0 n ++ rows (suc s) k

    rows_length : (s k : ℕ) → length (rows s k) ≡ place k 0
    rows_length s zero = refl
    rows_length s (suc k) = omega (arith, length-append (row (x s) 0 n) (rows (suc s) k), row_length (x s) 0 n, rows_length (suc s) k)

    later : (s k i : ℕ) → node_at (rows s (suc k)) (n + i) ≡ node_at (rows (suc s) k) i
    later s k i = ap (λ l. node_at (rows s (suc k)) (l + i)) (sym (row_length (x s) 0 n)) ∙ get_or-append-add (row (x s) 0 n) (rows (suc s) k) i blank

    sooner : (s k c : ℕ) → c < n → node_at (rows s (suc k)) c ≡ x s c
    sooner s k c l = get_or_append_left (row (x s) 0 n) (rows (suc s) k) blank c (omega (arith, l, row_length (x s) 0 n)) ∙ row_at (x s) 0 n c l ∙ ap (x s) (omega arith)

    rows_at : (s k r c : ℕ) → r < k → c < n → node_at (rows s k) (place r c) ≡ x (s + r) c
    rows_at s zero r c h l = absurd (omega arith)
    rows_at s (suc k) zero c h l = sooner s k c l ∙ ap (λ q. x q c) (omega arith)
    rows_at s (suc k) (suc r) c h l = later s k (place r c) ∙ rows_at (suc s) k r c (omega arith) l ∙ ap (λ q. x q c) (omega arith)

    -- what holds at each place of what stands there, and of no node, holds throughout
    rows_all : (P : ℕ → Node → Type 0) → ((j : ℕ) → P j blank) → ((r c : ℕ) → c < n → P (place r c) (x r c)) → (s k j : ℕ) → P (place s 0 + j) (node_at (rows s k) j)
    rows_all P b h s zero j = b (place s 0 + j)
    rows_all P b h s (suc k) j = ⊎_elim
        (λ l. subst (P (place s 0 + j)) (sym (sooner s k j l)) (subst (λ q. P q (x s j)) (sym (place_from s j)) (h s j l)))
        (λ g.
        let e : n + (j - n) ≡ j = omega (arith, g) in
        subst (P (place s 0 + j)) (sym (later s k (j - n)) ∙ ap (node_at (rows s (suc k))) e)
        (subst (λ q. P q (node_at (rows (suc s) k) (j - n))) (omega (arith, g)) (rows_all P b h (suc s) k (j - n))))
        (cases_lt j n)

pub ordered_stands : OrderedStands
ordered_stands h slots o len out = record {
  sized = len;
  machine = t;
  stands = (
    own,
    record {
      sound = record { earlier = λ j i k. subst (λ q. i < q) (omega arith) (rows_all n x Earlier (λ j i k. absurd (omega arith)) early 0 clock j i k); there = there };
      agree = record { roots = refl; content = λ c f. found c (found_reached out f); apart = λ c d f g e. place_apart n (rank c) (rank d) c d (in_table (found_reached out f)) (in_table (found_reached out g)) e };
      out = out;
      inside = λ c r. in_table r;
    },
  );
  shaped = rows_all n x (λ j. Fit) (λ j. refl) fit 0 clock;
}
  where
    n : ℕ
    n = length h.cells

    rank : ℕ → ℕ
    rank = o.sound.rank

    clock : ℕ
    clock = o.sound.clock

    m : Meaning
    m = meaning h.cells

    own : ℕ → ℕ
    own c = place n (rank c) c

    x : ℕ → ℕ → Node
    x r c = cond (eqb (rank c) r) (node_by own (m.content c)) blank

    t : Machine
    t = record { nodes = rows n x 0 clock; roots = map (root_by own) slots }

    in_table : {c : ℕ} → Reached m c → c < n
    in_table r = reached_inside o.sound r

    Earlier : ℕ → Node → Type 0
    Earlier j y = (i : ℕ) → In i y.links → i < j

    early : (r c : ℕ) → c < n → Earlier (place n r c) (x r c)
    early r c l = cond_both (eqb (rank c) r) (node_by own (m.content c)) blank (Earlier (place n r c))
        (λ e i k.
        let b = by_in own (m.content c).links i k in
        omega (arith, b.2, place_rises n (rank b.0) r b.0 c (omega (arith, eqb-true (rank c) r e, o.sound.falls c b.0 b.1)) (o.sound.inside c b.0 b.1)))
        (λ e i k. absurd (omega arith))

    Fit : Node → Type 0
    Fit y = length y.links ≡ arity y.kind

    fit : (r c : ℕ) → c < n → Fit (x r c)
    fit r c l = cond_both (eqb (rank c) r) (node_by own (m.content c)) blank Fit
        (λ e. length-map (m.content c).links own ∙ fits_length (at h.cells c).kind (at h.cells c).link0 (at h.cells c).link1 (o.sound.shaped c))
        (λ e. refl)

    found : (c : ℕ) → Reached m c → node_at t.nodes (own c) ≡ node_by own (m.content c)
    found c r = rows_at n x 0 clock (rank c) c (o.sound.early c) (in_table r) ∙ cond-true (eqb (rank c) (0 + rank c)) _ _ (eq-eqb (rank c) (0 + rank c) (omega arith))

    there : (i : ℕ) → In i (named t.roots) → i < length t.nodes
    there i k =
        let b = by_in own (named slots) i (subst (In i) (named_by own slots) k) in
        omega (arith, b.2, rows_length n x 0 clock, place_rises n (rank b.0) clock b.0 0 (o.sound.early b.0) (in_table (by_hold (omega (arith, b.1, out b.0)))))
