-- The tests of a block: none fails exactly when the bytes write a block that fits and whose every path goes well.
use Rattle.std.proofs.Common.{◌≡◌, ℕ, zero, suc, ◌+◌, ◌-◌, ◌<◌, ◌≤◌, Bool, List, [], ◌∷◌, ◌++◌, map, length, Some, None, Ok, Err, Result, sym, refl, ap, ◌∙◌, subst, arith}
use Rattle.std.proofs.lemmas.Bool.{ltb-true, lt-ltb}
use Rattle.std.proofs.lemmas.List.{length-append, append-nil}
use Rattle.rule.specs.declared.fault.Flaw.{Flaw}
use Rattle.rule.specs.declared.fault.Flaw.TheVariants.{TooMany, TooDeep, Trailing}
use Rattle.rule.specs.Sheet.{Step, Fork, make, copy, release, rebuild, put, sum, difference, look, match, test, Block, opened, step_bytes, fork_bytes, written, records}
use Rattle.rule.specs.Read.{Rec, plain, branch, last, record_at, Tree, before_arms, tree}
use Rattle.bench.specs.Tests.{after_touches, first}
use Rattle.rule.specs.Check.{step_marks, fork_marks, step_links, fork_links, step_touches, fork_touches, record_flaws, done_flaw, size, too_many, too_deep, at_place, Claims, tests}
use Rattle.rule.specs.Allowed.{Fits, Ways, Shallow}
use Rattle.rule.proofs.Bytes.{Bytes, bytes_left, bytes_right}
use Rattle.rule.proofs.Reading.{written_read, read_written}
use Rattle.rule.proofs.Grown.{some_before, shorter, tree_err, tree_ok}
use Rattle.rule.proofs.Firsts.{some_none, first_cons, cons_first, first_append, append_first, first_placed, placed_first, unless_true, true_unless, moved, length_after, Goes, record_goes, goes_record}
use Rattle.rule.proofs.Heads.{done_same, same_done}

-- the tests of one record of a tree, and of what it holds
module _ (h : Claims) where
  abbrev pub Clear : Tree → ℕ → ℕ → List Bool → Type 0
  Clear t n d u = first (tests h t n d u) ≡ None

  pub record Stepped (s : Step) (k : Tree) (n d : ℕ) (u : List Bool) : Type 0 where
    pub few : n < 1024
    pub goes : Goes h.own (step_marks s) (step_links s) (step_touches s) u
    pub next : Clear k (n + 1) d (after_touches (step_touches s) u)

  pub clear_step : (p : ℕ) (s : Step) (k : Tree) (n d : ℕ) (u : List Bool) → Clear (Tree.step p s k) n d u → Stepped s k n d u
  unfolding tests
  clear_step p s k n d u e =
      let flaws = record_flaws h.own (step_marks s) (step_links s) (step_touches s) u in
      let q = first_append (map (at_place p) (too_many n ∷ flaws)) _ e in
      let r = first_cons (too_many n) flaws (first_placed p (too_many n ∷ flaws) q.0) in
      record { few = ltb-true n 1024 (unless_true _ _ r.0); goes = record_goes h.own (step_marks s) (step_links s) (step_touches s) u r.1; next = q.1 }

  pub step_clear : (p : ℕ) (s : Step) (k : Tree) (n d : ℕ) (u : List Bool) → n < 1024 → first (record_flaws h.own (step_marks s) (step_links s) (step_touches s) u) ≡ None → Clear k (n + 1) d (after_touches (step_touches s) u) → Clear (Tree.step p s k) n d u
  unfolding tests
  step_clear p s k n d u few good next =
      let flaws = record_flaws h.own (step_marks s) (step_links s) (step_touches s) u in
      append_first (map (at_place p) (too_many n ∷ flaws)) _
      (placed_first p (too_many n ∷ flaws) (cons_first (too_many n) flaws (true_unless _ TooMany (lt-ltb n 1024 few)) good)) next

  pub record Forked (f : Fork) (a b : Tree) (n d : ℕ) (u : List Bool) : Type 0 where
    pub few : n < 1024
    pub shallow : d < 16
    pub goes : Goes h.own (fork_marks f) (fork_links f) (fork_touches f) u
    pub on_yes : Clear a (n + 1) (d + 1) (after_touches (fork_touches f) u)
    pub on_no : Clear b (n + 1 + size a) (d + 1) u

  pub clear_fork : (p : ℕ) (f : Fork) (a b : Tree) (n d : ℕ) (u : List Bool) → Clear (Tree.fork p f a b) n d u → Forked f a b n d u
  unfolding tests
  clear_fork p f a b n d u e =
      let flaws = record_flaws h.own (fork_marks f) (fork_links f) (fork_touches f) u in
      let q = first_append (map (at_place p) (too_many n ∷ (too_deep d ∷ flaws))) _ e in
      let r = first_cons (too_many n) (too_deep d ∷ flaws) (first_placed p (too_many n ∷ (too_deep d ∷ flaws)) q.0) in
      let s = first_cons (too_deep d) flaws r.1 in
      let arms = first_append (tests h a (n + 1) (d + 1) (after_touches (fork_touches f) u)) _ q.1 in
      record { few = ltb-true n 1024 (unless_true _ _ r.0); shallow = ltb-true d 16 (unless_true _ _ s.0); goes = record_goes h.own (fork_marks f) (fork_links f) (fork_touches f) u s.1; on_yes = arms.0; on_no = arms.1 }

  pub fork_clear : (p : ℕ) (f : Fork) (a b : Tree) (n d : ℕ) (u : List Bool) → n < 1024 → d < 16 → first (record_flaws h.own (fork_marks f) (fork_links f) (fork_touches f) u) ≡ None
      → Clear a (n + 1) (d + 1) (after_touches (fork_touches f) u) → Clear b (n + 1 + size a) (d + 1) u → Clear (Tree.fork p f a b) n d u
  unfolding tests
  fork_clear p f a b n d u few deep good yes' no' =
      let flaws = record_flaws h.own (fork_marks f) (fork_links f) (fork_touches f) u in
      let shallow = cons_first (too_deep d) flaws (true_unless _ TooDeep (lt-ltb d 16 deep)) good in
      append_first (map (at_place p) (too_many n ∷ (too_deep d ∷ flaws))) _
      (placed_first p (too_many n ∷ (too_deep d ∷ flaws)) (cons_first (too_many n) (too_deep d ∷ flaws) (true_unless _ TooMany (lt-ltb n 1024 few)) shallow))
      (append_first (tests h a (n + 1) (d + 1) (after_touches (fork_touches f) u)) _ yes' no')

  pub clear_done : (p n d : ℕ) (u : List Bool) → Clear (Tree.done p) n d u → (n < 1024) × (done_flaw h.out u ≡ None)
  unfolding tests
  clear_done p n d u e =
      let r = first_cons (too_many n) (done_flaw h.out u ∷ []) (first_placed p (too_many n ∷ (done_flaw h.out u ∷ [])) e) in
      (ltb-true n 1024 (unless_true _ _ r.0), (first_cons (done_flaw h.out u) [] r.1).0)

  pub done_clear : (p n d : ℕ) (u : List Bool) → n < 1024 → done_flaw h.out u ≡ None → Clear (Tree.done p) n d u
  unfolding tests
  done_clear p n d u few e = placed_first p (too_many n ∷ (done_flaw h.out u ∷ [])) (cons_first (too_many n) _ (true_unless _ TooMany (lt-ltb n 1024 few)) (cons_first (done_flaw h.out u) [] e refl))

  pub clear_broken : (p : ℕ) (x : Flaw) (n d : ℕ) (u : List Bool) → Clear (Tree.broken p x) n d u → ⊥
  unfolding tests
  clear_broken p x n d u e =
      let r = first_cons (too_many n) (Some x ∷ []) (first_placed p (too_many n ∷ (Some x ∷ [])) e) in
      some_none x r.1

-- from bytes whose tests are passed to the block that they write
pub record BlockOf (h : Claims) (xs : List ℕ) (t : Tree) (n d : ℕ) (u : List Bool) : Type 0 where
  pub block : Block
  pub bytes : xs ≡ written block
  pub count : size t ≡ records block
  pub few : n + records block ≤ 1024
  pub shallow : Shallow d block
  pub fits : Fits h.own block
  pub ways : Ways h.out block u

module _ (h : Claims) where
  abbrev Found : ℕ → Type 0
  Found m = (p : ℕ) (xs : List ℕ) (n d : ℕ) (u : List Bool) → length xs < m → Bytes xs → length u ≡ length h.out → Clear h (tree p xs) n d u → BlockOf h xs (tree p xs) n d u

  arms_bytes : (f : Fork) (a b rest : List ℕ) → Bytes (fork_bytes f a b ++ rest) → Bytes a × Bytes b
  arms_bytes (match r k s x y) a b rest g =
      let l : Bytes (a ++ b) = bytes_left (a ++ b) rest (λ i. g (suc (suc (suc (suc (suc (suc (suc (suc (suc (suc (suc i)))))))))))) in
      (bytes_left a b l, bytes_right a b l)
  arms_bytes (test x y) a b rest g =
      let l : Bytes (a ++ b) = bytes_left (a ++ b) rest (λ i. g (suc (suc (suc (suc (suc (suc (suc (suc i))))))))) in
      (bytes_left a b l, bytes_right a b l)

  module _ (m : ℕ) (found : Found m) (p : ℕ) (xs : List ℕ) (n d : ℕ) (u : List Bool) (short : length xs < suc m) (bytes : Bytes xs) (same : length u ≡ length h.out) where
    at_step : (s : Step) (rest : List ℕ) → record_at xs ≡ Ok (plain s, rest) → Clear h (tree p xs) n d u → BlockOf h xs (tree p xs) n d u
    unfolding written records size
    at_step s rest is e =
        let q : ℕ = p + (length xs - length rest) in
        let shape : tree p xs ≡ Tree.step p s (tree q rest) = tree_ok p xs (plain s) rest is in
        let c : Stepped h s (tree q rest) n d u = clear_step h p s (tree q rest) n d u (subst (λ t. Clear h t n d u) shape e) in
        let w = read_written xs bytes (plain s) rest is in
        let v : List Bool = after_touches (step_touches s) u in
        let less = (shorter xs (plain s) rest is).0 in
        let g : BlockOf h rest (tree q rest) (n + 1) d v =
        found q rest (n + 1) d v (omega arith) (bytes_right (step_bytes s) rest (subst Bytes w.0 bytes)) (length_after (step_touches s) u ∙ same) c.next in
        let few = g.few in
        record {
          block = Block.step s g.block;
          bytes = w.0 ∙ ap (λ z. step_bytes s ++ z) g.bytes;
          count = ap size shape ∙ ap suc g.count;
          few = omega arith;
          shallow = g.shallow;
          fits = ((c.goes.fit, c.goes.linked, w.1), g.fits);
          ways = (v, c.goes.move, g.ways);
        }

    at_fork : (f : Fork) (a b rest : List ℕ) → record_at xs ≡ Ok (branch f a b, rest) → Clear h (tree p xs) n d u → BlockOf h xs (tree p xs) n d u
    unfolding written records size
    at_fork f a b [] is e =
        let qa : ℕ = p + before_arms f in
        let qb : ℕ = p + before_arms f + length a in
        let shape : tree p xs ≡ Tree.fork p f (tree qa a) (tree qb b) = tree_ok p xs (branch f a b) [] is in
        let c : Forked h f (tree qa a) (tree qb b) n d u = clear_fork h p f (tree qa a) (tree qb b) n d u (subst (λ t. Clear h t n d u) shape e) in
        let w = read_written xs bytes (branch f a b) [] is in
        let arms = arms_bytes f a b [] (subst Bytes w.0 bytes) in
        let v : List Bool = after_touches (fork_touches f) u in
        let less = (shorter xs (branch f a b) [] is).1 in
        let y : BlockOf h a (tree qa a) (n + 1) (d + 1) v =
        found qa a (n + 1) (d + 1) v (omega (arith, less, some_before f)) arms.0 (length_after (fork_touches f) u ∙ same) c.on_yes in
        let z : BlockOf h b (tree qb b) (n + 1 + size (tree qa a)) (d + 1) u =
        found qb b (n + 1 + size (tree qa a)) (d + 1) u (omega (arith, less, some_before f)) arms.1 same c.on_no in
        let few = z.few in
        let count = y.count in
        record {
          block = Block.fork f y.block z.block;
          bytes = w.0 ∙ append-nil (fork_bytes f a b) ∙ (λ i. fork_bytes f (y.bytes i) (z.bytes i));
          count = ap size shape ∙ (λ i. suc (y.count i + z.count i));
          few = omega arith;
          shallow = (c.shallow, y.shallow, z.shallow);
          fits = ((c.goes.fit, c.goes.linked), y.fits, z.fits);
          ways = ((v, c.goes.move, y.ways), z.ways);
        }
    at_fork f a b (x ∷ rest) is e = absurd (clear_broken h p Trailing n d u (subst (λ t. Clear h t n d u) (tree_ok p xs (branch f a b) (x ∷ rest) is) e))

    at_done : (rest : List ℕ) → record_at xs ≡ Ok (last, rest) → Clear h (tree p xs) n d u → BlockOf h xs (tree p xs) n d u
    unfolding written records size
    at_done [] is e =
        let shape : tree p xs ≡ Tree.done p = tree_ok p xs last [] is in
        let c = clear_done h p n d u (subst (λ t. Clear h t n d u) shape e) in
        let few = c.0 in
        record { block = Block.done; bytes = (read_written xs bytes last [] is).0; count = ap size shape; few = omega arith; shallow = tt; fits = tt; ways = done_same h.out u same c.1 }
    at_done (x ∷ rest) is e = absurd (clear_broken h p Trailing n d u (subst (λ t. Clear h t n d u) (tree_ok p xs last (x ∷ rest) is) e))

    at_rec : (r : Rec) (rest : List ℕ) → record_at xs ≡ Ok (r, rest) → Clear h (tree p xs) n d u → BlockOf h xs (tree p xs) n d u
    at_rec (plain s) rest is e = at_step s rest is e
    at_rec (branch f a b) rest is e = at_fork f a b rest is e
    at_rec last rest is e = at_done rest is e

    at_any : (r : Result (Rec × List ℕ) Flaw) → record_at xs ≡ r → Clear h (tree p xs) n d u → BlockOf h xs (tree p xs) n d u
    at_any (Ok r) is e = at_rec r.0 r.1 is e
    at_any (Err x) is e = absurd (clear_broken h p x n d u (subst (λ t. Clear h t n d u) (tree_err p xs x is) e))

  pub found : (m : ℕ) → Found m
  found zero p xs n d u short bytes same e = absurd (omega arith)
  found (suc m) p xs n d u short bytes same e = at_any m (found m) p xs n d u short bytes same (record_at xs) refl e

-- from a block that goes well to the tests of what it writes
step_long : (s : Step) → 4 ≤ length (step_bytes s)
step_long (make d k s a b) = omega arith
step_long (copy s d) = omega arith
step_long (release r) = omega arith
step_long (rebuild r k s a b) = omega arith
step_long (put s v) = omega arith
step_long (sum t x y) = omega arith
step_long (difference t x y) = omega arith
step_long (look r s) = omega arith

fork_long : (f : Fork) (a b : List ℕ) → 4 ≤ length (fork_bytes f a b)
fork_long (match r k s x y) a b = omega arith
fork_long (test x y) a b = omega arith

written_long : (b : Block) → 4 ≤ length (written b)
unfolding written
written_long (Block.step s k) = omega (arith, length-append (step_bytes s) (written k), step_long s)
written_long (Block.fork f a b) = fork_long f (written a) (written b)
written_long Block.done = omega arith

module _ (h : Claims) where
  abbrev Passing : ℕ → ℕ → ℕ → List Bool → Block → Type 0
  Passing p n d u b = Clear h (tree p (written b)) n d u × (size (tree p (written b)) ≡ records b)

  pub passing : (b : Block) (p n d : ℕ) (u : List Bool) → n + records b ≤ 1024 → Shallow d b → Fits h.own b → Ways h.out b u → Passing p n d u b
  unfolding written records size
  passing (Block.step s k) p n d u few deep fits ways =
      let q : ℕ = p + (length (step_bytes s ++ written k) - length (written k)) in
      let shape : tree p (step_bytes s ++ written k) ≡ Tree.step p s (tree q (written k)) =
      tree_ok p (step_bytes s ++ written k) (plain s) (written k) (written_read (plain s) fits.0.2 (written k)) in
      let v : List Bool = after_touches (step_touches s) u in
      let k' : Passing q (n + 1) d v k =
      passing k q (n + 1) d v (omega arith) deep fits.1 (subst (Ways h.out k) (moved (step_touches s) u ways.0 ways.1) ways.2) in
      let good = goes_record h.own (step_marks s) (step_links s) (step_touches s) u ways.0 fits.0.0 fits.0.1 ways.1 in
      (subst (λ t. Clear h t n d u) (sym shape) (step_clear h p s (tree q (written k)) n d u (omega arith) good k'.0), ap size shape ∙ ap suc k'.1)
  passing (Block.fork f a b) p n d u few deep fits ways =
      let qa : ℕ = p + before_arms f in
      let qb : ℕ = p + before_arms f + length (written a) in
      let bytes : List ℕ = fork_bytes f (written a) (written b) in
      let is : record_at bytes ≡ Ok (branch f (written a) (written b), []) =
      ap record_at (sym (append-nil bytes)) ∙ written_read (branch f (written a) (written b)) (written_long a, written_long b) [] in
      let shape : tree p bytes ≡ Tree.fork p f (tree qa (written a)) (tree qb (written b)) = tree_ok p bytes (branch f (written a) (written b)) [] is in
      let v : List Bool = after_touches (fork_touches f) u in
      let y : Passing qa (n + 1) (d + 1) v a =
      passing a qa (n + 1) (d + 1) v (omega arith) deep.1 fits.1 (subst (Ways h.out a) (moved (fork_touches f) u ways.0.0 ways.0.1) ways.0.2) in
      let count = y.1 in
      let m : ℕ = n + 1 + size (tree qa (written a)) in
      let z : Passing qb m (d + 1) u b = passing b qb m (d + 1) u (omega arith) deep.2 fits.2 ways.1 in
      let good = goes_record h.own (fork_marks f) (fork_links f) (fork_touches f) u ways.0.0 fits.0.0 fits.0.1 ways.0.1 in (
        subst (λ t. Clear h t n d u) (sym shape) (fork_clear h p f (tree qa (written a)) (tree qb (written b)) n d u (omega arith) deep.0 good y.0 z.0),
        ap size shape ∙ (λ i. suc (y.1 i + z.1 i)),
      )
  passing Block.done p n d u few deep fits ways =
      let shape : tree p (opened 12 []) ≡ Tree.done p = tree_ok p (opened 12 []) last [] (written_read last tt []) in
      (subst (λ t. Clear h t n d u) (sym shape) (done_clear h p n d u (omega arith) (same_done h.out u ways)), ap size shape)
