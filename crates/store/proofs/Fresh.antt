-- A table at set-up is sound, and no hold is out.
use Rattle.std.proofs.Common.{◌≡◌, ℕ, zero, suc, ◌+◌, ◌<◌, ◌≤◌, cond, eqb, ◌⊎◌, List, [], ◌∷◌, length, Some, None, Option, sym, refl, ap, ◌∙◌, subst, inl, inr, ⊎_elim, add-one, arith}
use Rattle.std.proofs.lemmas.Bool.{cases_lt, eq-eqb, ne_eqb}
use Rattle.store.specs.declared.cell.Cell.{Cell}
use Rattle.store.specs.Numbers.{times}
use Rattle.store.specs.Meaning.{Out}
use Rattle.store.specs.Cells.{empty, at, links_of, inlinks, meaning}
use Rattle.store.specs.Setup.{fresh_cell, fresh_from, fresh}
use Rattle.store.specs.Sound.{Sound, Chain, Okay, Tidy}
use Rattle.store.specs.NumbersLemmas.{hit_cases, hit_other}
use Rattle.store.specs.CellsLemmas.{at_past, inlinks_from}

pub fresh_length : (n i k : ℕ) → length (fresh_from n i k) ≡ k
unfolding fresh_from
fresh_length n i zero = refl
fresh_length n i (suc k) = ap suc (fresh_length n (suc i) k)

pub fresh_at : (n i k j : ℕ) → j < k → at (fresh_from n i k) j ≡ fresh_cell n (i + j)
unfolding fresh_from
fresh_at n i zero j l = absurd (omega arith)
fresh_at n i (suc k) zero l = ap (fresh_cell n) (let e : i ≡ i + 0 = omega arith in e)
fresh_at n i (suc k) (suc j) l = fresh_at n (suc i) k j (omega arith) ∙ ap (fresh_cell n) (let e : suc i + j ≡ i + suc j = omega arith in e)

pub upto : ℕ → ℕ → List ℕ
upto i zero = []
upto i (suc k) = i ∷ upto (suc i) k

times_upto : (i k d : ℕ) → ((i ≤ d) × (d < i + k) × (times d (upto i k) ≡ 1)) ⊎ ((i ≤ d → i + k ≤ d) × (times d (upto i k) ≡ 0))
unfolding upto
times_upto i zero d = inr (λ l. omega arith, refl)
times_upto i (suc k) d = ⊎_elim
    (λ p. ⊎_elim
    (λ q. inl (omega (arith, q.0), omega (arith, q.1), omega (arith, q.2, hit_other d i (λ e. omega (arith, q.0, p.0)))))
    (λ q. inl (omega (arith, p.0), omega (arith, p.0), omega (arith, q.1, p.1)))
    (times_upto (suc i) k d))
    (λ p. ⊎_elim
    (λ q. inl (omega (arith, q.0), omega (arith, q.1), omega (arith, q.2, p.1)))
    (λ q. inr (λ l. ⊎_elim (λ z. omega (arith, q.0 z)) (λ z. absurd (p.0 (omega arith))) (cases_lt i d), omega (arith, q.1, p.1)))
    (times_upto (suc i) k d))
    (hit_cases d i)

module _ (n : ℕ) (some : 0 < n) (most : n ≤ 4096) where
  cells : List Cell
  cells = fresh_from n 0 n

  size : length cells ≡ n
  unfolding cells
  size = fresh_length n 0 n

  here : (j : ℕ) → j < n → at cells j ≡ fresh_cell n j
  unfolding cells
  here j l = fresh_at n 0 n j l ∙ ap (fresh_cell n) (let e : 0 + j ≡ j = omega arith in e)

  blank : (d : ℕ) → (next : Option ℕ) × (at cells d ≡ empty 0 next)
  blank d = ⊎_elim (λ l. (cond (eqb (d + 1) n) None (Some (d + 1)), here d l)) (λ l. (None, at_past cells d (omega (arith, size)))) (cases_lt d n)

  count_none : (d : ℕ) → (at cells d).count ≡ 0
  count_none d = ap (λ (x : Cell). x.count) (blank d).1

  links_none : (j d : ℕ) → times d (links_of (at cells j)) ≡ 0
  links_none j d = ap (λ (x : Cell). times d (links_of x)) (blank j).1

  inlinks_none : (d : ℕ) → inlinks d cells ≡ 0
  inlinks_none d = ⊎_elim (λ l. absurd (let r = inlinks_from d cells l in omega (arith, r.2, links_none r.0 d))) (λ l. omega arith) (cases_lt 0 (inlinks d cells))

  head : ℕ → Option ℕ
  head i = cond (eqb i n) None (Some i)

  chain_from : (i k : ℕ) → i + k ≡ n → Chain cells (head i) (upto i k)
  unfolding head upto
  chain_from i zero e = rw (eq-eqb i n (omega arith))
  chain_from i (suc k) e =
      let rest : Chain cells (cond (eqb (suc i) n) None (Some (suc i))) (upto (suc i) k) = chain_from (suc i) k (omega arith) in
      let next : (at cells i).next ≡ cond (eqb (suc i) n) None (Some (suc i)) = ap (λ (x : Cell). x.next) (here i (omega arith)) ∙ ap (λ m. cond (eqb m n) None (Some m)) (add-one i) in
      (rw (ne_eqb i n (λ q. omega arith)), subst (λ o. Chain cells o (upto (suc i) k)) (sym next) rest)

  pub fresh_sound : Sound (fresh n).cells (upto 0 n)
  unfolding cells
  fresh_sound = record {
    some = omega (arith, size);
    most = omega (arith, size);
    shaped = λ c. rw (blank c).1 (record { first = refl; second = refl });
    inside = λ j d h. absurd (omega (arith, links_none j d));
    counted = λ d. omega (arith, count_none d, inlinks_none d);
    each = λ d l z. ⊎_elim (λ p. p.2) (λ p. absurd (omega (arith, p.0 (omega arith), size))) (times_upto 0 n d);
    used = λ d z. absurd (omega (arith, count_none d));
    beyond = λ d l. ⊎_elim (λ p. absurd (omega (arith, p.1, size))) (λ p. p.1) (times_upto 0 n d);
    unlisted = λ d z. absurd (omega (arith, count_none d));
    rank = λ d. 0;
    clock = 1;
    early = λ d. omega arith;
    falls = λ j d h. absurd (omega (arith, links_none j d));
  }

  pub fresh_okay : Okay (fresh n)
  unfolding cells head
  fresh_okay = record { listed = upto 0 n; chain = subst (λ o. Chain cells o (upto 0 n)) (let e : cond (eqb 0 n) None (Some 0) ≡ Some 0 = rw (ne_eqb 0 n (λ q. omega arith)) in e) (chain_from 0 n (omega arith)); sound = fresh_sound }

  pub fresh_out : Out (meaning (fresh n).cells) []
  unfolding cells
  fresh_out d = omega (arith, count_none d)

  pub fresh_tidy : (tidy : Cell → Cell) → ((count : ℕ) (next : Option ℕ) → tidy (empty count next) ≡ empty count next) → Tidy tidy (fresh n).cells
  unfolding cells
  fresh_tidy tidy bare d = rw (blank d).1 (bare 0 (blank d).0)
