-- What the check answers for a block, by its first record.
use Rattle.std.proofs.Common.{◌≡◌, ℕ, suc, ◌+◌, ◌<◌, ◌≤◌, Bool, List, [], ◌∷◌, ◌++◌, map, Some, None, Ok, Err, Option, Result, refl, ap, ◌∙◌, arith}
use Rattle.std.proofs.lemmas.Bool.{lt-ltb, le-ltb}
use Rattle.rule.specs.declared.fault.Flaw.{Flaw}
use Rattle.rule.specs.declared.fault.Flaw.TheVariants.{TooMany, TooDeep}
use Rattle.rule.specs.declared.fault.Spot.{Spot}
use Rattle.rule.specs.Sheet.{Step, Fork}
use Rattle.rule.specs.Read.{Tree, step, fork, done, broken}
use Rattle.bench.specs.Tests.{after_touches, first}
use Rattle.rule.specs.Check.{Claims, step_marks, step_links, step_touches, fork_marks, fork_links, fork_touches, record_flaws, done_flaw, size, too_many, too_deep, unless, at_place, tests, verdict, block_answer}
use Rattle.rule.proofs.Tested.{first_on, first_stop}
use Rattle.rule.proofs.Firsts.{placed_first}

abbrev spot : ℕ → Flaw → Spot
spot p e = record { place = p; flaw = e }

-- the place of the first record
abbrev pub place_of : Tree → ℕ
place_of (step p s k) = p
place_of (fork p f a b) = p
place_of (done p) = p
place_of (broken p e) = p

placed_some : (p : ℕ) (xs : List (Option Flaw)) (f : Flaw) → first xs ≡ Some f → first (map (at_place p) xs) ≡ Some (spot p f)
placed_some p [] f e = cc
placed_some p (None ∷ xs) f e = placed_some p xs f e
placed_some p (Some x ∷ xs) f e = cc

-- n records before are too many
over : (n : ℕ) → 1024 ≤ n → too_many n ≡ Some TooMany
over n h = ap (λ b. unless b TooMany) (le-ltb n 1024 h)

under : (n : ℕ) → n < 1024 → too_many n ≡ None
under n h = ap (λ b. unless b TooMany) (lt-ltb n 1024 h)

module _ (h : Claims) where
  pub answer_many : (t : Tree) (n d : ℕ) (u : List Bool) → 1024 ≤ n → block_answer h t n d u ≡ Err (spot (place_of t) TooMany)
  unfolding tests
  answer_many (step p s k) n d u l = ap (λ (o : Option Flaw). verdict (n + size (step p s k)) (first (at_place p o ∷ (map (at_place p) (record_flaws h.own (step_marks s) (step_links s) (step_touches s) u) ++ tests h k (n + 1) d (after_touches (step_touches s) u))))) (over n l)
  answer_many (fork p f a b) n d u l = ap (λ (o : Option Flaw). verdict (n + size (fork p f a b)) (first (at_place p o ∷ (map (at_place p) (too_deep d ∷ record_flaws h.own (fork_marks f) (fork_links f) (fork_touches f) u)
      ++ (tests h a (n + 1) (d + 1) (after_touches (fork_touches f) u) ++ tests h b (n + 1 + size a) (d + 1) u))))) (over n l)
  answer_many (done p) n d u l = ap (λ (o : Option Flaw). verdict (n + size (done p)) (first (at_place p o ∷ map (at_place p) (done_flaw h.out u ∷ [])))) (over n l)
  answer_many (broken p e) n d u l = ap (λ (o : Option Flaw). verdict (n + size (broken p e)) (first (at_place p o ∷ map (at_place p) (Some e ∷ [])))) (over n l)

  -- there is room for this record
  module _ (n d : ℕ) (u : List Bool) (l : n < 1024) where
    pub answer_broken : (p : ℕ) (e : Flaw) → block_answer h (broken p e) n d u ≡ Err (spot p e)
    unfolding tests
    answer_broken p e = ap (λ (o : Option Flaw). verdict (n + size (broken p e)) (first (at_place p o ∷ map (at_place p) (Some e ∷ [])))) (under n l)

    pub answer_done : (p : ℕ) → block_answer h (done p) n d u ≡ verdict (n + 1) (at_place p (done_flaw h.out u))
    unfolding tests size
    answer_done p = ap (λ (o : Option Flaw). verdict (n + 1) (first (at_place p o ∷ map (at_place p) (done_flaw h.out u ∷ [])))) (under n l) ∙ ap (verdict (n + 1)) (alone (at_place p (done_flaw h.out u)))
      where
        alone : (o : Option Spot) → first (o ∷ []) ≡ o
        alone None = refl
        alone (Some x) = refl

    module _ (p : ℕ) (s : Step) (k : Tree) where
      own : List (Option Flaw)
      own = record_flaws h.own (step_marks s) (step_links s) (step_touches s) u

      here : block_answer h (step p s k) n d u ≡ verdict (n + size (step p s k)) (first (map (at_place p) own ++ tests h k (n + 1) d (after_touches (step_touches s) u)))
      unfolding tests own
      here = ap (λ (o : Option Flaw). verdict (n + size (step p s k)) (first (at_place p o ∷ (map (at_place p) own ++ tests h k (n + 1) d (after_touches (step_touches s) u))))) (under n l)

      pub answer_flaw : (f : Flaw) → first (record_flaws h.own (step_marks s) (step_links s) (step_touches s) u) ≡ Some f → block_answer h (step p s k) n d u ≡ Err (spot p f)
      unfolding own
      answer_flaw f e = here ∙ ap (verdict (n + size (step p s k))) (first_stop (map (at_place p) own) (tests h k (n + 1) d (after_touches (step_touches s) u)) (spot p f) (placed_some p own f e))

      pub answer_step : first (record_flaws h.own (step_marks s) (step_links s) (step_touches s) u) ≡ None → block_answer h (step p s k) n d u ≡ block_answer h k (n + 1) d (after_touches (step_touches s) u)
      unfolding own size
      answer_step e = here ∙ ap (verdict (n + size (step p s k))) (first_on (map (at_place p) own) (tests h k (n + 1) d (after_touches (step_touches s) u)) (placed_first p own e))
          ∙ (let z : n + suc (size k) ≡ n + 1 + size k = omega arith in ap (λ m. verdict m (first (tests h k (n + 1) d (after_touches (step_touches s) u)))) z)

    module _ (p : ℕ) (f : Fork) (a b : Tree) where
      forks : List (Option Flaw)
      forks = record_flaws h.own (fork_marks f) (fork_links f) (fork_touches f) u

      arms : List (Option Spot)
      arms = tests h a (n + 1) (d + 1) (after_touches (fork_touches f) u) ++ tests h b (n + 1 + size a) (d + 1) u

      fork_here : block_answer h (fork p f a b) n d u ≡ verdict (n + size (fork p f a b)) (first (at_place p (too_deep d) ∷ (map (at_place p) forks ++ arms)))
      unfolding tests forks arms
      fork_here = ap (λ (o : Option Flaw). verdict (n + size (fork p f a b)) (first (at_place p o ∷ (at_place p (too_deep d) ∷ (map (at_place p) forks ++ arms))))) (under n l)

      pub answer_deep : 16 ≤ d → block_answer h (fork p f a b) n d u ≡ Err (spot p TooDeep)
      answer_deep e = fork_here ∙ ap (λ (o : Bool). verdict (n + size (fork p f a b)) (first (at_place p (unless o TooDeep) ∷ (map (at_place p) forks ++ arms)))) (le-ltb d 16 e)

      module _ (shallow : d < 16) where
        fork_on : block_answer h (fork p f a b) n d u ≡ verdict (n + size (fork p f a b)) (first (map (at_place p) forks ++ arms))
        fork_on = fork_here ∙ ap (λ (o : Bool). verdict (n + size (fork p f a b)) (first (at_place p (unless o TooDeep) ∷ (map (at_place p) forks ++ arms)))) (lt-ltb d 16 shallow)

        pub fork_flaw : (e : Flaw) → first (record_flaws h.own (fork_marks f) (fork_links f) (fork_touches f) u) ≡ Some e → block_answer h (fork p f a b) n d u ≡ Err (spot p e)
        unfolding forks
        fork_flaw e q = fork_on ∙ ap (verdict (n + size (fork p f a b))) (first_stop (map (at_place p) forks) arms (spot p e) (placed_some p forks e q))

        module _ (q : first (record_flaws h.own (fork_marks f) (fork_links f) (fork_touches f) u) ≡ None) where
          fork_arms : block_answer h (fork p f a b) n d u ≡ verdict (n + size (fork p f a b)) (first arms)
          unfolding forks
          fork_arms = fork_on ∙ ap (verdict (n + size (fork p f a b))) (first_on (map (at_place p) forks) arms (placed_first p forks q))

          -- the yes arm is refused
          pub fork_yes : (x : Spot) → block_answer h a (n + 1) (d + 1) (after_touches (fork_touches f) u) ≡ Err x → block_answer h (fork p f a b) n d u ≡ Err x
          unfolding arms
          fork_yes x e = fork_arms ∙ ap (verdict (n + size (fork p f a b))) (first_stop (tests h a (n + 1) (d + 1) (after_touches (fork_touches f) u)) (tests h b (n + 1 + size a) (d + 1) u) x (was_err (n + 1 + size a) _ x e))
            where
              was_err : (m : ℕ) (o : Option Spot) (x : Spot) → verdict m o ≡ Err x → o ≡ Some x
              was_err m None x e = cc
              was_err m (Some y) x e = cc

          -- it is passed, and the no arm decides
          pub fork_no : (m : ℕ) → block_answer h a (n + 1) (d + 1) (after_touches (fork_touches f) u) ≡ Ok m → block_answer h (fork p f a b) n d u ≡ block_answer h b m (d + 1) u
          unfolding arms size
          fork_no m e =
              let o = was_ok (n + 1 + size a) (first (tests h a (n + 1) (d + 1) (after_touches (fork_touches f) u))) m e in
              fork_arms ∙ ap (verdict (n + size (fork p f a b))) (first_on (tests h a (n + 1) (d + 1) (after_touches (fork_touches f) u)) (tests h b (n + 1 + size a) (d + 1) u) o.0)
              ∙ (let z : n + suc (size a + size b) ≡ n + 1 + size a + size b = omega arith in ap (λ j. verdict j (first (tests h b (n + 1 + size a) (d + 1) u))) z)
              ∙ ap (λ j. block_answer h b j (d + 1) u) o.1
            where
              was_ok : (m : ℕ) (o : Option Spot) (k : ℕ) → verdict m o ≡ Ok k → (o ≡ None) × (m ≡ k)
              was_ok m None k e = (refl, same e)
                where
                  same : ◌≡◌ {A = Result ℕ Spot} (Ok m) (Ok k) → m ≡ k
                  same q = cc
              was_ok m (Some y) k e = let z : ◌≡◌ {A = ℕ} 0 1 = cc in absurd (omega (arith, z))
