-- The check's fault is the first test that fails of the first record that fails one.
use Rattle.std.proofs.Common.{◌≡◌, ℕ, zero, suc, ◌+◌, ◌-◌, ◌<◌, ◌≤◌, Bool, true, false, cond, ltb, ◌⊎◌, List, [], ◌∷◌, ◌++◌, map, length, get_or, Some, None, Ok, Err, Option, Result, sym, refl, ap, ◌∙◌, subst, inl, inr, ⊎_elim, append_assoc, append-nil, arith}
use Rattle.rule.specs.declared.fault.Flaw.{Flaw}
use Rattle.rule.specs.declared.fault.Spot.{Spot}
use Rattle.rule.specs.declared.fault.RuleFault.{RuleFault}
use Rattle.rule.specs.declared.fault.RuleFault.TheVariants.{TooLong, Flawed}
use Rattle.rule.specs.Sheet.{Head}
use Rattle.rule.specs.Read.{Rec, plain, branch, last, record_at, head_at, Tree, step, fork, done, broken, closed, before_arms, grown, tree}
use Rattle.bench.specs.Tests.{after_touches, first}
use Rattle.rule.specs.Check.{Claims, marked, head_flaw, too_many, too_deep, record_flaws, step_marks, step_links, fork_marks, fork_links, step_touches, fork_touches, size, at_place, tests, verdict, by_head, faulted, answer}
use Rattle.rule.specs.Trials.{Trial, trials_in, by_head_trials, Rising, AllPass, FirstIn, FirstFailing, FirstFails}
use Rattle.rule.proofs.Tested.{first_on}
use Rattle.rule.proofs.Firsts.{placed_first}
use Rattle.rule.proofs.Grown.{some_before, shorter, tree_step}

-- all tests in a row
abbrev flat : List Trial → List (Option Spot)
flat [] = []
flat (t ∷ ts) = map (at_place t.place) t.outcomes ++ flat ts

flat_append : (xs ys : List Trial) → flat (xs ++ ys) ≡ flat xs ++ flat ys
flat_append [] ys = refl
flat_append (t ∷ xs) ys = ap (λ (l : List (Option Spot)). map (at_place t.place) t.outcomes ++ l) (flat_append xs ys) ∙ sym (append_assoc (map (at_place t.place) t.outcomes) (flat xs) (flat ys))

flattened : (h : Claims) (t : Tree) (n d : ℕ) (u : List Bool) → tests h t n d u ≡ flat (trials_in h t n d u)
unfolding tests trials_in
flattened h (step p s k) n d u = ap (λ (l : List (Option Spot)). map (at_place p) (too_many n ∷ record_flaws h.own (step_marks s) (step_links s) (step_touches s) u) ++ l) (flattened h k (n + 1) d (after_touches (step_touches s) u))
flattened h (fork p f a b) n d u = ap (λ (l : List (Option Spot)). map (at_place p) (too_many n ∷ (too_deep d ∷ record_flaws h.own (fork_marks f) (fork_links f) (fork_touches f) u)) ++ l)
    ((λ i. flattened h a (n + 1) (d + 1) (after_touches (fork_touches f) u) i ++ flattened h b (n + 1 + size a) (d + 1) u i)
    ∙ sym (flat_append (trials_in h a (n + 1) (d + 1) (after_touches (fork_touches f) u)) (trials_in h b (n + 1 + size a) (d + 1) u)))
flattened h (done p) n d u = sym (append-nil _)
flattened h (broken p e) n d u = sym (append-nil _)

-- the first flaw of a record
first_in : (fs : List (Option Flaw)) (e : Flaw) → first fs ≡ Some e → FirstIn fs e
first_in [] e q = absurd (let z : ◌≡◌ {A = ℕ} 0 1 = cc in omega (arith, z))
first_in (Some x ∷ fs) e q = record { which = 0; fails = q; before = λ j l. absurd (omega (arith, l)) }
first_in (None ∷ fs) e q =
    let r = first_in fs e q in
    record { which = suc r.which; fails = r.fails; before = earlier r.which r.before }
  where
    earlier : (w : ℕ) → ((j : ℕ) → j < w → get_or fs j None ≡ None) → (j : ℕ) → j < suc w → get_or (None ∷ fs) j None ≡ None
    earlier w b zero l = refl
    earlier w b (suc j) l = b j (omega (arith, l))

-- a record passes, or has a first flaw
either_way : (fs : List (Option Flaw)) → (first fs ≡ None) ⊎ ((e : Flaw) × (first fs ≡ Some e))
either_way [] = inl refl
either_way (None ∷ fs) = either_way fs
either_way (Some e ∷ fs) = inr (e, refl)

spot_of : (p : ℕ) (fs : List (Option Flaw)) (rest : List (Option Spot)) (e : Flaw) (s : Spot) → first fs ≡ Some e → first (map (at_place p) fs ++ rest) ≡ Some s → s ≡ record { place = p; flaw = e }
spot_of p [] rest e s q r = cc
spot_of p (None ∷ fs) rest e s q r = spot_of p fs rest e s q r
spot_of p (Some x ∷ fs) rest e s q r = cc

past : (p : ℕ) (fs : List (Option Flaw)) (rest : List (Option Spot)) → first fs ≡ None → first (map (at_place p) fs ++ rest) ≡ first rest
past p fs rest q = first_on (map (at_place p) fs) rest (placed_first p fs q)

failing : (ts : List Trial) (s : Spot) → first (flat ts) ≡ Some s → FirstFailing ts s
failing [] s q = absurd (let z : ◌≡◌ {A = ℕ} 0 1 = cc in omega (arith, z))
failing (t ∷ ts) s q = ⊎_elim
    (λ n.
    let r = failing ts s (sym (past t.place t.outcomes (flat ts) n) ∙ q) in
    record { before = t ∷ r.before; outcomes = r.outcomes; later = r.later; split = ap (λ (l : List Trial). t ∷ l) r.split; passed = (n, r.passed); failed = r.failed })
    (λ w.
    let e = spot_of t.place t.outcomes (flat ts) w.0 s w.1 q in
    record {
      before = [];
      outcomes = t.outcomes;
      later = ts;
      split = ap (λ p. record { place = p; outcomes = t.outcomes } ∷ ts) (sym (ap (λ (x : Spot). x.place) e));
      passed = tt;
      failed = first_in t.outcomes s.flaw (w.1 ∙ ap (λ (x : Spot). Some x.flaw) (sym e));
    })
    (either_way t.outcomes)

passing : (ts : List Trial) → first (flat ts) ≡ None → AllPass ts
passing [] q = tt
passing (t ∷ ts) q = ⊎_elim
    (λ n. (n, passing ts (sym (past t.place t.outcomes (flat ts) n) ∙ q)))
    (λ w. absurd (none t.outcomes w.0 w.1 q))
    (either_way t.outcomes)
  where
    none : (fs : List (Option Flaw)) (e : Flaw) → first fs ≡ Some e → first (map (at_place t.place) fs ++ flat ts) ≡ None → ⊥
    none [] e q r = let z : ◌≡◌ {A = ℕ} 0 1 = cc in omega (arith, z)
    none (None ∷ fs) e q r = none fs e q r
    none (Some x ∷ fs) e q r = let z : ◌≡◌ {A = ℕ} 0 1 = cc in omega (arith, z)

-- places between two, not falling
abbrev Between : ℕ → ℕ → List Trial → Type 0
Between low high [] = low ≤ high
Between low high (t ∷ ts) = (low ≤ t.place) × Between t.place high ts

between_low : (low k high : ℕ) (ts : List Trial) → low ≤ k → Between k high ts → Between low high ts
between_low low k high [] l b = omega (arith, l, b)
between_low low k high (t ∷ ts) l b = (omega (arith, l, b.0), b.1)

between_high : (low high k : ℕ) (ts : List Trial) → high ≤ k → Between low high ts → Between low k ts
between_high low high k [] l b = omega (arith, l, b)
between_high low high k (t ∷ ts) l b = (b.0, between_high t.place high k ts l b.1)

between_append : (low mid high : ℕ) (xs ys : List Trial) → Between low mid xs → Between mid high ys → Between low high (xs ++ ys)
between_append low mid high [] ys a b = between_low low mid high ys a b
between_append low mid high (t ∷ xs) ys a b = (a.0, between_append t.place mid high xs ys a.1 b)

rising : (low high : ℕ) (ts : List Trial) → Between low high ts → Rising low ts
rising low high [] b = tt
rising low high (t ∷ ts) b = (b.0, rising t.place high ts b.1)

abbrev Lies : Claims → ℕ → ℕ → Tree → Type 0
Lies h low high t = (n d : ℕ) (u : List Bool) → Between low high (trials_in h t n d u)

closed_lies : (h : Claims) (p high : ℕ) (t : Tree) (rest : List ℕ) → p ≤ high → Lies h p high t → Lies h p high (closed p t rest)
unfolding trials_in
closed_lies h p high t [] l b = b
closed_lies h p high t (x ∷ xs) l b = λ n d u. (omega arith, l)

-- the records of a block lie between its ends
module _ (h : Claims) where
  abbrev Ih : ℕ → Type 0
  Ih n = (q : ℕ) (ys : List ℕ) → length ys < n → Lies h q (q + length ys) (tree q ys)

  lies_by : (p : ℕ) (xs : List ℕ) → Ih (length xs) → (o : Result (Rec × List ℕ) Flaw) → record_at xs ≡ o → Lies h p (p + length xs) (grown tree p (length xs) o)
  unfolding trials_in
  lies_by p xs ih (Err e) is = λ n d u. (omega arith, omega arith)
  lies_by p xs ih (Ok (plain s, rest)) is = λ n d u.
      (let sh = (shorter xs (plain s) rest is).0 in
      let q = p + (length xs - length rest) in
      let r = ih q rest sh (n + 1) d (after_touches (step_touches s) u) in
      (omega arith, between_low p q (p + length xs) (trials_in h (tree q rest) (n + 1) d (after_touches (step_touches s) u)) (omega arith) (between_high q (q + length rest) (p + length xs) (trials_in h (tree q rest) (n + 1) d (after_touches (step_touches s) u)) (omega (arith, sh)) r)))
  lies_by p xs ih (Ok (branch f a b, rest)) is =
      let sh = (shorter xs (branch f a b) rest is).1 in
      let w = some_before f in
      let q = p + before_arms f in
      closed_lies h p (p + length xs) (fork p f (tree q a) (tree (q + length a) b)) rest (omega arith)
      (λ n d u.
      (let x = trials_in h (tree q a) (n + 1) (d + 1) (after_touches (fork_touches f) u) in
      let y = trials_in h (tree (q + length a) b) (n + 1 + size (tree q a)) (d + 1) u in
      let la : length a < length xs = omega (arith, sh, w) in
      let lb : length b < length xs = omega (arith, sh, w) in (
        omega arith,
        between_low p q (p + length xs) (x ++ y) (omega arith) (between_high q (q + length a + length b) (p + length xs) (x ++ y) (omega (arith, sh))
            (between_append q (q + length a) (q + length a + length b) x y (ih q a la (n + 1) (d + 1) (after_touches (fork_touches f) u)) (ih (q + length a) b lb (n + 1 + size (tree q a)) (d + 1) u))),
      )))
  lies_by p xs ih (Ok (last, rest)) is = closed_lies h p (p + length xs) (done p) rest (omega arith) (λ n d u. (omega arith, omega arith))

  lies : (m p : ℕ) (xs : List ℕ) → length xs < m → Lies h p (p + length xs) (tree p xs)
  lies zero p xs l = absurd (omega (arith, l))
  lies (suc m) p xs l = subst (λ (t : Tree). Lies h p (p + length xs) t) (sym (tree_step p xs)) (lies_by p xs (λ q ys k. lies m q ys (omega (arith, k, l))) (record_at xs) refl)

order : (o : Result (Head × List ℕ) Flaw) → Rising 0 (by_head_trials o)
order (Err e) = (omega arith, tt)
order (Ok (h, rest)) = (omega arith, rising 0 (10 + length rest) _ (between_low 0 10 (10 + length rest) _ (omega arith) (lies _ (suc (length rest)) 10 rest (omega arith) 1 0 _)))

was_spot : (o : Result ℕ Spot) (s : Spot) → faulted o ≡ Err (Flawed s) → o ≡ Err s
was_spot (Ok n) s e = cc
was_spot (Err x) s e = cc

was_count : (o : Result ℕ Spot) (n : ℕ) → faulted o ≡ Ok n → o ≡ Ok n
was_count (Ok m) n e = cc
was_count (Err x) n e = cc

verdict_err : (m : ℕ) (o : Option Spot) (s : Spot) → verdict m o ≡ Err s → o ≡ Some s
verdict_err m None s e = cc
verdict_err m (Some x) s e = cc

verdict_ok : (m : ℕ) (o : Option Spot) (n : ℕ) → verdict m o ≡ Ok n → o ≡ None
verdict_ok m None n e = refl
verdict_ok m (Some x) n e = cc

-- the answer by the head, as tests in a row
head_flat : (h : Head) (rest : List ℕ) (x : Option Spot) → first (x ∷ tests (record { own = marked h.own; out = marked h.leave }) (tree 10 rest) 1 0 (marked h.enter)) ≡ first (x ∷ flat (trials_in (record { own = marked h.own; out = marked h.leave }) (tree 10 rest) 1 0 (marked h.enter)))
head_flat h rest x = ap (λ (l : List (Option Spot)). first (x ∷ l)) (flattened _ (tree 10 rest) 1 0 (marked h.enter))

faults : (o : Result (Head × List ℕ) Flaw) (s : Spot) → by_head o ≡ Err s → FirstFailing (by_head_trials o) s
faults (Err e) s q = failing (by_head_trials (Err e)) s (ap (λ (x : Result ℕ Spot). spot_in x) q)
  where
    spot_in : Result ℕ Spot → Option Spot
    spot_in (Ok n) = None
    spot_in (Err x) = Some x
faults (Ok (h, rest)) s q = failing (by_head_trials (Ok (h, rest))) s (sym (head_flat h rest (at_place 0 (head_flaw h))) ∙ verdict_err _ _ s q)

counts : (o : Result (Head × List ℕ) Flaw) (n : ℕ) → by_head o ≡ Ok n → AllPass (by_head_trials o)
counts (Err e) n q = absurd (let z : ◌≡◌ {A = ℕ} 0 1 = cc in omega (arith, z))
counts (Ok (h, rest)) n q = passing (by_head_trials (Ok (h, rest))) (sym (head_flat h rest (at_place 0 (head_flaw h))) ∙ verdict_ok _ _ n q)

pub first_fails : FirstFails
unfolding answer
first_fails xs = record {
  order = order (head_at xs);
  fault = λ s q. faults (head_at xs) s (was_spot (by_head (head_at xs)) s (short q));
  count = λ n q. counts (head_at xs) n (was_count (by_head (head_at xs)) n (passed q));
}
  where
    by : (b : Bool) (o r : Result ℕ RuleFault) → cond b (Err TooLong) o ≡ r → (r ≡ Err TooLong → ⊥) → o ≡ r
    by true o r q n = absurd (n (sym q))
    by false o r q n = q

    short : {s : Spot} → answer xs ≡ Err (Flawed s) → faulted (by_head (head_at xs)) ≡ Err (Flawed s)
    short {s} q = by (ltb 4096 (length xs)) (faulted (by_head (head_at xs))) (Err (Flawed s)) q (λ e. let z : ◌≡◌ {A = ℕ} 0 1 = cc in omega (arith, z))

    passed : {n : ℕ} → answer xs ≡ Ok n → faulted (by_head (head_at xs)) ≡ Ok n
    passed {n} q = by (ltb 4096 (length xs)) (faulted (by_head (head_at xs))) (Ok n) q (λ e. let z : ◌≡◌ {A = ℕ} 0 1 = cc in omega (arith, z))
