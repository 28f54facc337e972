-- The tests of a rule, record by record: which record is the first to fail, and which of its tests.
use Rattle.std.specs.Prelude.{◌≡◌, ℕ, ◌+◌, ◌<◌, ◌≤◌, Bool, List, [], ◌∷◌, ◌++◌, get_or, Some, None, Ok, Err, Option, Result, slice_index_or}
use Rattle.rule.specs.declared.fault.Flaw.{Flaw}
use Rattle.rule.specs.declared.fault.Spot.{Spot}
use Rattle.rule.specs.declared.fault.RuleFault.TheVariants.{Flawed}
use Rattle.rule.specs.Sheet.{Head}
use Rattle.rule.specs.Read.{head_at, Tree, step, fork, done, broken, tree}
use Rattle.bench.specs.Tests.{after_touches, first}
use Rattle.rule.specs.Check.{Claims, marked, step_marks, step_links, step_touches, fork_marks, fork_links, fork_touches, record_flaws, head_flaw, done_flaw, size, too_many, too_deep, answer}

-- the record that begins at a place, and how its tests end, in their order
pub record Trial : Type 0 where
  pub place : ℕ
  pub outcomes : List (Option Flaw)

unfoldable pub trials_in : Claims → Tree → ℕ → ℕ → List Bool → List Trial
trials_in h (step p s k) n d used = record { place = p; outcomes = too_many n ∷ record_flaws h.own (step_marks s) (step_links s) (step_touches s) used } ∷ trials_in h k (n + 1) d (after_touches (step_touches s) used)
trials_in h (fork p f ya na) n d used = record { place = p; outcomes = too_many n ∷ (too_deep d ∷ record_flaws h.own (fork_marks f) (fork_links f) (fork_touches f) used) }
    ∷ (trials_in h ya (n + 1) (d + 1) (after_touches (fork_touches f) used) ++ trials_in h na (n + 1 + size ya) (d + 1) used)
trials_in h (done p) n d used = record { place = p; outcomes = too_many n ∷ (done_flaw h.out used ∷ []) } ∷ []
trials_in h (broken p e) n d used = record { place = p; outcomes = too_many n ∷ (Some e ∷ []) } ∷ []

abbrev pub by_head_trials : Result (Head × List ℕ) Flaw → List Trial
by_head_trials (Ok p) = record { place = 0; outcomes = head_flaw p.0 ∷ [] } ∷ trials_in (record { own = marked p.0.own; out = marked p.0.leave }) (tree 10 p.1) 1 0 (marked p.0.enter)
by_head_trials (Err e) = record { place = 0; outcomes = Some e ∷ [] } ∷ []

-- the head's, then the block's, record by record
abbrev pub trials : List ℕ → List Trial
trials xs = by_head_trials (head_at xs)

-- records come in the order in which they stand: no place is below the one before it
abbrev pub Rising : ℕ → List Trial → Type 0
Rising low [] = Unit {0}
Rising low (t ∷ ts) = (low ≤ t.place) × Rising t.place ts

abbrev pub AllPass : List Trial → Type 0
AllPass [] = Unit {0}
AllPass (t ∷ ts) = (first t.outcomes ≡ None) × AllPass ts

-- the i-th is the flaw, and none before it
pub record FirstIn (outcomes : List (Option Flaw)) (e : Flaw) : Type 0 where
  pub which : ℕ
  pub fails : get_or outcomes which None ≡ Some e
  pub before : (j : ℕ) → j < which → slice_index_or outcomes j None ≡ None

-- the record at the place is the first that fails a test, and the flaw its first test that fails
pub record FirstFailing (ts : List Trial) (s : Spot) : Type 0 where
  pub before : List Trial
  pub outcomes : List (Option Flaw)
  pub later : List Trial
  pub split : ts ≡ before ++ (record { place = s.place; outcomes = outcomes } ∷ later)
  pub passed : AllPass before
  pub failed : FirstIn outcomes s.flaw

-- the law of the check's faults
pub record FaultsFirst (xs : List ℕ) : Type 0 where
  pub order : Rising 0 (trials xs)
  pub fault : (s : Spot) → answer xs ≡ Err (Flawed s) → FirstFailing (trials xs) s
  pub count : (n : ℕ) → answer xs ≡ Ok n → AllPass (trials xs)

abbrev pub FirstFails : Type 0
FirstFails = (xs : List ℕ) → FaultsFirst xs
