-- Which rules the sheet allows, in its own words: the writing of a tree of records that fits and whose every path goes well.
use Rattle.std.specs.Prelude.{◌≡◌, ℕ, suc, ◌+◌, ◌<◌, ◌≤◌, Bool, true, false, ◌⊎◌, ◌↔◌, List, [], ◌∷◌, length, Some, None, Ok, Option, FitsSigned, slice_index, slice_set}
use Rattle.std.specs.Int.{w32}
use Rattle.bench.specs.declared.call.Touch.{Touch}
use Rattle.bench.specs.declared.call.Touch.TheVariants.{Use, Spend, Fill}
use Rattle.bench.specs.Tests.{in_use}
use Rattle.rule.specs.declared.mark.Mark.{Mark}
use Rattle.rule.specs.declared.mark.Mark.TheVariants.{Root, Link, Slot}
use Rattle.rule.specs.Sheet.{Head, Step, make, copy, release, rebuild, put, sum, difference, look, Block, step, fork, done, rule_bytes, records}
use Rattle.rule.specs.Check.{marked, step_marks, fork_marks, step_links, fork_links, step_touches, fork_touches, answer}

-- a field names a root that the rule owns, or a slot; a link's root may be 255
abbrev pub FitsMark : List Bool → Mark → Type 0
FitsMark own (Root r) = (r < 16) × (in_use own r ≡ true)
FitsMark own (Link r) = ((r < 16) × (in_use own r ≡ true)) ⊎ (r ≡ 255)
FitsMark own (Slot s) = s < 8

abbrev pub FitAll : List Bool → List Mark → Type 0
FitAll own [] = Unit {0}
FitAll own (m ∷ ms) = FitsMark own m × FitAll own ms

-- a value has 32 bits
abbrev pub FitsValue : Step → Type 0
FitsValue (put s v) = FitsSigned w32 v
FitsValue (make d k s a b) = Unit {0}
FitsValue (copy s d) = Unit {0}
FitsValue (release r) = Unit {0}
FitsValue (rebuild r k s a b) = Unit {0}
FitsValue (sum t x y) = Unit {0}
FitsValue (difference t x y) = Unit {0}
FitsValue (look r s) = Unit {0}

-- every record's fields fit, and the roots for links fit the kind
abbrev pub Fits : List Bool → Block → Type 0
Fits own (step s k) = (FitAll own (step_marks s) × (step_links s ≡ true) × FitsValue s) × Fits own k
Fits own (fork f a b) = (FitAll own (fork_marks f) × (fork_links f ≡ true)) × Fits own a × Fits own b
Fits own done = Unit {0}

-- roots are in use where they are used, and empty where they are filled; u are in use before, v after
abbrev pub Moves : List (Option Touch) → List Bool → List Bool → Type 0
Moves [] u v = v ≡ u
Moves (None ∷ ts) u v = Moves ts u v
Moves (Some (Use r) ∷ ts) u v = (in_use u r ≡ true) × Moves ts u v
Moves (Some (Spend r) ∷ ts) u v = (in_use u r ≡ true) × Moves ts (slice_set u r false) v
Moves (Some (Fill r) ∷ ts) u v = (in_use u r ≡ false) × Moves ts (slice_set u r true) v

-- so along every path, and done finds exactly out. A yes arm begins after what its fork does to roots, a no arm before
abbrev pub Ways : List Bool → Block → List Bool → Type 0
Ways out (step s k) u = (v : List Bool) × Moves (step_touches s) u v × Ways out k v
Ways out (fork f a b) u = ((v : List Bool) × Moves (fork_touches f) u v × Ways out a v) × Ways out b u
Ways out done u = u ≡ out

-- no match or test stands inside 16 others; the block stands inside d
abbrev pub Shallow : ℕ → Block → Type 0
Shallow d (step s k) = Shallow d k
Shallow d (fork f a b) = (d < 16) × Shallow (d + 1) a × Shallow (d + 1) b
Shallow d done = Unit {0}

-- the bytes xs write a rule of n records, head counted, that is allowed
pub record Allowed (xs : List ℕ) (n : ℕ) : Type 0 where
  pub head : Head
  pub block : Block
  pub bytes : xs ≡ rule_bytes head block
  pub count : n ≡ suc (records block)
  pub short : length xs ≤ 4096
  pub few : n ≤ 1024
  pub shallow : Shallow 0 block
  pub owned : (r : ℕ) → (in_use (marked head.enter) r ≡ true) ⊎ (in_use (marked head.leave) r ≡ true) → in_use (marked head.own) r ≡ true
  pub fits : Fits (marked head.own) block
  pub ways : Ways (marked head.leave) block (marked head.enter)

-- the check passes exactly the allowed rules, and answers their number of records
abbrev pub PassesExactly : Type 0
PassesExactly = (xs : List ℕ) → ((i : ℕ) → slice_index xs i < 256) → (n : ℕ) → (answer xs ≡ Ok n) ↔ Allowed xs n
