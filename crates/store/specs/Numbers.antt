-- Cell numbers in lists, counted as often as they stand there.
use Rattle.std.specs.Prelude.{ℕ, zero, suc, ◌+◌, ◌<◌, cond, List, [], ◌∷◌, Some, None, Option, ◌==◌}

-- 1 where the two are one number, else 0
abbrev pub hit : ℕ → ℕ → ℕ
hit a b = cond (a == b) 1 0

-- how often c stands in a list
abbrev pub times : ℕ → List ℕ → ℕ
times c [] = 0
times c (x ∷ xs) = hit c x + times c xs

abbrev pub In : ℕ → List ℕ → Type 0
In c xs = 0 < times c xs

-- a number that may be missing, as a list
abbrev pub opt : Option ℕ → List ℕ
opt None = []
opt (Some c) = c ∷ []

-- what stands at a place of a list, if anything does
abbrev pub item : List ℕ → ℕ → Option ℕ
item [] k = None
item (x ∷ xs) zero = Some x
item (x ∷ xs) (suc k) = item xs k
