-- The parts of a script.
use Rattle.std.specs.Prelude.{◌≡◌, ℕ, ◌+◌, ◌<◌, ◌≤◌, Some, None, Option}
use Rattle.jildorba.specs.declared.part.Part.{Part}

-- a further part begins after line i of n, if there is one
abbrev pub Onward : ℕ → ℕ → Option Part → Type 0
Onward i n None = Unit {0}
Onward i n (Some p) = (i < p.start) × (p.start ≤ n)

-- a part that line i opens begins after it
abbrev pub OpensAfter : ℕ → Option Part → Type 0
OpensAfter i None = Unit {0}
OpensAfter i (Some p) = p.start ≡ i + 1
