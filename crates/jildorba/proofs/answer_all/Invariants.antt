use Rattle.std.proofs.Common.{ℕ, ◌+◌, ◌-◌, length, Some, None, Option}
use Rattle.jildorba.specs.declared.part.Part.{Part}
use Rattle.jildorba.proofs.answer_all.Given as goal

-- of n lines those from a part on, and one for the part itself
abbrev left : ℕ → Option Part → ℕ
left n None = 0
left n (Some p) = n - p.start + 1

abbrev pub decreases-loop-next : goal.decreases-loop-next
decreases-loop-next l = left (length l.script) l.next
