-- The kinds of records, and their numbers.
use Rattle.std.specs.Prelude.{◌≡◌, ℕ, ◌<◌, ◌⊎◌, Ok, Err, Result}
use Rattle.rule.specs.declared.fault.Flaw.{Flaw}
use Rattle.rule.specs.declared.fault.Flaw.TheVariants as flaw
use Rattle.rule.specs.declared.record.Kind.{Kind}
use Rattle.rule.specs.declared.record.Kind.TheVariants.{Head, Make, Copy, Release, Rebuild, Set, Sum, Difference, Look, Match, Test, Done}

abbrev pub kind_number : Kind → ℕ
kind_number Head = 1
kind_number Make = 2
kind_number Copy = 3
kind_number Release = 4
kind_number Rebuild = 5
kind_number Set = 6
kind_number Sum = 7
kind_number Difference = 8
kind_number Look = 9
kind_number Match = 10
kind_number Test = 11
kind_number Done = 12

-- a number and what is read of it: the kind that it stands for, or else none
abbrev pub Reads : ℕ → Result Kind Flaw → Type 0
Reads n (Ok k) = kind_number k ≡ n
Reads n (Err e) = (e ≡ flaw.Kind) × ((n ≡ 0) ⊎ (12 < n))
