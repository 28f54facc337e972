-- What a word says as a number, and why it is none for its field.
use Rattle.std.specs.Prelude.{ℕ, List, Result, Ok, Err, MatchResult}
use Rattle.std.specs.Str.Parse.{IsNumeral, without_leading_sign}
use Rattle.jildorba.specs.declared.numbers.Misfit.{Misfit}
use Rattle.jildorba.specs.declared.numbers.Misfit.TheVariants.{NoNumber, OutOfRange}

-- r has the number that a type's own reading gives for the bytes, or is an error where that is one
abbrev pub Parses : {T E F : Type 0} → (List ℕ → Result T E → Type 0) → List ℕ → Result T F → Type 0
Parses gives bs r = MatchResult r (λ n. gives bs (Ok n)) (λ _. (e : _) × gives bs (Err e))

-- it is digits, after a sign if there is one, or it is not
abbrev pub Tells : List ℕ → Misfit → Type 0
Tells bs NoNumber = IsNumeral 10 (without_leading_sign bs) → ⊥
Tells bs OutOfRange = IsNumeral 10 (without_leading_sign bs)
