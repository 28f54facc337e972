-- Bytes that are all digits.
use Rattle.std.proofs.Common.{◌≡◌, ℕ, List, [], ◌∷◌, true, ◌&&◌, refl, ap, ◌↔◌}
use Rattle.std.specs.List.{list_all}
use Rattle.std.specs.Char.{is_ascii_digit}
use Rattle.std.specs.Str.{all_ascii_digits}
use Rattle.std.specs.Str.Parse.{AllDigits}
use Rattle.std.proofs.lemmas.Str.Parse.{numerals_by_value, tells_all_ascii_digits}

each_digit : (bs : List ℕ) → list_all is_ascii_digit bs ≡ all_ascii_digits bs
each_digit [] = refl
each_digit (b ∷ bs) = ap (λ t. is_ascii_digit b && t) (each_digit bs)

-- the test of each byte
pub told : (bs : List ℕ) → (list_all is_ascii_digit bs ≡ true) ↔ AllDigits 10 bs
told bs =
    let m = numerals_by_value _ tells_all_ascii_digits
    in rw (each_digit bs) (m.to bs, m.from bs)
