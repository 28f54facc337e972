-- Bytes written in hexadecimal digits, two a byte.
use Rattle.std.specs.Prelude.{◌≡◌, ℕ, ◌+◌, ◌*◌, ◌<◌, List, [], ◌∷◌, ◌++◌, Ok, Err, Result}
use Rattle.std.specs.Char.{digit_value}
use Rattle.jildorba.specs.declared.unreadable.Misread.{Misread}
use Rattle.jildorba.specs.declared.unreadable.Misread.TheVariants.{NoMemory, Unreadable}

-- a byte, the high digit first
abbrev pub byte : ℕ → ℕ → ℕ
byte h l = digit_value h * 16 + digit_value l

abbrev pub Digit : ℕ → Type 0
Digit c = digit_value c < 16

-- the characters are digits, in pairs
abbrev pub Hex : List ℕ → Type 0
Hex [] = Unit {0}
Hex (h ∷ []) = ⊥
Hex (h ∷ (l ∷ cs)) = (Digit h × Digit l) × Hex cs

-- the bytes that they write
abbrev pub bytes : List ℕ → List ℕ
bytes [] = []
bytes (h ∷ []) = []
bytes (h ∷ (l ∷ cs)) = byte h l ∷ bytes cs

-- the bytes of a word are appended; or it is refused, if it is not such a word
abbrev pub Appended : List ℕ → List ℕ → List ℕ → Result (Unit {0}) Misread → Type 0
Appended before word after (Ok t) = Hex word × (after ≡ before ++ bytes word)
Appended before word after (Err (NoMemory e)) = Unit {0}
Appended before word after (Err (Unreadable e)) = Hex word → ⊥
