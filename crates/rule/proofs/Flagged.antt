-- Sixteen flags, made and compared.
use Rattle.std.proofs.Common.{◌≡◌, ℕ, zero, suc, ◌+◌, ◌/◌, ◌%◌, ◌^◌, ◌<◌, Bool, true, false, not, ◌||◌, eqb, List, [], ◌∷◌, length, get_or, sym, refl, ap, ◌∙◌, arith}
use mathlib.Core.Bool.{beq}
use Rattle.std.specs.List.{zip, position_from}
use Rattle.std.specs.Int.Bits.{bit_and}
use Rattle.std.proofs.Math.Nat.{div-one}
use Rattle.std.specs.Int.{bit_at}
use Rattle.std.proofs.lemmas.Nat.Bits.{shr_and_one, bit_at-suc}
use Rattle.rule.specs.Check.{bits, either, differing}

pub length-bits : (n m : ℕ) → length (bits n m) ≡ n
length-bits zero m = refl
length-bits (suc n) m = omega (arith, length-bits n (m / 2))

pub bits_at : (n m k : ℕ) (d : Bool) → k < n → get_or (bits n m) k d ≡ eqb (bit_and (m / 2 ^ k) 1) 1
bits_at n m k d l = by n m k l ∙ ap (λ q. eqb q 1) (sym (shr_and_one m k))
  where
    by : (n m k : ℕ) → k < n → get_or (bits n m) k d ≡ eqb (bit_at m k) 1
    by zero m k l = absurd (omega (arith, l))
    by (suc n) m zero l = ap (λ q. eqb (q % 2) 1) (sym (div-one m))
    by (suc n) m (suc k) l = by n (m / 2) k (omega (arith, l)) ∙ ap (λ q. eqb q 1) (sym (bit_at-suc m k))

pub length-either : (a b : List Bool) → length (either a b) ≡ length a
length-either [] b = refl
length-either (x ∷ a) [] = refl
length-either (x ∷ a) (y ∷ b) = omega (arith, length-either a b)

pub either_at : (a b : List Bool) (k : ℕ) (d : Bool) → k < length a → k < length b → get_or (either a b) k d ≡ (get_or a k false || get_or b k false)
either_at [] b k d l h = absurd (omega (arith, l))
either_at (x ∷ a) [] k d l h = absurd (omega (arith, h))
either_at (x ∷ a) (y ∷ b) zero d l h = refl
either_at (x ∷ a) (y ∷ b) (suc k) d l h = either_at a b k d (omega (arith, l)) (omega (arith, h))

-- the first pair of flags that differ
pub differing_is : (a b : List Bool) (r : ℕ) → position_from (λ (x : Bool × Bool). not (beq x.0 x.1)) r (zip a b) ≡ differing r a b
differing_is [] b r = refl
differing_is (x ∷ a) [] r = refl
differing_is (true ∷ a) (true ∷ b) r = ap (λ i. position_from (λ (x : Bool × Bool). not (beq x.0 x.1)) i (zip a b)) (omega arith) ∙ differing_is a b (suc r)
differing_is (false ∷ a) (false ∷ b) r = ap (λ i. position_from (λ (x : Bool × Bool). not (beq x.0 x.1)) i (zip a b)) (omega arith) ∙ differing_is a b (suc r)
differing_is (true ∷ a) (false ∷ b) r = refl
differing_is (false ∷ a) (true ∷ b) r = refl
