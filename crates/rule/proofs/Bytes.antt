-- Numbers in two and four bytes, written and read; the opening of a record, written and read.
use Rattle.std.proofs.Common.{◌≡◌, ℕ, zero, suc, ◌+◌, ◌-◌, ◌*◌, ◌/◌, ◌%◌, ◌<◌, ◌≤◌, ◌||◌, ltb, List, [], ◌∷◌, ◌++◌, length, get_or, take, drop, Ok, Err, Result, sym, refl, ap, ◌∙◌, arith}
use Rattle.std.proofs.lemmas.Bool.{cond_both, cond-false, or_parts, or_from, ltb-false, le-ltb}
use Rattle.std.proofs.lemmas.List.{length-append, length-take, length-drop, take-append-drop, take_at, drop_at, get_or-append-add}
use Rattle.rule.specs.declared.fault.Flaw.{Flaw}
use Rattle.rule.specs.Sheet.{two, four, opened}
use Rattle.rule.specs.Read.{le16, Front, front}

abbrev pub Bytes : List ℕ → Type 0
Bytes xs = (i : ℕ) → get_or xs i 0 < 256

pub two_read : (n : ℕ) → n % 256 + n / 256 * 256 ≡ n
two_read n = omega arith

low : (x y : ℕ) → x < 256 → (x + y * 256) % 256 ≡ x
low x y h = omega arith

pub two_written : (x y n : ℕ) → x < 256 → n ≡ x + y * 256 → two n ≡ x ∷ (y ∷ [])
two_written x y n h e =
    let a : n % 256 ≡ x = omega arith in
    let b : n / 256 ≡ y = omega arith in
    λ i. a i ∷ (b i ∷ [])

pub four_read : (n : ℕ) → n % 256 + n / 256 % 256 * 256 + n / 65536 % 256 * 65536 + n / 16777216 * 16777216 ≡ n
four_read n = omega arith

pub four_written : (w x y z n : ℕ) → w < 256 → x < 256 → y < 256 → n ≡ w + x * 256 + y * 65536 + z * 16777216 → four n ≡ w ∷ (x ∷ (y ∷ (z ∷ [])))
four_written w x y z n hw hx hy e =
    let a : n % 256 ≡ w = omega arith in
    let m : n / 256 ≡ x + (y + z * 256) * 256 = omega arith in
    let b : n / 256 % 256 ≡ x = ap (λ k. k % 256) m ∙ low x (y + z * 256) hx in
    let j : n / 65536 ≡ y + z * 256 = omega arith in
    let c : n / 65536 % 256 ≡ y = ap (λ k. k % 256) j ∙ low y z hy in
    let d : n / 16777216 ≡ z = omega arith in
    λ i. a i ∷ (b i ∷ (c i ∷ (d i ∷ [])))

-- what is written as a record's opening is read as such
pub front_opened : (k : ℕ) (body rest : List ℕ) → front (opened k body ++ rest) ≡ Ok (record { kind = k; body = body; rest = rest })
front_opened k body rest =
    let n : ℕ = le16 (opened k body ++ rest) 0 in
    let len : n ≡ 4 + length body = two_read (4 + length body) in
    let long : length (opened k body ++ rest) ≡ 4 + length body + length rest = omega (arith, length-append body rest) in
    let size : length body ≡ n - 4 = omega (arith, len) in
    let a = le-ltb (length (opened k body ++ rest)) 4 (omega (arith, long)) in
    let b = le-ltb n 4 (omega (arith, len)) in
    let c = le-ltb (length (opened k body ++ rest)) n (omega (arith, long, len)) in
    cond-false _ _ _ (or_from _ _ a (or_from _ _ b c))
    ∙ (λ i. Ok (record { kind = two_read k i; body = take_at body rest (n - 4) size i; rest = drop_at body rest (n - 4) size i }))

-- lists by their first elements
pub from_1 : (b : List ℕ) → 1 ≤ length b → get_or b 0 0 ∷ drop 1 b ≡ b
from_1 [] h = absurd (omega arith)
from_1 (x ∷ b) h = refl

pub from_2 : (b : List ℕ) → 2 ≤ length b → get_or b 0 0 ∷ (get_or b 1 0 ∷ drop 2 b) ≡ b
from_2 [] h = absurd (omega arith)
from_2 (x ∷ b) h = ap (λ z. x ∷ z) (from_1 b (omega arith))

pub from_3 : (b : List ℕ) → 3 ≤ length b → get_or b 0 0 ∷ (get_or b 1 0 ∷ (get_or b 2 0 ∷ drop 3 b)) ≡ b
from_3 [] h = absurd (omega arith)
from_3 (x ∷ b) h = ap (λ z. x ∷ z) (from_2 b (omega arith))

pub from_4 : (b : List ℕ) → 4 ≤ length b → get_or b 0 0 ∷ (get_or b 1 0 ∷ (get_or b 2 0 ∷ (get_or b 3 0 ∷ drop 4 b))) ≡ b
from_4 [] h = absurd (omega arith)
from_4 (x ∷ b) h = ap (λ z. x ∷ z) (from_3 b (omega arith))

pub from_5 : (b : List ℕ) → 5 ≤ length b → get_or b 0 0 ∷ (get_or b 1 0 ∷ (get_or b 2 0 ∷ (get_or b 3 0 ∷ (get_or b 4 0 ∷ drop 5 b)))) ≡ b
from_5 [] h = absurd (omega arith)
from_5 (x ∷ b) h = ap (λ z. x ∷ z) (from_4 b (omega arith))

pub from_6 : (b : List ℕ) → 6 ≤ length b → get_or b 0 0 ∷ (get_or b 1 0 ∷ (get_or b 2 0 ∷ (get_or b 3 0 ∷ (get_or b 4 0 ∷ (get_or b 5 0 ∷ drop 6 b))))) ≡ b
from_6 [] h = absurd (omega arith)
from_6 (x ∷ b) h = ap (λ z. x ∷ z) (from_5 b (omega arith))

pub from_7 : (b : List ℕ) → 7 ≤ length b → get_or b 0 0 ∷ (get_or b 1 0 ∷ (get_or b 2 0 ∷ (get_or b 3 0 ∷ (get_or b 4 0 ∷ (get_or b 5 0 ∷ (get_or b 6 0 ∷ drop 7 b)))))) ≡ b
from_7 [] h = absurd (omega arith)
from_7 (x ∷ b) h = ap (λ z. x ∷ z) (from_6 b (omega arith))

-- parts of bytes are bytes
pub bytes_right : (xs ys : List ℕ) → Bytes (xs ++ ys) → Bytes ys
bytes_right xs ys h i = rw (get_or-append-add xs ys i 0) at (h (length xs + i))

pub bytes_left : (xs ys : List ℕ) → Bytes (xs ++ ys) → Bytes xs
bytes_left [] ys h i = omega arith
bytes_left (x ∷ xs) ys h zero = h 0
bytes_left (x ∷ xs) ys h (suc i) = bytes_left xs ys (λ j. h (suc j)) i

-- what is read as a record's opening was written as such
opening : (w x y z : ℕ) (ys : List ℕ) (n k : ℕ) → w < 256 → y < 256 → n ≡ w + x * 256 → k ≡ y + z * 256 → 4 ≤ n → n ≤ 4 + length ys
    → opened k (take (n - 4) ys) ++ drop (n - 4) ys ≡ w ∷ (x ∷ (y ∷ (z ∷ ys)))
opening w x y z ys n k hw hy en ek lo hi =
    let long : 4 + length (take (n - 4) ys) ≡ n = omega (arith, length-take (n - 4) ys) in
    let a = two_written w x (4 + length (take (n - 4) ys)) hw (omega arith) in
    let b = two_written y z k hy ek in
    let c = take-append-drop (n - 4) ys in
    (λ i. a i ++ b i ++ take (n - 4) ys ++ drop (n - 4) ys) ∙ ap (λ l. w ∷ (x ∷ (y ∷ (z ∷ l)))) c

abbrev pub Fronted : List ℕ → Result Front Flaw → Type 0
Fronted xs (Ok o) = xs ≡ opened o.kind o.body ++ o.rest
Fronted xs (Err e) = Unit {0}

pub fronted : (xs : List ℕ) → Bytes xs → Fronted xs (front xs)
fronted xs h =
    let n : ℕ = le16 xs 0 in
    cond_both (ltb (length xs) 4 || (ltb n 4 || ltb (length xs) n)) _ _ (Fronted xs) (λ _. tt)
    (λ e.
    let p = or_parts (ltb (length xs) 4) _ e in
    let q = or_parts (ltb n 4) _ p.1 in
    let long = ltb-false (length xs) 4 p.0 in
    let low = ltb-false n 4 q.0 in
    let high = ltb-false (length xs) n q.1 in
    sym (opening (get_or xs 0 0) (get_or xs 1 0) (get_or xs 2 0) (get_or xs 3 0) (drop 4 xs) n (le16 xs 2) (h 0) (h 2) refl refl low (omega (arith, length-drop 4 xs, long, high)) ∙ from_4 xs long))
