-- How a rule's bytes are read: record by record into a tree, in which what cannot be read is a leaf with its flaw.
use Rattle.std.specs.Prelude.{ℕ, zero, suc, ◌+◌, ◌-◌, ◌*◌, Bool, true, false, cond, ◌&&◌, ◌||◌, List, [], ◌∷◌, length, take, drop, Ok, Err, Result, ◌==◌, nat_le, nat_lt, slice_index}
use Rattle.std.proofs.Common.{to_z}
use Rattle.std.specs.Int.{w32}
use Rattle.rule.specs.declared.fault.Flaw.{Flaw}
use Rattle.rule.specs.declared.fault.Flaw.TheVariants.{Cut, Kind, Length, Trailing}
use Rattle.rule.specs.Sheet.{Head, Step, make, copy, release, rebuild, put, sum, difference, look, Fork, match, test}

-- a record as it is read: arms are still bytes
pub data Rec : Type 0 where
  plain : Step → Rec
  branch : Fork → List ℕ → List ℕ → Rec
  last : Rec

-- whether it closes its block
abbrev pub closes : Rec → Bool
closes (plain s) = false
closes (branch f ya na) = true
closes last = true

abbrev pub le16 : List ℕ → ℕ → ℕ
le16 xs i = slice_index xs i + slice_index xs (i + 1) * 256

abbrev pub le32 : List ℕ → ℕ → ℕ
le32 xs i = slice_index xs i + slice_index xs (i + 1) * 256 + slice_index xs (i + 2) * 65536 + slice_index xs (i + 3) * 16777216

-- the kind of a record, the bytes of its fields, and the bytes after it
pub record Front : Type 0 where
  pub kind : ℕ
  pub body : List ℕ
  pub rest : List ℕ

abbrev pub front : List ℕ → Result Front Flaw
front xs = cond (nat_lt (length xs) 4 || (nat_lt (le16 xs 0) 4 || nat_lt (length xs) (le16 xs 0))) (Err Cut)
    (Ok (record { kind = le16 xs 2; body = take (le16 xs 0 - 4) (drop 4 xs); rest = drop (le16 xs 0 - 4) (drop 4 xs) }))

-- a body of n bytes and no other
abbrev pub sized : ℕ → List ℕ → Rec → Result Rec Flaw
sized n body r = cond (length body == n) (Ok r) (Err Length)

-- the yes arm has n bytes and the no arm the rest, each at least 4
abbrev pub arms : ℕ → List ℕ → Result (List ℕ × List ℕ) Flaw
arms n xs = cond (nat_le 4 n && nat_le (n + 4) (length xs)) (Ok (take n xs, drop n xs)) (Err Length)

abbrev pub branched : Fork → Result (List ℕ × List ℕ) Flaw → Result Rec Flaw
branched f (Ok p) = Ok (branch f p.0 p.1)
branched f (Err e) = Err e

abbrev pub armed : Fork → ℕ → List ℕ → Result Rec Flaw
armed f n xs = branched f (arms n xs)

abbrev pub fields : ℕ → List ℕ → Result Rec Flaw
fields k b =
    cond (k == 2) (sized 5 b (plain (make (slice_index b 0) (slice_index b 1) (slice_index b 2) (slice_index b 3) (slice_index b 4))))
    (cond (k == 3) (sized 2 b (plain (copy (slice_index b 0) (slice_index b 1))))
    (cond (k == 4) (sized 1 b (plain (release (slice_index b 0))))
    (cond (k == 5) (sized 5 b (plain (rebuild (slice_index b 0) (slice_index b 1) (slice_index b 2) (slice_index b 3) (slice_index b 4))))
    (cond (k == 6) (sized 5 b (plain (put (slice_index b 0) (to_z w32 (le32 b 1)))))
    (cond (k == 7) (sized 3 b (plain (sum (slice_index b 0) (slice_index b 1) (slice_index b 2))))
    (cond (k == 8) (sized 3 b (plain (difference (slice_index b 0) (slice_index b 1) (slice_index b 2))))
    (cond (k == 9) (sized 2 b (plain (look (slice_index b 0) (slice_index b 1))))
    (cond (k == 10) (cond (nat_lt (length b) 7) (Err Length) (armed (match (slice_index b 0) (slice_index b 1) (slice_index b 2) (slice_index b 3) (slice_index b 4)) (le16 b 5) (drop 7 b)))
    (cond (k == 11) (cond (nat_lt (length b) 4) (Err Length) (armed (test (slice_index b 0) (slice_index b 1)) (le16 b 2) (drop 4 b)))
    (cond (k == 12) (sized 0 b last)
    (Err Kind)))))))))))

abbrev pub with_rest : {A : Type 0} → Result A Flaw → List ℕ → Result (A × List ℕ) Flaw
with_rest (Ok a) rest = Ok (a, rest)
with_rest (Err e) rest = Err e

abbrev pub opened_record : Result Front Flaw → Result (Rec × List ℕ) Flaw
opened_record (Ok o) = with_rest (fields o.kind o.body) o.rest
opened_record (Err e) = Err e

-- the record at the front
abbrev pub record_at : List ℕ → Result (Rec × List ℕ) Flaw
record_at xs = opened_record (front xs)

abbrev pub head_fields : ℕ → List ℕ → Result Head Flaw
head_fields k b = cond (k == 1) (cond (length b == 6) (Ok (record { enter = le16 b 0; leave = le16 b 2; own = le16 b 4 })) (Err Length)) (Err Kind)

abbrev pub opened_head : Result Front Flaw → Result (Head × List ℕ) Flaw
opened_head (Ok o) = with_rest (head_fields o.kind o.body) o.rest
opened_head (Err e) = Err e

-- and the head, which stands first
abbrev pub head_at : List ℕ → Result (Head × List ℕ) Flaw
head_at xs = opened_head (front xs)

-- a block, each record with its place in the rule
pub data Tree : Type 0 where
  step : ℕ → Step → Tree → Tree
  fork : ℕ → Fork → Tree → Tree → Tree
  done : ℕ → Tree
  broken : ℕ → Flaw → Tree

-- a closing record has nothing after it
abbrev pub closed : ℕ → Tree → List ℕ → Tree
closed p t [] = t
closed p t (x ∷ xs) = broken p Trailing

-- how many bytes of a fork stand before its arms
abbrev pub before_arms : Fork → ℕ
before_arms (match r k s a b) = 11
before_arms (test x y) = 8

-- t reads a block at its place; n bytes are left in this one
abbrev pub grown_at : (ℕ → List ℕ → Tree) → ℕ → ℕ → Rec → List ℕ → Tree
grown_at t p n (plain s) rest = step p s (t (p + (n - length rest)) rest)
grown_at t p n (branch f ya na) rest = closed p (fork p f (t (p + before_arms f) ya) (t (p + before_arms f + length ya) na)) rest
grown_at t p n last rest = closed p (done p) rest

abbrev pub grown : (ℕ → List ℕ → Tree) → ℕ → ℕ → Result (Rec × List ℕ) Flaw → Tree
grown t p n (Ok r) = grown_at t p n r.0 r.1
grown t p n (Err e) = broken p e

-- the first number bounds how many records follow one another
abbrev pub tree_by : ℕ → ℕ → List ℕ → Tree
tree_by zero p xs = broken p Cut
tree_by (suc n) p xs = grown (tree_by n) p (length xs) (record_at xs)

-- the block that begins at place p
unfoldable pub tree : ℕ → List ℕ → Tree
tree p xs = tree_by (suc (length xs)) p xs
