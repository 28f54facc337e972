-- The rule sheet: a rule as a tree of records, and the bytes that write it.
use Rattle.std.specs.Prelude.{ℕ, suc, ◌+◌, ◌/◌, ◌%◌, List, [], ◌∷◌, ◌++◌, length, ℤ}
use Rattle.std.proofs.Common.{of_z}
use Rattle.std.specs.Int.{w32}

-- in, out and own, bit r for root r
pub record Head : Type 0 where
  pub enter : ℕ
  pub leave : ℕ
  pub own : ℕ

-- a record that others follow; the fields in their order
pub data Step : Type 0 where
  make : ℕ → ℕ → ℕ → ℕ → ℕ → Step
  copy : ℕ → ℕ → Step
  release : ℕ → Step
  rebuild : ℕ → ℕ → ℕ → ℕ → ℕ → Step
  put : ℕ → ℤ → Step
  sum : ℕ → ℕ → ℕ → Step
  difference : ℕ → ℕ → ℕ → Step
  look : ℕ → ℕ → Step

-- a closing record that has arms
pub data Fork : Type 0 where
  match : ℕ → ℕ → ℕ → ℕ → ℕ → Fork
  test : ℕ → ℕ → Fork

-- records and a closing one; a fork has its yes arm and its no arm
pub data Block : Type 0 where
  step : Step → Block → Block
  fork : Fork → Block → Block → Block
  done : Block

-- a number in two bytes, low byte first
abbrev pub two : ℕ → List ℕ
two n = n % 256 ∷ (n / 256 ∷ [])

-- and in four
abbrev pub four : ℕ → List ℕ
four n = n % 256 ∷ (n / 256 % 256 ∷ (n / 65536 % 256 ∷ (n / 16777216 ∷ [])))

-- a record opens with its whole length and its kind
abbrev pub opened : ℕ → List ℕ → List ℕ
opened kind body = two (4 + length body) ++ two kind ++ body

abbrev pub step_bytes : Step → List ℕ
step_bytes (make d k s a b) = opened 2 (d ∷ (k ∷ (s ∷ (a ∷ (b ∷ [])))))
step_bytes (copy s d) = opened 3 (s ∷ (d ∷ []))
step_bytes (release r) = opened 4 (r ∷ [])
step_bytes (rebuild r k s a b) = opened 5 (r ∷ (k ∷ (s ∷ (a ∷ (b ∷ [])))))
step_bytes (put s v) = opened 6 (s ∷ four (of_z w32 v))
step_bytes (sum t x y) = opened 7 (t ∷ (x ∷ (y ∷ [])))
step_bytes (difference t x y) = opened 8 (t ∷ (x ∷ (y ∷ [])))
step_bytes (look r s) = opened 9 (r ∷ (s ∷ []))

-- both arms stand in the record, after the length of the yes arm
abbrev pub fork_bytes : Fork → List ℕ → List ℕ → List ℕ
fork_bytes (match r k s a b) ya na = opened 10 (r ∷ (k ∷ (s ∷ (a ∷ (b ∷ (two (length ya) ++ ya ++ na))))))
fork_bytes (test x y) ya na = opened 11 (x ∷ (y ∷ (two (length ya) ++ ya ++ na)))

unfoldable pub written : Block → List ℕ
written (step s k) = step_bytes s ++ written k
written (fork f ya na) = fork_bytes f (written ya) (written na)
written done = opened 12 []

abbrev pub rule_bytes : Head → Block → List ℕ
rule_bytes h b = opened 1 (two h.enter ++ two h.leave ++ two h.own) ++ written b

-- how many records a block has
unfoldable pub records : Block → ℕ
records (step s k) = suc (records k)
records (fork f ya na) = suc (records ya + records na)
records done = 1
