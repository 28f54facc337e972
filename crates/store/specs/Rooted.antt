-- The sixteen roots: each empty, or the number of a cell.
use Rattle.std.specs.Prelude.{◌≡◌, ℕ, ◌<◌, List, [], ◌∷◌, ◌++◌, Some, None, Ok, Err, Option, Result, ◌≢◌, slice_index_or, slice_set}
use Rattle.store.specs.declared.hold.Hold.{Hold}
use Rattle.store.specs.Numbers.{opt}

-- the cell that a root names; none where there is no such root
abbrev pub root_at : List (Option ℕ) → ℕ → Option ℕ
root_at slots r = slice_index_or slots r None

-- the cells named by the roots, each as often as roots name it
abbrev pub named : List (Option ℕ) → List ℕ
named [] = []
named (s ∷ ss) = opt s ++ named ss

-- a hold set in a root; refused where there is no such root or it is in use, and handed back
abbrev pub SetTold : List (Option ℕ) → List (Option ℕ) → ℕ → Hold → Result (Unit {0}) Hold → Type 0
SetTold old new r h (Ok _) = (r < 16) × (root_at old r ≡ None) × (new ≡ slice_set old r (Some h.cell))
SetTold old new r h (Err back) = (r < 16 → root_at old r ≢ None) × (new ≡ old) × (back ≡ h)
