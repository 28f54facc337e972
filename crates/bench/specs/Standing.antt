-- A bench stands for the machine: its sixteen slots over what its store means.
use Rattle.std.specs.Prelude.{◌≡◌, ℕ, ◌<◌, ◌≤◌, List, [], ◌∷◌, length, Some, None, Option, slice_set}
use Rattle.store.specs.Meaning.{Meaning, Reached, less, Out, Few, Spare}
use Rattle.store.specs.Rooted.{root_at, named}
use Rattle.bench.specs.Machine.{Machine, Sound, spend, taken}
use Rattle.bench.specs.Picture.{Agree, bench_picture, machine_picture}

-- own c is the number of the node that stands in cell c; the holds out are those of the slots
pub record Standing (t : Machine) (slots : List (Option ℕ)) (m : Meaning) (own : ℕ → ℕ) : Type 0 where
  pub sound : Sound t
  pub agree : Agree (bench_picture slots m) (machine_picture t) own
  pub out : Out m (named slots)
  pub inside : (c : ℕ) → Reached m c → c < m.size

-- with some such numbers
abbrev pub Stands : Machine → List (Option ℕ) → Meaning → Type 0
Stands t slots m = (own : ℕ → ℕ) × Standing t slots m own

-- there are as many roots as numbers, and each is there and empty when its turn to be filled comes
abbrev pub Room : List (Option ℕ) → List ℕ → List ℕ → Type 0
Room slots [] [] = Unit {0}
Room slots [] (n ∷ ns) = ⊥
Room slots (r ∷ rs) [] = ⊥
Room slots (r ∷ rs) (n ∷ ns) = (r < length slots) × (root_at slots r ≡ None) × Room (slice_set slots r (Some n)) rs ns

-- what a bench may ask of its store: a hold is out for each root in use, few are out, and there is one for each link
pub record Askable (slots : List (Option ℕ)) (m : Meaning) : Type 0 where
  pub held : (r c : ℕ) → root_at slots r ≡ Some c → 0 < m.holds c
  pub few : length slots ≤ 1000 → Few m
  pub spare : (rs : List ℕ) → Spare m (taken slots rs)
  pub spare_less : (r old : ℕ) → root_at slots r ≡ Some old → (rs : List ℕ) → Spare (less m old) (taken (spend slots r) rs)
