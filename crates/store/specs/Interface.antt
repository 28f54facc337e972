-- What a store's calls answer, whatever store it is.
use Rattle.std.specs.Prelude.{◌≡◌, ℕ, List, ◌++◌, ℤ, Some, None, Ok, Err, Option, Result}
use Rattle.store.specs.declared.hold.Hold.{Hold}
use Rattle.store.specs.declared.hold.Links.{Links}
use Rattle.store.specs.declared.fault.Refused.{Refused}
use Rattle.store.specs.declared.fault.RefusedRebuild.{RefusedRebuild}
use Rattle.store.specs.declared.fault.StoreFault.TheVariants.{NoCell}
use Rattle.store.specs.Numbers.{opt, item}
use Rattle.store.specs.Meaning.{Node, Meaning, Reached, less, Unchanged, Made, Full}
use Rattle.store.specs.Sound.{Fitting}

-- the cell that an optional hold is on
abbrev pub on : Option Hold → Option ℕ
on None = None
on (Some h) = Some h.cell

-- the cells of the holds, link 0 first
abbrev pub spent : Links → List ℕ
spent l = opt (on l.first) ++ opt (on l.second)

-- a hold is there exactly for each link of the kind
abbrev pub Fits : ℕ → Links → Type 0
Fits kind l = Fitting kind (on l.first) (on l.second)

abbrev pub asked_for : ℕ → ℤ → Links → Node
asked_for kind value l = record { kind = kind; value = value; links = spent l }

-- the holds are on the cells of the list, in its order
pub record Handed (l : Links) (cells : List ℕ) : Type 0 where
  pub first : on l.first ≡ item cells 0
  pub second : on l.second ≡ item cells 1

-- make is accepted with a cell that was not reached, and refused where every cell is; did and kept are what the store says of its own change, and of no change
abbrev pub MakeTold : Meaning → Meaning → ℕ → ℤ → Links → Type 0 → Type 0 → Result Hold Refused → Type 0
MakeTold m n kind value l did kept (Ok h) = Made m n (asked_for kind value l) h.cell × did
MakeTold m n kind value l did kept (Err e) = Full m × Unchanged m n × kept × (e ≡ record { links = l; fault = NoCell })

-- rebuild is make without the hold that is spent; refused exactly where every cell is reached and the old one stays so without its hold
abbrev pub RebuildTold : Meaning → Meaning → Hold → ℕ → ℤ → Links → Type 0 → Type 0 → Result Hold RefusedRebuild → Type 0
RebuildTold m n old kind value l did kept (Ok h) =
    Made (less m old.cell) n (asked_for kind value l) h.cell × (Full m → Reached (less m old.cell) old.cell → ⊥) × did
RebuildTold m n old kind value l did kept (Err e) =
    (Full m × Reached (less m old.cell) old.cell) × Unchanged m n × kept × (e ≡ record { old = old; links = l; fault = NoCell })
