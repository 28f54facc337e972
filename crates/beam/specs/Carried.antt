-- What is out while a beam is carried.
use Rattle.std.specs.Prelude.{◌≡◌, ℕ, ◌+◌, List, [], ◌∷◌, Ok, Err, Result}
use Rattle.store.specs.declared.hold.Hold.{Hold}
use Rattle.store.specs.declared.fault.StoreFault.{StoreFault}
use Rattle.store.specs.declared.interface.Store.{Ghosts}
use Rattle.store.specs.Numbers.{times}
use Rattle.store.specs.Meaning.{Out, Few, Spare}
use Rattle.beam.specs.declared.steps.Lift.{Lift}

-- the store is in order, and the holds out are those of the list and no other
pub record Holding {S : Type 0} (G : Ghosts S) (s : S) (cells : List ℕ) : Type 0 where
  pub ok : G.ok s
  pub out : Out (G.means s) cells

-- the store is in order, and the holds of the list are among those out, which are few
pub record Spending {S : Type 0} (G : Ghosts S) (s : S) (cells : List ℕ) : Type 0 where
  pub ok : G.ok s
  pub few : Few (G.means s)
  pub spare : Spare (G.means s) cells

-- the store is in order again, with the holds of `spent` exchanged for those of `given`; whatever else is out stays
pub record Exchanged {S : Type 0} (G : Ghosts S) (s t : S) (spent given : List ℕ) : Type 0 where
  pub ok : G.ok t
  pub held : (d : ℕ) → (G.means t).holds d + times d spent ≡ (G.means s).holds d + times d given

-- the hold that is given, and none where it is refused
abbrev pub given : Result Hold StoreFault → List ℕ
given (Ok h) = h.cell ∷ []
given (Err _) = []

-- a hold on the tag's record and no other
abbrev pub Tagged : {S : Type 0} → Ghosts S → S → Result Hold StoreFault → Type 0
Tagged G s (Ok h) = Holding G s (h.cell ∷ [])
Tagged G s (Err _) = Holding G s []

-- the three holds of a lift and no other; its state links to the tag and to the pose
pub record Carried {S : Type 0} (G : Ghosts S) (s : S) (l : Lift) : Type 0 where
  pub ok : G.ok s
  pub out : Out (G.means s) (l.tag.cell ∷ (l.pose.cell ∷ (l.state.cell ∷ [])))
  pub links : ((G.means s).content l.state.cell).links ≡ l.tag.cell ∷ (l.pose.cell ∷ [])

abbrev pub Lifted : {S : Type 0} → Ghosts S → S → Result Lift StoreFault → Type 0
Lifted G s (Ok l) = Carried G s l
Lifted G s (Err _) = Holding G s []
