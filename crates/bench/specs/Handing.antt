-- Holds taken out of roots and set in them.
use Rattle.std.specs.Prelude.{◌≡◌, ℕ, ◌<◌, true, List, [], ◌∷◌, is_some, Some, None, Option, slice_set}
use Rattle.store.specs.declared.hold.Links.{Links}
use Rattle.store.specs.Interface.{on}
use Rattle.store.specs.Rooted.{root_at}
use Rattle.bench.specs.Machine.{spend, spent}
use Rattle.bench.specs.Step.{link_roots}
use Rattle.bench.specs.Tests.{fits_kind}

-- an optional hold can be set in a root: the root is there and empty
abbrev pub Back : List (Option ℕ) → ℕ → Option ℕ → Type 0
Back slots r None = Unit {0}
Back slots r (Some c) = (r < 16) × (root_at slots r ≡ None)

-- the slots with an optional number set in a root
abbrev pub put : List (Option ℕ) → ℕ → Option ℕ → List (Option ℕ)
put slots r None = slots
put slots r (Some c) = slice_set slots r (Some c)

-- the holds of links can be set, one after the other, in the roots a and b
pub record Settable (slots : List (Option ℕ)) (a b : ℕ) (l : Links) : Type 0 where
  pub first : Back slots a (on l.first)
  pub second : Back (put slots a (on l.first)) b (on l.second)

-- the slots once they are set
abbrev pub put_links : List (Option ℕ) → ℕ → ℕ → Links → List (Option ℕ)
put_links slots a b l = put (put slots a (on l.first)) b (on l.second)

-- each root is in use when its turn to be spent comes
abbrev pub Spendable : List (Option ℕ) → List ℕ → Type 0
Spendable slots [] = Unit {0}
Spendable slots (r ∷ rs) = (is_some (root_at slots r) ≡ true) × Spendable (spend slots r) rs

-- a and b are roots in use exactly for the links of the kind, and 255 where it lacks them
pub record LinksPassed (slots : List (Option ℕ)) (kind a b : ℕ) : Type 0 where
  pub link_0 : (a ≡ 255 → ⊥) → a < 16
  pub link_1 : (b ≡ 255 → ⊥) → b < 16
  pub fits : fits_kind kind a b ≡ true
  pub spends : Spendable slots (link_roots a b)

-- the links are taken out of the roots a and b of base, which leaves slots; set in them again they give base
pub record Taken (base slots : List (Option ℕ)) (a b : ℕ) (l : Links) : Type 0 where
  pub left : slots ≡ spent base (link_roots a b)
  pub settable : Settable slots a b l
  pub whole : put_links slots a b l ≡ base
