-- Lists of calls worked by hand, and what the machine answers.
use Rattle.std.specs.Prelude.{◌≡◌, ℕ, true, false, List, [], ◌∷◌, pos, Ok, Err}
use Rattle.store.specs.declared.fault.StoreFault.TheVariants.{NoCell}
use Rattle.bench.specs.declared.call.Call.{Call}
use Rattle.bench.specs.declared.call.Call.TheVariants.{Make, Copy, Release, Match, Rebuild, Look, Same}
use Rattle.bench.specs.declared.call.Answer.TheVariants.{Done, Value, OtherKind, Cell, Sameness}
use Rattle.bench.specs.declared.fault.BenchFault.TheVariants.{NoSuchRoot, LinksUnfit, RootEmpty, RootInUse, Store}
use Rattle.bench.specs.Machine.{start}
use Rattle.bench.specs.Lists.{Reply, replies}

-- a cell without links
abbrev pub leaf : ℕ → ℕ → Call
leaf d v = Make d 0 (pos v) 255 255

-- the machine at its start, beside a store of n cells, answers the calls so
abbrev pub Answered : ℕ → List Call → List Reply → Type 0
Answered n calls rs = replies n start calls ≡ rs

pub record Worked : Type 0 where
  pub first_field_first : Answered 4 (Copy 16 17 ∷ []) (Err (NoSuchRoot 16) ∷ [])
  pub copied_onto_itself : Answered 4 (Copy 0 0 ∷ leaf 0 5 ∷ Copy 0 0 ∷ []) (Err (RootEmpty 0) ∷ Ok Done ∷ Err (RootInUse 0) ∷ [])
  pub spent_twice : Answered 4 (leaf 1 5 ∷ Make 0 128 (pos 6) 1 1 ∷ []) (Ok Done ∷ Err (RootEmpty 1) ∷ [])
  pub link_missing : Answered 4 (Make 0 64 (pos 6) 255 255 ∷ []) (Err LinksUnfit ∷ [])
  pub matched_into_itself :
      Answered 4 (leaf 1 5 ∷ Make 0 64 (pos 6) 1 255 ∷ Match 0 65 0 255 ∷ Match 0 64 0 255 ∷ Look 0 ∷ []) (Ok Done ∷ Ok Done ∷ Ok OtherKind ∷ Ok (Value (pos 6)) ∷ Ok (Cell 0 (pos 5)) ∷ [])
  pub same_cell : Answered 4 (leaf 0 5 ∷ Copy 0 1 ∷ leaf 2 5 ∷ Same 0 1 ∷ Same 0 2 ∷ []) (Ok Done ∷ Ok Done ∷ Ok Done ∷ Ok (Sameness true) ∷ Ok (Sameness false) ∷ [])
  pub full : Answered 1 (leaf 0 5 ∷ leaf 3 6 ∷ []) (Ok Done ∷ Err (Store (record { fault = NoCell; root = 3 })) ∷ [])
  -- both nodes are reached until root 0 is released; then one is free, and root 1 alone leads to the other
  pub rebuilt_after_release :
      Answered 2 (leaf 0 5 ∷ Copy 0 1 ∷ Make 0 64 (pos 6) 0 255 ∷ Rebuild 1 0 (pos 7) 255 255 ∷ Release 0 ∷ Rebuild 1 0 (pos 7) 255 255 ∷ Look 1 ∷ [])
      (Ok Done ∷ Ok Done ∷ Ok Done ∷ Err (Store (record { fault = NoCell; root = 1 })) ∷ Ok Done ∷ Ok Done ∷ Ok (Cell 0 (pos 7)) ∷ [])
