-- What a bench keeps, and how its calls answer.
use Rattle.std.specs.Prelude.{◌≡◌, ℕ, List, length, Some, None, Ok, Err, Option, Result}
use Rattle.store.specs.Rooted.{root_at}
use Rattle.store.specs.declared.interface.Store.{Ghosts}
use Rattle.bench.specs.declared.bench.Bench.{Bench}
use Rattle.bench.specs.Tests.{flags, fault_of}
use Rattle.bench.specs.declared.call.Answer.TheVariants.{Done, Value, OtherKind, Cell, Sameness}
use Rattle.bench.specs.declared.fault.Wanting.{Wanting}
use Rattle.bench.specs.declared.fault.BenchFault.TheVariants.{Store}
use Rattle.store.specs.Meaning.{Meaning, Asked, making, copying, releasing, parting, rebuilding}
use Rattle.bench.specs.declared.call.Call.{Call}
use Rattle.bench.specs.declared.call.Call.TheVariants.{Make, Copy, Release, Match, Rebuild, Look, Same}
use Rattle.bench.specs.declared.call.Answer.{Answer}
use Rattle.bench.specs.declared.fault.BenchFault.{BenchFault}
use Rattle.bench.specs.Machine.{Machine, Shaped, spend, taken}
use Rattle.bench.specs.Standing.{Stands}
use Rattle.bench.specs.Step.{step, link_roots}

-- sixteen slots that stand for some machine; so the holds out on a cell are exactly the slots that name it
pub record Stood (slots : List (Option ℕ)) (m : Meaning) : Type 0 where
  pub sized : length slots ≡ 16
  pub machine : Machine
  pub stands : Stands machine slots m
  pub shaped : Shaped machine

-- the answer is the machine's, the machine's next state agrees, and the store is of n cells as before
pub record Follows (n : ℕ) (t : Machine) (call : Call) (r : Result Answer BenchFault) (slots : List (Option ℕ)) (m : Meaning) : Type 0 where
  pub told : r ≡ (step n t call).0
  pub stands : Stands (step n t call).1 slots m
  pub shaped : Shaped (step n t call).1
  pub sized : m.size ≡ n

-- so for every machine that agrees before the call; slots and m are those before it, new and k those after
abbrev pub Answers : List (Option ℕ) → Meaning → Call → Result Answer BenchFault → List (Option ℕ) → Meaning → Type 0
Answers slots m call r new k = (t : Machine) → Stands t slots m → Shaped t → Follows m.size t call r new k

-- the cell that a root in use names
abbrev pub cell_in : Option ℕ → ℕ
cell_in None = 0
cell_in (Some c) = c

-- the one change that a call asks of the store; a look or a same asks none
abbrev pub One : List (Option ℕ) → Call → (Asked → Type 0) → Type 0
One slots (Make d k v a b) did = did (making (record { kind = k; value = v; links = taken slots (link_roots a b) }))
One slots (Copy s d) did = did (copying (cell_in (root_at slots s)))
One slots (Release r) did = did (releasing (cell_in (root_at slots r)))
One slots (Match r k a b) did = did (parting (cell_in (root_at slots r)))
One slots (Rebuild r k v a b) did = did (rebuilding (cell_in (root_at slots r)) (record { kind = k; value = v; links = taken (spend slots r) (link_roots a b) }))
One slots (Look r) did = ⊥
One slots (Same r s) did = ⊥

-- after a refusal, an other kind, a look or a same the roots are as before and the store is kept; any other answer comes of one change, of which the store tells in did
abbrev pub Effect : List (Option ℕ) → Call → Result Answer BenchFault → List (Option ℕ) → Type 0 → (Asked → Type 0) → Type 0
Effect slots call (Err e) new kept did = (new ≡ slots) × kept
Effect slots call (Ok Done) new kept did = One slots call did
Effect slots call (Ok (Value v)) new kept did = One slots call did
Effect slots call (Ok OtherKind) new kept did = (new ≡ slots) × kept
Effect slots call (Ok (Cell k v)) new kept did = (new ≡ slots) × kept
Effect slots call (Ok (Sameness b)) new kept did = (new ≡ slots) × kept

-- a call that answers nothing but that it was done, or the store's refusal
abbrev pub done_or : Result (Unit {0}) Wanting → Result Answer BenchFault
done_or (Ok _) = Ok Done
done_or (Err w) = Err (Store w)

-- a bench in order, before a call whose tests are passed
pub record Ready {S : Type 0} (G : Ghosts S) (b : Bench S) (call : Call) : Type 0 where
  pub ok : G.ok b.store
  pub stood : Stood b.roots.slots (G.means b.store)
  pub passed : fault_of call (flags b.roots.slots) ≡ None

-- the call took the bench from b to e and was answered so
pub record Sent {S : Type 0} (G : Ghosts S) (b : Bench S) (call : Call) (r : Result Answer BenchFault) (e : Bench S) : Type 0 where
  pub ok : G.ok e.store
  pub told : Answers b.roots.slots (G.means b.store) call r e.roots.slots (G.means e.store)
  pub effect : Effect b.roots.slots call r e.roots.slots (G.kept b.store e.store) (λ q. G.did b.store q e.store)
