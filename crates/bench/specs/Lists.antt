-- A list of calls on a bench, beside the node machine.
use Rattle.std.specs.Prelude.{◌≡◌, ℕ, true, ◌↔◌, List, [], ◌∷◌, None, Ok, Err, Result}
use Rattle.store.specs.declared.fault.StoreFault.TheVariants.{NoCell}
use Rattle.store.specs.Meaning.{Node, Out}
use Rattle.store.specs.Rooted.{named}
use Rattle.store.specs.declared.interface.Store.{Ghosts}
use Rattle.bench.specs.declared.call.Call.{Call}
use Rattle.bench.specs.declared.call.Call.TheVariants.{Make, Copy, Release, Match, Rebuild, Look, Same}
use Rattle.bench.specs.declared.call.Answer.{Answer}
use Rattle.bench.specs.declared.call.Answer.TheVariants.{Done, Value, OtherKind, Cell, Sameness}
use Rattle.bench.specs.declared.fault.BenchFault.{BenchFault}
use Rattle.bench.specs.declared.fault.BenchFault.TheVariants.{Store}
use Rattle.bench.specs.declared.fault.NoPlace.{NoPlace}
use Rattle.bench.specs.declared.bench.Bench.{Bench}
use Rattle.bench.specs.Machine.{Machine, Shaped, spend, taken, live, shared}
use Rattle.bench.specs.Standing.{Stands}
use Rattle.bench.specs.Tests.{flags, fault_of}
use Rattle.bench.specs.Step.{step, link_roots}
use Rattle.bench.specs.Bench.{Follows, Effect}

abbrev pub Reply : Type 0
Reply = Result Answer BenchFault

-- the machine's answers to a list of calls, and the machine after them
unfoldable pub replies : ℕ → Machine → List Call → List Reply
replies n t [] = []
replies n t (c ∷ cs) = (step n t c).0 ∷ replies n (step n t c).1 cs

unfoldable pub after : ℕ → Machine → List Call → Machine
after n t [] = t
after n t (c ∷ cs) = after n (step n t c).1 cs

-- the node that a make or a rebuild is for; no other call is for one
abbrev pub new_node : Machine → Call → List Node
new_node t (Make d k v a b) = record { kind = k; value = v; links = taken t.roots (link_roots a b) } ∷ []
new_node t (Rebuild r k v a b) = record { kind = k; value = v; links = taken (spend t.roots r) (link_roots a b) } ∷ []
new_node t (Copy s d) = []
new_node t (Release r) = []
new_node t (Match r k a b) = []
new_node t (Look r) = []
new_node t (Same r s) = []

-- what a call that was answered so appends to the nodes
abbrev pub added : List Node → Reply → List Node
added new (Err e) = []
added new (Ok Done) = new
added new (Ok (Value v)) = []
added new (Ok OtherKind) = []
added new (Ok (Cell k v)) = []
added new (Ok (Sameness b)) = []

-- want of a cell for root d
abbrev pub wanting : ℕ → Reply
wanting d = Err (Store (record { fault = NoCell; root = d }))

-- where the tests on roots are passed, a make wants a cell exactly when as many nodes are reached as there are cells; a rebuild exactly when, besides, its old node is reached from another root
abbrev pub Wants : ℕ → Machine → Call → Reply → Type 0
Wants n t (Make d k v a b) r = fault_of (Make d k v a b) (flags t.roots) ≡ None → (r ≡ wanting d) ↔ (live t ≡ n)
Wants n t (Rebuild q k v a b) r = fault_of (Rebuild q k v a b) (flags t.roots) ≡ None → (r ≡ wanting q) ↔ ((live t ≡ n) × (shared t q ≡ true))
Wants n t (Copy s d) r = Unit {0}
Wants n t (Release q) r = Unit {0}
Wants n t (Match q k a b) r = Unit {0}
Wants n t (Look q) r = Unit {0}
Wants n t (Same q s) r = Unit {0}

-- one call takes a bench from b to e, on any store: the store is sound, the machine t is followed, and what was asked of the store is known
pub record Turn {S : Type 0} (G : Ghosts S) (n : ℕ) (t : Machine) (call : Call) (r : Reply) (b e : Bench S) : Type 0 where
  pub ok : G.ok e.store
  pub follows : Follows n t call r e.roots.slots (G.means e.store)
  pub effect : Effect b.roots.slots call r e.roots.slots (G.kept b.store e.store) (λ q. G.did b.store q e.store)

-- a list of calls takes it from b to e, with a turn for each
pub data Turns {S : Type 0} (G : Ghosts S) (n : ℕ) : Machine → List Call → List Reply → Bench S → Bench S → Type 0 where
  ended : {t : Machine} {b : Bench S} → Turns G n t [] [] b b
  turned : {t : Machine} {call : Call} {calls : List Call} {r : Reply} {rs : List Reply} {b c e : Bench S} →
      Turn G n t call r b c → Turns G n (step n t call).1 calls rs c e → Turns G n t (call ∷ calls) (r ∷ rs) b e

-- what holds at each turn of the machine, the call, the answer, and the bench before and after
unfoldable pub Throughout : {S : Type 0} {G : Ghosts S} {n : ℕ} {t : Machine} {calls : List Call} {rs : List Reply} {b e : Bench S} → (Machine → Call → Reply → Bench S → Bench S → Type 0) → Turns G n t calls rs b e → Type 0
Throughout P ended = Unit {0}
Throughout P (turned {t} {call} {r = r} {b = b} {c = c} x xs) = P t call r b c × Throughout P xs

-- what a turn shows: the holds out on a cell are exactly the roots that name it, and a cell is wanted exactly where all are reached
pub record TurnShows {S : Type 0} (G : Ghosts S) (n : ℕ) (t : Machine) (call : Call) (r : Reply) (e : Bench S) : Type 0 where
  pub held : Out (G.means e.store) (named e.roots.slots)
  pub wants : Wants n t call r

-- the list was answered as the machine answers it, and the machine after it agrees with the bench
pub record Served {S : Type 0} (G : Ghosts S) (n : ℕ) (t : Machine) (calls : List Call) (rs : List Reply) (b e : Bench S) : Type 0 where
  pub turns : Turns G n t calls rs b e
  pub told : rs ≡ replies n t calls
  pub stands : Stands (after n t calls) e.roots.slots (G.means e.store)
  pub shaped : Shaped (after n t calls)
  pub sized : (G.means e.store).size ≡ n

-- a list was served, and each turn shows that much
pub record Shown {S : Type 0} (G : Ghosts S) (n : ℕ) (t : Machine) (calls : List Call) (rs : List Reply) (b e : Bench S) : Type 0 where
  pub served : Served G n t calls rs b e
  pub shows : Throughout (λ t call r b e. TurnShows G n t call r e) served.turns

-- a list is answered, or refused for want of places: what holds then
abbrev pub Placed : Type 0 → Type 0 → Result (Unit {0}) NoPlace → Type 0
Placed done refused (Ok _) = done
Placed done refused (Err _) = refused
