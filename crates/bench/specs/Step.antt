-- The node machine's step for each call: its answer, and the machine after it. n is the number of cells that it is compared with.
use Rattle.std.specs.Prelude.{ℕ, Bool, true, false, cond, List, [], ◌∷◌, ◌++◌, Some, None, Ok, Err, Option, Result, ◌==◌}
use Rattle.store.specs.declared.fault.StoreFault.TheVariants.{NoCell}
use Rattle.store.specs.Meaning.{Node}
use Rattle.store.specs.Rooted.{root_at}
use Rattle.bench.specs.declared.call.Call.{Call}
use Rattle.bench.specs.declared.call.Call.TheVariants.{Make, Copy, Release, Match, Rebuild, Look, Same}
use Rattle.bench.specs.declared.call.Answer.{Answer}
use Rattle.bench.specs.declared.call.Answer.TheVariants.{Done, Value, OtherKind, Cell, Sameness}
use Rattle.bench.specs.declared.fault.BenchFault.{BenchFault}
use Rattle.bench.specs.declared.fault.BenchFault.TheVariants.{Store}
use Rattle.bench.specs.Machine.{Machine, blank, node_at, copied, released, parted, made, rebuilt, live, shared}
use Rattle.bench.specs.Tests.{flags, fault_of}

abbrev pub Told : Type 0
Told = Result Answer BenchFault × Machine

-- the roots for the links that are there
abbrev pub linked : ℕ → List ℕ
linked a = cond (a == 255) [] (a ∷ [])

abbrev pub link_roots : ℕ → ℕ → List ℕ
link_roots a b = linked a ++ linked b

-- what a root names
abbrev pub node_named : Machine → Option ℕ → Node
node_named t None = blank
node_named t (Some i) = node_at t.nodes i

abbrev pub node_of_root : Machine → ℕ → Node
node_of_root t r = node_named t (root_at t.roots r)

-- want of a cell, where it comes to that; nothing is changed then
abbrev pub unless_full : Bool → Machine → ℕ → Machine → Told
unless_full true t r u = (Err (Store (record { fault = NoCell; root = r })), t)
unless_full false t r u = (Ok Done, u)

abbrev pub same_root : Option ℕ → Option ℕ → Bool
same_root (Some i) (Some j) = i == j
same_root (Some i) None = false
same_root None o = false

-- a call whose tests are passed
abbrev pub act : ℕ → Machine → Call → Told
act n t (Make d k v a b) = unless_full (live t == n) t d (made t d k v (link_roots a b))
act n t (Copy s d) = (Ok Done, copied t s d)
act n t (Release r) = (Ok Done, released t r)
act n t (Match r k a b) = cond ((node_of_root t r).kind == k) (Ok (Value (node_of_root t r).value), parted t r (link_roots a b)) (Ok OtherKind, t)
act n t (Rebuild r k v a b) = unless_full (cond (live t == n) (shared t r) false) t r (rebuilt t r k v (link_roots a b))
act n t (Look r) = (Ok (Cell (node_of_root t r).kind (node_of_root t r).value), t)
act n t (Same r s) = (Ok (Sameness (same_root (root_at t.roots r) (root_at t.roots s))), t)

-- a call that fails a test changes nothing
abbrev pub tested : Option BenchFault → ℕ → Machine → Call → Told
tested None n t call = act n t call
tested (Some e) n t call = (Err e, t)

abbrev pub step : ℕ → Machine → Call → Told
step n t call = tested (fault_of call (flags t.roots)) n t call
