use Rattle.std.proofs.Common.{◌≡◌, ℕ, ◌≤◌}
use Rattle.store.specs.Heap.{drained}
use Rattle.store.specs.Sound.{Piling}
use Rattle.store.specs.View.{heap}
use Rattle.store.proofs.Weight.{load}
use Rattle.store.proofs.lowering.AtOnceLowering.lower.Given as goal

abbrev pub invariant-emptying : goal.invariant-emptying
invariant-emptying l = Piling (heap l.table) l.pile ×
    ((all : ℕ) → load (heap l.initial.table) l.initial.pile ≤ all → (k : ℕ) × (load (heap l.table) l.pile ≤ k) × (drained k (heap l.table) l.pile ≡ drained all (heap l.initial.table) l.initial.pile))

abbrev pub decreases-emptying : goal.decreases-emptying
decreases-emptying l = load (heap l.table) l.pile
