-- What a run of a rule does to the node machine, and what a checked rule's run is sure of.
use Rattle.std.specs.Prelude.{◌≡◌, ℕ, ◌+◌, Bool, true, false, cond, ◌&&◌, List, [], ◌∷◌, length, replicate, ℤ, pos, negsuc, ◌+ℤ◌, ◌-ℤ◌, Some, None, Ok, Err, Option, Result, int_lt, slice_index_or, slice_set}
use Rattle.store.specs.Rooted.{root_at}
use Rattle.store.specs.declared.fault.StoreFault.TheVariants.{NoCell}
use Rattle.bench.specs.declared.call.Call.{Call}
use Rattle.bench.specs.declared.call.Call.TheVariants.{Match}
use Rattle.bench.specs.declared.call.Answer.{Answer}
use Rattle.bench.specs.declared.call.Answer.TheVariants.{Done, Value, OtherKind, Cell, Sameness}
use Rattle.bench.specs.declared.fault.BenchFault.{BenchFault}
use Rattle.bench.specs.declared.fault.BenchFault.TheVariants.{Store}
use Rattle.bench.specs.Machine.{Machine, Shaped}
use Rattle.bench.specs.Tests.{flags, in_use}
use Rattle.bench.specs.Step.{Told}
use Rattle.bench.specs.Step as bench
use Rattle.rule.specs.Sheet.{Head, Step, make, copy, release, rebuild, put, sum, difference, look, match, test}
use Rattle.rule.specs.Read.{head_at, Tree, step, fork, done, broken, tree}
use Rattle.rule.specs.Check.{marked, differing, answer}
use Rattle.rule.specs.Judged.{step_call}

-- eight slots
abbrev pub slot_at : List ℤ → ℕ → ℤ
slot_at z s = slice_index_or z s (pos 0)

-- a number, or the nearer end of 32 bits
abbrev pub held : ℤ → ℤ
held v = cond (int_lt v (negsuc 2147483647)) (negsuc 2147483647) (cond (int_lt (pos 2147483647) v) (pos 2147483647) v)

-- where a run stopped, and why; or how many records it carried out; and the machine then
pub record Stop : Type 0 where
  pub place : ℕ
  pub fault : BenchFault

abbrev pub Ran : Type 0
Ran = Result ℕ Stop × Machine

-- what a new cell takes from the slots as its value
abbrev pub value_of : Step → List ℤ → ℤ
value_of (make d k s a b) z = slot_at z s
value_of (rebuild r k s a b) z = slot_at z s
value_of (copy s d) z = pos 0
value_of (release r) z = pos 0
value_of (look r s) z = pos 0
value_of (put s v) z = pos 0
value_of (sum t x y) z = pos 0
value_of (difference t x y) z = pos 0

-- the call that a record makes, if it makes one
abbrev pub call_of : Step → List ℤ → Option Call
call_of s z = step_call s (value_of s z)

-- what a look puts in a slot
abbrev pub seen : Answer → ℤ → ℤ
seen (Cell k v) old = v
seen Done old = old
seen (Value v) old = old
seen OtherKind old = old
seen (Sameness b) old = old

-- the slots after a record that was answered so
abbrev pub slots_after : Step → Answer → List ℤ → List ℤ
slots_after (put s v) a z = slice_set z s v
slots_after (sum t x y) a z = slice_set z t (held (slot_at z x +ℤ slot_at z y))
slots_after (difference t x y) a z = slice_set z t (held (slot_at z x -ℤ slot_at z y))
slots_after (look r s) a z = slice_set z s (seen a (slot_at z s))
slots_after (make d k s x y) a z = z
slots_after (copy s d) a z = z
slots_after (release r) a z = z
slots_after (rebuild r k s x y) a z = z

-- the machine's answer to what a record asks; n is the number of cells
abbrev pub asked : ℕ → Machine → Option Call → Told
asked n t None = (Ok Done, t)
asked n t (Some call) = bench.step n t call

-- a refusal stops the run at the record's place; else it goes on
abbrev pub unless_stopped : ℕ → Told → (Answer → Machine → Ran) → Ran
unless_stopped p (Err e, t) on = (Err (record { place = p; fault = e }), t)
unless_stopped p (Ok a, t) on = on a t

-- a match that finds its kind says yes, with the value
abbrev pub by_match : Answer → (ℤ → Ran) → Ran → Ran
by_match (Value v) ya na = ya v
by_match Done ya na = na
by_match OtherKind ya na = na
by_match (Cell k v) ya na = na
by_match (Sameness b) ya na = na

-- a block from its first record on, behind so many records carried out. What comes after done is a parameter; what cannot be read is never met in a checked rule
unfoldable pub run : ℕ → (List ℤ → Machine → ℕ → Ran) → Tree → List ℤ → Machine → ℕ → Ran
run n end (step p s k) z t c = unless_stopped p (asked n t (call_of s z)) (λ a u. run n end k (slots_after s a z) u (c + 1))
run n end (fork p (match r k s a b) ya na) z t c = unless_stopped p (bench.step n t (Match r k a b)) (λ w u. by_match w (λ v. run n end ya (slice_set z s v) u (c + 1)) (run n end na z u (c + 1)))
run n end (fork p (test x y) ya na) z t c = cond (int_lt (slot_at z x) (slot_at z y)) (run n end ya z t (c + 1)) (run n end na z t (c + 1))
run n end (done p) z t c = end z t (c + 1)
run n end (broken p e) z t c = (Ok c, t)

abbrev pub ends : List ℤ → Machine → ℕ → Ran
ends z t c = (Ok c, t)

-- of the roots in use, those of own
abbrev pub both : List Bool → List Bool → List Bool
both [] ys = []
both (x ∷ xs) [] = []
both (x ∷ xs) (y ∷ ys) = (x && y) ∷ both xs ys

-- a run starts where the own roots in use are exactly in; else the lowest root that differs
abbrev pub start_differs : Head → Machine → Option ℕ
start_differs h t = differing 0 (both (flags t.roots) (marked h.own)) (marked h.enter)

-- a started run of the rule with this head and block
abbrev pub started : ℕ → List ℕ → Machine → Ran
started n rest t = run n ends (tree 10 rest) (replicate 8 (pos 0)) t 0

-- what may stop a run: want of a cell, and nothing else
abbrev pub MayStop : Result ℕ Stop → Type 0
MayStop (Ok c) = Unit {0}
MayStop (Err s) = (r : ℕ) × (s.fault ≡ Store (record { fault = NoCell; root = r }))

-- what an ended run leaves in use of its own roots: exactly out
abbrev pub Leaves : Head → Machine → Result ℕ Stop → Type 0
Leaves h t (Ok c) = (r : ℕ) → in_use (marked h.own) r ≡ true → in_use (flags t.roots) r ≡ in_use (marked h.leave) r
Leaves h t (Err s) = Unit {0}

-- a run of a checked rule: what may stop it, what it leaves, and that other roots are as before
pub record RunsWell (h : Head) (t : Machine) (ran : Ran) : Type 0 where
  pub stops : MayStop ran.0
  pub leaves : Leaves h ran.1 ran.0
  pub others : (r : ℕ) → in_use (marked h.own) r ≡ false → root_at ran.1.roots r ≡ root_at t.roots r

-- so for every checked rule, machine and number of cells, where the run starts
abbrev pub CheckedRuns : Type 0
CheckedRuns = (xs : List ℕ) (count : ℕ) → answer xs ≡ Ok count → (h : Head) (rest : List ℕ) → head_at xs ≡ Ok (h, rest) → (n : ℕ) (t : Machine) → length t.roots ≡ 16 → Shaped t → start_differs h t ≡ None →
    RunsWell h t (started n rest t)
