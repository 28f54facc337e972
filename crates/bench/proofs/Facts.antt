-- What a bench that stands for some machine may ask of its store.
use Rattle.std.proofs.Common.{◌≡◌, ℕ, ◌<◌, List, length, Some, Option, Result, sym, arith}
use Rattle.store.specs.Meaning.{Meaning, Few}
use Rattle.store.specs.Rooted.{root_at}
use Rattle.bench.specs.Standing.{Askable}
use Rattle.bench.specs.declared.call.Call.{Call}
use Rattle.bench.specs.declared.call.Answer.{Answer}
use Rattle.bench.specs.declared.fault.BenchFault.{BenchFault}
use Rattle.bench.specs.Step.{step}
use Rattle.bench.specs.Bench.{Stood, Answers}
use Rattle.bench.proofs.Asked.{may_ask}

pub asks : {slots : List (Option ℕ)} {m : Meaning} → Stood slots m → Askable slots m
asks {slots} {m} s = may_ask s.machine slots m s.stands

pub few_of : {slots : List (Option ℕ)} {m : Meaning} → Stood slots m → Few m
few_of s = (asks s).few (omega (arith, s.sized))

-- a hold is out on the cell that a root names
pub held_of : {slots : List (Option ℕ)} {m : Meaning} (r : ℕ) {c : ℕ} → Stood slots m → Some c ≡ root_at slots r → 0 < m.holds c
held_of r {c} s e = (asks s).held r c (sym e)

-- where the answer is every machine's, the bench stands for the next machine
pub stood_after : {slots new : List (Option ℕ)} {m k : Meaning} {call : Call} {r : Result Answer BenchFault} → Stood slots m → length new ≡ 16 → Answers slots m call r new k → Stood new k
stood_after {m = m} {call = call} s l a =
    let f = a s.machine s.stands s.shaped in
    record { sized = l; machine = (step m.size s.machine call).1; stands = f.stands; shaped = f.shaped }
