-- Which holds are out after a call.
use Rattle.std.proofs.Common.{◌≡◌, ℕ, ◌+◌, ◌≤◌, List, length, Some, None, ap, arith}
use Rattle.store.specs.declared.hold.Hold.{Hold}
use Rattle.store.specs.declared.hold.Links.{Links}
use Rattle.store.specs.declared.interface.Store.{Ghosts}
use Rattle.store.specs.Numbers.{hit, times}
use Rattle.store.specs.Meaning.{Meaning, Out, Few}
use Rattle.store.specs.Interface.{spent}
use Rattle.beam.specs.Carried.{Spending}

pub few_out : {m : Meaning} (xs : List ℕ) → Out m xs → length xs ≤ 1000 → Few m
few_out xs o l = record { all = xs; most = l; within = λ c. omega (arith, o c) }

-- what is among the holds out may be spent
pub spending : {S : Type 0} {G : Ghosts S} {s : S} (xs ys : List ℕ) → G.ok s → Out (G.means s) xs → length xs ≤ 1000 → ((d : ℕ) → times d ys ≤ times d xs) → Spending G s ys
spending xs ys ok out l within = record { ok = ok; few = few_out xs out l; spare = λ d. omega (arith, out d, within d) }

-- what links of no hold, of one and of two spend
pub none_spend : {l : Links} → l ≡ record { first = None; second = None } → (d : ℕ) → times d (spent l) ≡ 0
none_spend e d = ap (λ (l : Links). times d (spent l)) e

pub one_spends : {l : Links} {h : Hold} → l ≡ record { first = Some h; second = None } → (d : ℕ) → times d (spent l) ≡ hit d h.cell
one_spends e d = omega (arith, ap (λ (l : Links). times d (spent l)) e)

pub two_spend : {l : Links} {h k : Hold} → l ≡ record { first = Some h; second = Some k } → (d : ℕ) → times d (spent l) ≡ hit d h.cell + hit d k.cell
two_spend e d = omega (arith, ap (λ (l : Links). times d (spent l)) e)
