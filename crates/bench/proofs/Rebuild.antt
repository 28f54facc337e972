-- Rebuild: root r is emptied, then a make into it.
use Rattle.std.proofs.Common.{◌≡◌, ℕ, ◌<◌, List, [], ◌∷◌, Some, None, Option, refl, ap, ⊎_elim, arith, length-set}
use Rattle.store.specs.Meaning.{Meaning, less, Moved}
use Rattle.store.specs.Rooted.{root_at}
use Rattle.store.specs.NumbersLemmas.{hit_cases}
use Rattle.bench.specs.Machine.{Machine, spend, released}
use Rattle.bench.specs.Standing.{Standing}
use Rattle.bench.specs.Laws.{RebuildStands}
use Rattle.bench.proofs.Slots.{root_there, spend_none, spent_keeps}
use Rattle.bench.proofs.Kept.{slot_held}
use Rattle.bench.proofs.Moves.{released_standing}
use Rattle.bench.proofs.Make.{made_standing}

-- a hold less, and nothing else, is a release
less_moved : (m : Meaning) (c : ℕ) → 0 < m.holds c → Moved m (less m c) (c ∷ []) []
less_moved m c h = record {
  sized = refl;
  held = λ d. ⊎_elim (λ p. omega (arith, p.1, ap m.holds p.0)) (λ p. omega (arith, p.1)) (hit_cases d c);
  kept = λ d r k. refl;
}

-- with root r emptied, and its hold spent
pub lessens : {t : Machine} {slots : List (Option ℕ)} {m : Meaning} {own : ℕ → ℕ} → Standing t slots m own → (r c : ℕ) → root_at slots r ≡ Some c → Standing (released t r) (spend slots r) (less m c) own
lessens {m = m} s r c e = released_standing s (less m c) r c e (less_moved m c (slot_held s r c e))

pub rebuild_stands : RebuildStands
rebuild_stands t slots m n r kind value rs old c (own, s) e v = (
  _,
  made_standing (lessens s r old e) r kind value rs c (omega (arith, length-set slots r None, root_there slots r old e)) (spent_keeps (spend slots r) rs r (spend_none slots r)) v,
)
