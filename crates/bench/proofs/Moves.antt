-- The calls that make no cell: start, rest, release, copy and part.
use Rattle.std.proofs.Common.{◌≡◌, ℕ, List, [], ◌∷◌, map, set, Some, None, Option, sym, refl, ap, ◌∙◌, ⊎_elim, arith}
use Rattle.std.proofs.lemmas.List.{map-set}
use Rattle.store.specs.Numbers.{times, opt}
use Rattle.store.specs.Meaning.{Meaning, Reached, by_hold, by_link, Moved}
use Rattle.store.specs.Rooted.{root_at}
use Rattle.store.specs.NumbersLemmas.{hit_cases}
use Rattle.bench.specs.Machine.{Machine, spend, filled, released}
use Rattle.bench.specs.Picture.{root_by}
use Rattle.bench.specs.Standing.{Standing}
use Rattle.bench.specs.Laws.{StartStands, RestStands, ReleaseStands, CopyStands, PartStands}
use Rattle.bench.proofs.Slots.{named_spend, named_fill, named_filled, root_at_by, filled_by}
use Rattle.bench.proofs.Agree.{links_agree}
use Rattle.bench.proofs.Kept.{reached_found, found_reached, was_reached, slot_held, keeps}

pub start_stands : StartStands
start_stands m none = (
  λ c. c,
  record {
    sound = record { earlier = λ j i h. absurd (omega arith); there = λ i h. absurd (omega arith) };
    agree = record { roots = refl; content = λ c f. absurd (nothing (found_reached none f)); apart = λ c d f g e. e };
    out = none;
    inside = λ c r. absurd (nothing r);
  },
)
  where
    nothing : {c : ℕ} → Reached m c → ⊥
    nothing {c} (by_hold h) = omega (arith, none c)
    nothing (by_link r h) = nothing r

pub rest_stands : RestStands
rest_stands t slots m n (own, s) v =
    (own, keeps s t.roots slots n s.agree.roots v.sized (λ d. omega (arith, v.held d, s.out d)) (was_reached v (λ d i. absurd (omega arith))))

module _ {t : Machine} {slots : List (Option ℕ)} {m : Meaning} {own : ℕ → ℕ} (s : Standing t slots m own) where
  -- the machine's roots: each, one in use, and all without one
  pub root_is : (r : ℕ) → root_at t.roots r ≡ root_by own (root_at slots r)
  root_is r = ap (λ l. root_at l r) s.agree.roots ∙ root_at_by own slots r

  pub root_own : (r c : ℕ) → root_at slots r ≡ Some c → root_at t.roots r ≡ Some (own c)
  root_own r c e = root_is r ∙ ap (root_by own) e

  pub spend_own : (r : ℕ) → spend t.roots r ≡ map (root_by own) (spend slots r)
  spend_own r = ap (λ l. spend l r) s.agree.roots ∙ sym (map-set (root_by own) slots r None)

  pub released_standing : (n : Meaning) (r c : ℕ) → root_at slots r ≡ Some c → Moved m n (c ∷ []) [] → Standing (released t r) (spend slots r) n own
  released_standing n r c e v =
      keeps s (spend t.roots r) (spend slots r) n (spend_own r) v.sized
      (λ d. omega (arith, v.held d, s.out d, named_spend d slots r, ap (λ o. times d (opt o)) e))
      (was_reached v (λ d i. absurd (omega arith)))

pub release_stands : ReleaseStands
release_stands t slots m n r c (own, s) e v = (own, released_standing s n r c e v)

pub copy_stands : CopyStands
copy_stands t slots m n a d c (own, s) e h z v = (
  own,
  keeps s _ (set slots d (Some c)) n (rw (root_own s a c e, s.agree.roots) (sym (map-set (root_by own) slots d (Some c)))) v.sized
      (λ x. omega (arith, v.held x, s.out x, named_fill x slots d c h z))
      (was_reached v (λ x i. by_hold (⊎_elim (λ p. omega (arith, slot_held s a c e, ap m.holds p.0)) (λ p. absurd (omega (arith, p.1))) (hit_cases x c)))),
)

pub part_stands : PartStands
part_stands t slots m n r c rs (own, s) e f v = (
  own,
  keeps s _ (filled (spend slots r) rs (m.content c).links) n
      (rw (root_own s r c e, links_agree s.agree (reached_found s.out here), spend_own s r) (filled_by own (spend slots r) rs (m.content c).links)) v.sized
      (λ d. omega (arith, v.held d, s.out d, named_spend d slots r, ap (λ o. times d (opt o)) e, named_filled d (spend slots r) rs (m.content c).links f))
      (was_reached v (λ d i. by_link here i)),
)
  where
    here : Reached m c
    here = by_hold (slot_held s r c e)
