-- What a bench may ask of its store, and the shape of cells.
use Rattle.std.proofs.Common.{◌≡◌, ℕ, ◌≤◌, eqb, List, [], ◌∷◌, ◌++◌, length, Some, None, Option, sym, refl, ap, ◌∙◌, subst, ⊎_elim, arith}
use lib.ListN.{length-map}
use Rattle.std.proofs.lemmas.List.{get_or_append_left, get_or_at, get_or_past, length_push}
use Rattle.std.proofs.lemmas.Bool.{cases_eq, cases_order, eq-eqb, ne_eqb}
use Rattle.store.specs.Meaning.{Node, arity, Meaning, Reached, Spare}
use Rattle.store.specs.Rooted.{named}
use Rattle.bench.specs.Machine.{Machine, blank, taken}
use Rattle.bench.specs.Standing.{Standing}
use Rattle.bench.specs.Laws.{MayAsk, MadeShaped, CellsShaped}
use Rattle.bench.proofs.Slots.{named_spent, taken_by}
use Rattle.bench.proofs.Kept.{reached_found, slot_held}
use Rattle.bench.proofs.Rebuild.{lessens}
use Rattle.bench.proofs.Exact.{own_apart}

named_most : (slots : List (Option ℕ)) → length (named slots) ≤ length slots
named_most [] = omega arith
named_most (None ∷ ss) = omega (arith, named_most ss)
named_most (Some c ∷ ss) = omega (arith, named_most ss)

spares : {t : Machine} {slots : List (Option ℕ)} {m : Meaning} {own : ℕ → ℕ} → Standing t slots m own → (rs : List ℕ) → Spare m (taken slots rs)
spares {slots = slots} s rs d = omega (arith, s.out d, named_spent d slots rs)

pub may_ask : MayAsk
may_ask t slots m (own, s) = record {
  held = slot_held s;
  few = λ h. record { all = named slots; most = omega (arith, named_most slots); within = λ c. omega (arith, s.out c) };
  spare = spares s;
  spare_less = λ r old e. spares (lessens s r old e);
}

pub made_shaped : MadeShaped
made_shaped t d kind value rs shape e i = ⊎_elim
    (λ q. subst Fit (sym (get_or_at t.nodes y [] blank i (sym q))) e)
    (⊎_elim
    (λ l. subst Fit (sym (get_or_append_left t.nodes (y ∷ []) blank i l)) (shape i))
    (λ g. subst Fit (sym (get_or_past (t.nodes ++ y ∷ []) i blank (omega (arith, length_push t.nodes y)))) refl))
    (cases_order i (length t.nodes))
  where
    y : Node
    y = record { kind = kind; value = value; links = taken t.roots rs }

    Fit : Node → Type 0
    Fit x = length x.links ≡ arity x.kind

pub cells_shaped : CellsShaped
cells_shaped t slots m c (own, s) shape r =
    let e = s.agree.content c (reached_found s.out r) in
    sym (length-map (m.content c).links own) ∙ sym (ap (λ (x : Node). length x.links) e) ∙ shape (own c) ∙ ap (λ (x : Node). arity x.kind) e

-- the machine finds as many links as the bench
pub taken_length : {t : Machine} {slots : List (Option ℕ)} {m : Meaning} {own : ℕ → ℕ} → Standing t slots m own → (rs : List ℕ) → length (taken t.roots rs) ≡ length (taken slots rs)
taken_length {slots = slots} {own = own} s rs = ap (λ l. length (taken l rs)) s.agree.roots ∙ ap length (taken_by own slots rs) ∙ length-map (taken slots rs) own

-- two reached cells are one exactly where their nodes are
pub own_same : {t : Machine} {slots : List (Option ℕ)} {m : Meaning} {own : ℕ → ℕ} → Standing t slots m own → {c d : ℕ} → Reached m c → Reached m d → eqb (own c) (own d) ≡ eqb c d
own_same {own = own} s {c} {d} r k = ⊎_elim
    (λ e. eq-eqb (own c) (own d) (ap own e) ∙ sym (eq-eqb c d e))
    (λ ne. ne_eqb (own c) (own d) (λ q. ne (own_apart s r k q)) ∙ sym (ne_eqb c d ne))
    (cases_eq c d)
