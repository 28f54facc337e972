-- Both ways to lower a cell keep and tell what they say.
use Rattle.std.specs.Prelude.{◌≡◌, ℕ, List, [], Option, refl}
use Rattle.std.proofs.Common.{sym, ap, ◌∙◌, ⊎_elim, arith}
use Rattle.std.proofs.lemmas.Bool.{cases_eq, eq-eqb, ne_eqb}
use Rattle.store.specs.declared.cell.Cell.{Cell}
use Rattle.store.specs.Cells.{empty, at}
use Rattle.store.specs.Heap.{Heap, deferred, settled}
use Rattle.store.specs.Sound.{Okay, Wiped, Clean, Tidy, reclaimed}
use Rattle.store.specs.Stores.{DeferringDid, EagerOkay, EagerDid, Keeping, Telling, few_changed, all_clean}
use Rattle.store.specs.Few.{after_few}
use Rattle.store.specs.Pile.{settles}

pub later_keeps : Keeping deferred Okay (λ x. x)
later_keeps = record { reads = λ h. (λ o. (o, λ c. refl), λ p. p.0); blank = λ n o. refl; busy = λ x p. refl; lowers = λ h c o out t d. refl }

pub later_tells : Telling deferred Okay DeferringDid few_changed
later_tells = record {
  told = λ h q. record { table = refl; few = after_few h q };
  shown = λ h k o r. ⊎_elim (λ e. record { which = []; few = omega arith; rest = λ d z. ap (λ (x : Heap). at x.cells d) e }) (λ p. p.1.few) r;
}

wiped_is : (x : Cell) → Wiped x → empty 0 x.next ≡ x
wiped_is x w = λ i. record { kind = sym w.kind i; value = sym w.value i; link0 = sym w.link0 i; link1 = sym w.link1 i; count = sym w.count i; next = x.next }

pub clean_tidy : (cells : List Cell) → Clean cells → Tidy reclaimed cells
clean_tidy cells k c = ⊎_elim
    (λ e. rw (eq-eqb (at cells c).count 0 e) (wiped_is (at cells c) (k c e)))
    (λ ne. rw (ne_eqb (at cells c).count 0 ne) refl)
    (cases_eq (at cells c).count 0)

is_wiped : (x : Cell) → reclaimed x ≡ x → x.count ≡ 0 → Wiped x
is_wiped x e z =
    let w : empty 0 x.next ≡ x = sym (rw (eq-eqb x.count 0 z) refl) ∙ e in
    record { kind = sym (ap (λ (y : Cell). y.kind) w); value = sym (ap (λ (y : Cell). y.value) w); link0 = sym (ap (λ (y : Cell). y.link0) w); link1 = sym (ap (λ (y : Cell). y.link1) w); count = z }

pub tidy_clean : (cells : List Cell) → Tidy reclaimed cells → Clean cells
tidy_clean cells t c z = is_wiped (at cells c) (t c) z

pub at_once_keeps : Keeping settled EagerOkay reclaimed
at_once_keeps = record {
  reads = λ h. (λ o. (o.okay, clean_tidy h.cells o.clean), λ p. record { okay = p.0; clean = tidy_clean h.cells p.1 });
  blank = λ n next. blank n next;
  busy = λ x p. rw (ne_eqb x.count 0 (λ e. omega arith)) refl;
  lowers = λ h c o out t. clean_tidy (settled h c).cells ((settles h c o out).wiped (tidy_clean h.cells t));
}
  where
    blank : (n : ℕ) (next : Option ℕ) → reclaimed (empty n next) ≡ empty n next
    blank n next = ⊎_elim (λ e. rw (eq-eqb n 0 e) (ap (λ i. empty i next) (sym e))) (λ ne. rw (ne_eqb n 0 ne) refl) (cases_eq n 0)

pub at_once_tells : Telling settled EagerOkay EagerDid all_clean
at_once_tells = record { told = λ h q. record { table = refl }; shown = λ h k o r. o.clean }
