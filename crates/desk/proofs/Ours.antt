-- The laws of our two stores, turn by turn.
use Rattle.std.proofs.Common.{◌≡◌, ℕ, List, length, Ok, Err, Option, sym, refl, ap, ◌∙◌, subst, inl, inr, arith}
use Rattle.store.specs.declared.cell.Cell.{Cell}
use Rattle.store.specs.declared.stores.Counting.{Counting}
use Rattle.store.specs.declared.interface.Store.{Ghosts}
use Rattle.store.specs.Numbers.{times}
use Rattle.store.specs.Meaning.{Asked, Out}
use Rattle.store.specs.Cells.{meaning}
use Rattle.store.specs.Heap.{Heap}
use Rattle.store.specs.Rooted.{named}
use Rattle.store.specs.Plain.{Plain}
use Rattle.store.specs.Sound.{Okay, Tidy}
use Rattle.store.specs.Stores.{Keeping, Telling}
use Rattle.store.specs.View.{heap}
use Rattle.bench.specs.declared.call.Call.{Call}
use Rattle.bench.specs.declared.call.Call.TheVariants.{Make, Copy, Release, Match, Rebuild, Look, Same}
use Rattle.bench.specs.declared.call.Answer.TheVariants.{Done, Value, OtherKind, Cell as Seen, Sameness}
use Rattle.bench.specs.declared.bench.Bench.{Bench}
use Rattle.bench.specs.Machine.{Machine, Shaped, start}
use Rattle.bench.specs.Standing.{Stands}
use Rattle.bench.specs.Bench.{Stood, One, Effect}
use Rattle.bench.specs.Lists.{Reply, Served}
use Rattle.desk.specs.Ours.{ours, Counted, OurLaw, Lawful}
use Rattle.desk.specs.Whole.{Tells, Sat}
use Rattle.store.proofs.Plain.{okay as plain_okay}
use Rattle.bench.proofs.Moves.{start_stands}
use Rattle.bench.proofs.Ordered.{ordered_stands}
use Rattle.bench.proofs.Serving.{throughout, shown}

-- what the one change of any call keeps
one : (slots : List (Option ℕ)) (call : Call) {did : Asked → Type 0} {X : Type 0} → ((q : Asked) → did q → X) → One slots call did → X
one slots (Make d k v a b) f x = f _ x
one slots (Copy s d) f x = f _ x
one slots (Release r) f x = f _ x
one slots (Match r k a b) f x = f _ x
one slots (Rebuild r k v a b) f x = f _ x
one slots (Look r) f x = absurd x
one slots (Same r s) f x = absurd x

-- a call changes nothing, or makes one change
either : (slots new : List (Option ℕ)) (call : Call) (r : Reply) {kept : Type 0} {did : Asked → Type 0} {X : Type 0} → (kept → X) → ((q : Asked) → did q → X) → Effect slots call r new kept did → X
either slots new call (Err e) f g x = f x.1
either slots new call (Ok Done) f g x = one slots call g x
either slots new call (Ok (Value v)) f g x = one slots call g x
either slots new call (Ok OtherKind) f g x = f x.1
either slots new call (Ok (Seen k v)) f g x = f x.1
either slots new call (Ok (Sameness b)) f g x = f x.1

counted : (h : Heap) (slots : List (Option ℕ)) → Okay h → Out (meaning h.cells) (named slots) → Counted slots h.cells
counted h slots o out c = omega (arith, o.sound.counted c, out c)

module _ {L : Type 0} {okay : Heap → Type 0} {tidy : Cell → Cell} {did : Heap → Asked → Heap → Type 0} {shows : Heap → Heap → Type 0} {lowered : Heap → ℕ → Heap} (keeps : Keeping lowered okay tidy) (tells : Telling lowered okay did shows) where
  pub our_law : (b e : Bench (Counting L)) (call : Call) (r : Reply) → okay (heap e.store.table) → Out (meaning e.store.table.cells.now) (named e.roots.slots) →
      Effect b.roots.slots call r e.roots.slots (heap e.store.table ≡ heap b.store.table) (λ q. did (heap b.store.table) q (heap e.store.table)) → OurLaw shows b e
  our_law b e call r o out x = record {
    counts = counted (heap e.store.table) e.roots.slots ((keeps.reads (heap e.store.table)).0 o).0 out;
    shows = tells.shown (heap b.store.table) (heap e.store.table) o (either b.roots.slots e.roots.slots call r inl (λ q d. inr (q, d)) x);
  }

  pub lawful : {n : ℕ} {t : Machine} {calls : List Call} {rs : List Reply} {b e : Bench (Counting L)} → Served (ours okay did) n t calls rs b e → Lawful (ours okay did) (OurLaw shows) n t calls rs b e
  lawful s = record { shown = shown s; law = throughout (λ t call r b e x. our_law b e call r x.ok x.follows.stands.1.out x.effect) s.turns }

  -- what a bench asks of its store: the type has it
  pub ready : (b : Bench (Counting L)) → length b.roots.slots ≡ 16 → Plain (heap b.store.table) → Tidy tidy b.store.table.cells.now → Out (meaning b.store.table.cells.now) (named b.roots.slots) →
      okay (heap b.store.table) × Stood b.roots.slots (meaning b.store.table.cells.now)
  ready b sized p t out = let o = plain_okay (heap b.store.table) p in ((keeps.reads (heap b.store.table)).1 (o, t), ordered_stands (heap b.store.table) b.roots.slots o sized out)

-- what is told for every machine is told for the machine at its start where no root is in use
pub sat : {S : Type 0} (G : Ghosts S) (tells : Tells S) (calls : List Call) (rs : List Reply) (b e : Bench S) → Out (G.means b.store) (named b.roots.slots) →
    ((t : Machine) → Stands t b.roots.slots (G.means b.store) → Shaped t → tells (G.means b.store).size t calls rs b e) → Sat G tells calls rs b e
sat G tells calls rs b e out every = record {
  every = every;
  fresh = λ z. every start (subst (λ (l : List (Option ℕ)). Stands start l (G.means b.store)) (sym z) (start_stands (G.means b.store) (λ c. out c ∙ ap (λ (l : List (Option ℕ)). times c (named l)) z))) (λ i. refl);
}
