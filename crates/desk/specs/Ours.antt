-- Our two stores under a bench: what each call leaves of their tables.
use Rattle.std.specs.Prelude.{◌≡◌, ℕ, ◌+◌, List, Option, refl}
use Rattle.store.specs.declared.cell.Cell.{Cell}
use Rattle.store.specs.declared.lowering.Later.{Later}
use Rattle.store.specs.declared.lowering.AtOnce.{AtOnce}
use Rattle.store.specs.declared.stores.Counting.{Counting}
use Rattle.store.specs.declared.interface.Store.{Ghosts}
use Rattle.store.specs.Numbers.{times}
use Rattle.store.specs.Meaning.{Asked}
use Rattle.store.specs.Cells.{at, inlinks, meaning}
use Rattle.store.specs.Rooted.{named}
use Rattle.store.specs.Heap.{Heap}
use Rattle.store.specs.Sound.{Okay}
use Rattle.store.specs.Stores.{DeferringDid, EagerOkay, EagerDid, few_changed, all_clean}
use Rattle.store.specs.View.{heap}
use Rattle.bench.specs.declared.call.Call.{Call}
use Rattle.bench.specs.declared.bench.Bench.{Bench}
use Rattle.bench.specs.Machine.{Machine}
use Rattle.bench.specs.Lists.{Reply, Throughout, Shown}

-- our two stores, by how they lower a cell
abbrev pub Deferring : Type 0
Deferring = Counting Later

abbrev pub Eager : Type 0
Eager = Counting AtOnce

-- how a store on a table of counted cells reads: what it keeps of the table, and what one change does to it
abbrev pub ours : {L : Type 0} → (Heap → Type 0) → (Heap → Asked → Heap → Type 0) → Ghosts (Counting L)
ours okay did = record { ok = λ s. okay (heap s.table); means = λ s. meaning s.table.cells.now; kept = λ s t. heap t.table ≡ heap s.table; rests = λ s. refl; did = λ s q t. did (heap s.table) q (heap t.table) }

abbrev pub deferring : Ghosts Deferring
deferring = ours Okay DeferringDid

abbrev pub eager : Ghosts Eager
eager = ours EagerOkay EagerDid

-- every cell's count is how many roots name it and how many links lead to it
abbrev pub Counted : List (Option ℕ) → List Cell → Type 0
Counted slots cells = (c : ℕ) → (at cells c).count ≡ times c (named slots) + inlinks c cells

-- a call on a bench over one of our stores: counts are right, and the tables before and after it show what the store's calls show
pub record OurLaw {L : Type 0} (seen : Heap → Heap → Type 0) (b e : Bench (Counting L)) : Type 0 where
  pub counts : Counted e.roots.slots e.store.table.cells.now
  pub shows : seen (heap b.store.table) (heap e.store.table)

-- on the deferring bench: counts are right, and at most four cells are changed
abbrev pub DeferringLaw : Bench Deferring → Bench Deferring → Type 0
DeferringLaw = OurLaw few_changed

-- on the eager bench: counts are right, and a cell of count 0 is wiped
abbrev pub EagerLaw : Bench Eager → Bench Eager → Type 0
EagerLaw = OurLaw all_clean

-- a list was served, each turn shows what it shows over any store, and a law of the store's own holds of it
pub record Lawful {S : Type 0} (G : Ghosts S) (P : Bench S → Bench S → Type 0) (n : ℕ) (t : Machine) (calls : List Call) (rs : List Reply) (b e : Bench S) : Type 0 where
  pub shown : Shown G n t calls rs b e
  pub law : Throughout (λ t call r b e. P b e) shown.served.turns
