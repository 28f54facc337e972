-- One list of calls on three benches: over both of our stores, and over any other.
use Rattle.std.specs.Prelude.{◌≡◌, ℕ, List, length, replicate, None}
use Rattle.store.specs.declared.interface.Store.{Ghosts}
use Rattle.bench.specs.declared.call.Call.{Call}
use Rattle.bench.specs.declared.bench.Bench.{Bench}
use Rattle.bench.specs.Machine.{Machine, Shaped, start}
use Rattle.bench.specs.Standing.{Stands}
use Rattle.bench.specs.Lists.{Reply, Shown}
use Rattle.desk.specs.Ours.{Deferring, Eager, deferring, eager, DeferringLaw, EagerLaw, Lawful}

-- what is told of a list by its number of cells, machine, calls, answers, and the bench before and after
abbrev pub Tells : Type 0 → Type 1
Tells S = ℕ → Machine → List Call → List Reply → Bench S → Bench S → Type 0

-- it is told for every machine that the bench stands for; for the machine at its start where no root is in use, as at set-up
pub record Sat {S : Type 0} (G : Ghosts S) (tells : Tells S) (calls : List Call) (rs : List Reply) (b e : Bench S) : Type 0 where
  pub every : (t : Machine) → Stands t b.roots.slots (G.means b.store) → Shaped t → tells (G.means b.store).size t calls rs b e
  pub fresh : b.roots.slots ≡ replicate 16 None → tells (G.means b.store).size start calls rs b e

-- three benches before a list, or after it
pub record Three (S : Type 0) : Type 0 where
  pub one : Bench Deferring
  pub two : Bench Eager
  pub any : Bench S

-- their answers
pub record Answered : Type 0 where
  pub one : List Reply
  pub two : List Reply
  pub any : List Reply

pub record Whole {S : Type 0} (G : Ghosts S) (calls : List Call) (rs : Answered) (b e : Three S) : Type 0 where
  pub on_deferring : Sat deferring (Lawful deferring DeferringLaw) calls rs.one b.one e.one
  pub on_eager : Sat eager (Lawful eager EagerLaw) calls rs.two b.two e.two
  pub on_any : Sat G (Shown G) calls rs.any b.any e.any

-- some of the answers have not as many places as there are calls, and nothing is changed
pub record Unplaced {S : Type 0} (calls : List Call) (qs rs : Answered) (b e : Three S) : Type 0 where
  pub short : (length qs.one ≡ length calls) × (length qs.two ≡ length calls) × (length qs.any ≡ length calls) → ⊥
  pub benches : e ≡ b
  pub places : rs ≡ qs
