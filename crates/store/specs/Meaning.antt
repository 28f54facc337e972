-- What any store means, in words that no store's own machinery enters.
use Rattle.std.specs.Prelude.{◌≡◌, ℕ, ◌+◌, ◌-◌, ◌<◌, ◌≤◌, cond, List, [], ◌∷◌, length, ℤ, nat_lt}
use Rattle.store.specs.Numbers.{hit, times, In}

-- how many links a cell of a kind has
abbrev pub arity : ℕ → ℕ
arity k = cond (nat_lt k 64) 0 (cond (nat_lt k 128) 1 2)

-- no kind has more
abbrev pub most_links : ℕ
most_links = 2

-- what a cell holds; links are numbers of cells, link 0 first
pub record Node : Type 0 where
  pub kind : ℕ
  pub value : ℤ
  pub links : List ℕ

-- size: how many cells there are. holds: how many holds are out on each cell. content: what each reached cell holds
pub record Meaning : Type 0 where
  pub size : ℕ
  pub holds : ℕ → ℕ
  pub content : ℕ → Node

-- a cell is reached by a hold on it, or by a link of a reached cell
pub data Reached (m : Meaning) : ℕ → Type 0 where
  by_hold : {c : ℕ} → 0 < m.holds c → Reached m c
  by_link : {j c : ℕ} → Reached m j → In c (m.content j).links → Reached m c

-- m with one hold on c spent
abbrev pub less : Meaning → ℕ → Meaning
less m c = record { size = m.size; holds = λ d. m.holds d - hit d c; content = m.content }

-- some holds are spent and some given; a cell that was reached and still is keeps its content
pub record Moved (m n : Meaning) (spent given : List ℕ) : Type 0 where
  pub sized : n.size ≡ m.size
  pub held : (d : ℕ) → n.holds d + times d spent ≡ m.holds d + times d given
  pub kept : (d : ℕ) → Reached m d → Reached n d → n.content d ≡ m.content d

-- nothing is spent or given
abbrev pub Unchanged : Meaning → Meaning → Type 0
Unchanged m n = Moved m n [] []

-- c was not reached, and is given with the content asked for; a hold on each of its links is spent
pub record Made (m n : Meaning) (node : Node) (c : ℕ) : Type 0 where
  pub moved : Moved m n node.links (c ∷ [])
  pub inside : c < m.size
  pub fresh : Reached m c → ⊥
  pub written : n.content c ≡ node

-- every cell is reached
abbrev pub Full : Meaning → Type 0
Full m = (c : ℕ) → c < m.size → Reached m c

-- the holds out are those of the list, each as often as it stands there
abbrev pub Out : Meaning → List ℕ → Type 0
Out m xs = (c : ℕ) → m.holds c ≡ times c xs

-- at most 1,000 holds are out in all: a list of at most 1,000 places has them
pub record Few (m : Meaning) : Type 0 where
  pub all : List ℕ
  pub most : length all ≤ 1000
  pub within : (c : ℕ) → m.holds c ≤ times c all

-- there is a hold out for each link of a new cell
abbrev pub Spare : Meaning → List ℕ → Type 0
Spare m links = (d : ℕ) → times d links ≤ m.holds d

-- what a store is asked to change
pub data Asked : Type 0 where
  making : Node → Asked
  copying : ℕ → Asked
  releasing : ℕ → Asked
  parting : ℕ → Asked
  rebuilding : ℕ → Node → Asked
