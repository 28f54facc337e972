-- Agreement, said once of any two pictures, and what a person sees of it.
use Rattle.std.specs.Prelude.{◌≡◌, ℕ, ◌↔◌, List, [], ◌∷◌, map, ℤ, Some, None, Option}
use Rattle.store.specs.Numbers.{In, item}
use Rattle.store.specs.Meaning.{Node, Meaning}
use Rattle.store.specs.Rooted.{root_at, named}
use Rattle.bench.specs.Machine.{Machine, node_at}

-- roots, and what stands at each number
pub record Picture : Type 0 where
  pub roots : List (Option ℕ)
  pub content : ℕ → Node

-- the machine's roots and nodes
abbrev pub machine_picture : Machine → Picture
machine_picture t = record { roots = t.roots; content = node_at t.nodes }

-- the bench's slots, over what its store means
abbrev pub bench_picture : List (Option ℕ) → Meaning → Picture
bench_picture slots m = record { roots = slots; content = m.content }

-- found: named by a root, or linked from what is found
pub data Found (p : Picture) : ℕ → Type 0 where
  from_root : {c : ℕ} → In c (named p.roots) → Found p c
  from_link : {j c : ℕ} → Found p j → In c (p.content j).links → Found p c

-- a root under other numbers
abbrev pub root_by : (ℕ → ℕ) → Option ℕ → Option ℕ
root_by f None = None
root_by f (Some c) = Some (f c)

-- a node with its links under other numbers
abbrev pub node_by : (ℕ → ℕ) → Node → Node
node_by f x = record { kind = x.kind; value = x.value; links = map f x.links }

-- q is p under the numbers of f, as far as anything is found
pub record Agree (p q : Picture) (f : ℕ → ℕ) : Type 0 where
  pub roots : q.roots ≡ map (root_by f) p.roots
  pub content : (c : ℕ) → Found p c → q.content (f c) ≡ node_by f (p.content c)
  pub apart : (c d : ℕ) → Found p c → Found p d → f c ≡ f d → c ≡ d

-- where link k leads
abbrev pub hop : Picture → Option ℕ → ℕ → Option ℕ
hop p None k = None
hop p (Some c) k = item (p.content c).links k

-- and one link after another
abbrev pub walk : Picture → Option ℕ → List ℕ → Option ℕ
walk p o [] = o
walk p o (k ∷ ks) = walk p (hop p o k) ks

-- what is found at a root and along a path of links
abbrev pub find : Picture → ℕ → List ℕ → Option ℕ
find p r path = walk p (root_at p.roots r) path

-- what a find shows: nothing, or a kind and a value
abbrev pub shown : Picture → Option ℕ → Option (ℕ × ℤ)
shown p None = None
shown p (Some c) = Some ((p.content c).kind, (p.content c).value)

-- every find shows the same, and two finds are one in p exactly where they are one in q
pub record LooksAlike (p q : Picture) : Type 0 where
  pub shows : (r : ℕ) (path : List ℕ) → shown p (find p r path) ≡ shown q (find q r path)
  pub meets : (r : ℕ) (path : List ℕ) (s : ℕ) (way : List ℕ) → (find p r path ≡ find p s way) ↔ (find q r path ≡ find q s way)
