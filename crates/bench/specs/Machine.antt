-- The node machine: what a person is told that the calls do. Its steps here come without their tests.
use Rattle.std.specs.Prelude.{◌≡◌, ℕ, zero, suc, ◌<◌, Bool, false, cond, List, [], ◌∷◌, ◌++◌, length, replicate, ℤ, pos, Some, None, Option, nat_lt, slice_index_or, slice_set}
use Rattle.store.specs.Numbers.{times, In, opt}
use Rattle.store.specs.Meaning.{Node, arity}
use Rattle.store.specs.Rooted.{root_at, named}

-- the nodes in the order made, a node's number being its place; each root is empty or names a node
pub record Machine : Type 0 where
  pub nodes : List Node
  pub roots : List (Option ℕ)

-- what stands where there is no node
abbrev pub blank : Node
blank = record { kind = 0; value = pos 0; links = [] }

-- the node of a number
abbrev pub node_at : List Node → ℕ → Node
node_at nodes i = slice_index_or nodes i blank

-- no nodes, and sixteen empty roots
abbrev pub start : Machine
start = record { nodes = []; roots = replicate 16 None }

-- root r is emptied
abbrev pub spend : List (Option ℕ) → ℕ → List (Option ℕ)
spend roots r = slice_set roots r None

-- the roots are emptied one after another: what is left
abbrev pub spent : List (Option ℕ) → List ℕ → List (Option ℕ)
spent roots [] = roots
spent roots (r ∷ rs) = spent (spend roots r) rs

-- and what they named, each when its turn came
abbrev pub taken : List (Option ℕ) → List ℕ → List ℕ
taken roots [] = []
taken roots (r ∷ rs) = opt (root_at roots r) ++ taken (spend roots r) rs

-- the roots rs are filled with the numbers ns, in order
abbrev pub filled : List (Option ℕ) → List ℕ → List ℕ → List (Option ℕ)
filled roots [] ns = roots
filled roots (r ∷ rs) [] = roots
filled roots (r ∷ rs) (n ∷ ns) = filled (slice_set roots r (Some n)) rs ns

-- the links of the node that a root names
abbrev pub links_at : List Node → Option ℕ → List ℕ
links_at nodes None = []
links_at nodes (Some i) = (node_at nodes i).links

-- other roots over the same nodes
abbrev pub rerooted : Machine → List (Option ℕ) → Machine
rerooted t roots = record { nodes = t.nodes; roots = roots }

-- root d names what root s names
abbrev pub copied : Machine → ℕ → ℕ → Machine
copied t s d = rerooted t (slice_set t.roots d (root_at t.roots s))

-- root r is emptied, and no node goes
abbrev pub released : Machine → ℕ → Machine
released t r = rerooted t (spend t.roots r)

-- root r is emptied, and the roots rs name the links of what it named
abbrev pub parted : Machine → ℕ → List ℕ → Machine
parted t r rs = rerooted t (filled (spend t.roots r) rs (links_at t.nodes (root_at t.roots r)))

-- the roots rs are emptied, and root d names a new node whose links are what they named
abbrev pub made : Machine → ℕ → ℕ → ℤ → List ℕ → Machine
made t d kind value rs = record {
  nodes = t.nodes ++ (record { kind = kind; value = value; links = taken t.roots rs } ∷ []);
  roots = slice_set (spent t.roots rs) d (Some (length t.nodes));
}

-- root r is emptied first, and names the new node
abbrev pub rebuilt : Machine → ℕ → ℕ → ℤ → List ℕ → Machine
rebuilt t r kind value rs = made (released t r) r kind value rs

-- one pass over the nodes below n, the newest first: those of the list, and those that their links lead to. Links lead to earlier nodes
abbrev pub swept : List Node → ℕ → List ℕ → List ℕ
swept nodes zero from = []
swept nodes (suc n) from = cond (nat_lt 0 (times n from)) (n ∷ swept nodes n ((node_at nodes n).links ++ from)) (swept nodes n from)

-- the nodes that are reached from the roots
abbrev pub alive : Machine → List ℕ
alive t = swept t.nodes (length t.nodes) (named t.roots)

-- how many they are
abbrev pub live : Machine → ℕ
live t = length (alive t)

-- whether what a root names stands in a list
abbrev pub among : Option ℕ → List ℕ → Bool
among None ns = false
among (Some i) ns = nat_lt 0 (times i ns)

-- whether what root r names is reached from the other roots too
abbrev pub shared : Machine → ℕ → Bool
shared t r = among (root_at t.roots r) (alive (released t r))

-- links lead to earlier nodes, and roots name nodes that are there
pub record Sound (t : Machine) : Type 0 where
  pub earlier : (j i : ℕ) → In i (node_at t.nodes j).links → i < j
  pub there : (i : ℕ) → In i (named t.roots) → i < length t.nodes

-- each node has as many links as its kind
abbrev pub Shaped : Machine → Type 0
Shaped t = (i : ℕ) → length (node_at t.nodes i).links ≡ arity (node_at t.nodes i).kind
