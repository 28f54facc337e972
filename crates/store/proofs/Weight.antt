-- What falls with each turn of the pile: the counts, and how many cells wait.
use Rattle.std.proofs.Common.{◌≡◌, ℕ, zero, suc, ◌+◌, ◌<◌, ◌≤◌, List, [], ◌∷◌, length, Some, None, Option, sym, refl, ap, ◌∙◌, ⊎_elim, arith, length-append}
use Rattle.std.proofs.lemmas.Bool.{cases_lt}
use Rattle.store.specs.declared.cell.Cell.{Cell}
use Rattle.store.specs.Numbers.{times, In}
use Rattle.store.specs.Cells.{at, total}
use Rattle.store.specs.Heap.{Heap, turned, turned_pile, drained}
use Rattle.store.specs.Sound.{Sound, Chain, Piling}
use Rattle.store.specs.Plain.{walked}
use Rattle.store.proofs.Count.{length_most}
use Rattle.store.specs.Pile.{weight, topmost, turn, none_some}

-- the numbers met along the successors, at most k
pub along : ℕ → List Cell → Option ℕ → List ℕ
along zero cells head = []
along (suc k) cells None = []
along (suc k) cells (Some c) = c ∷ along k cells (at cells c).next

along_chain : (cs : List ℕ) (k : ℕ) (cells : List Cell) (head : Option ℕ) → Chain cells head cs → length cs ≤ k → along k cells head ≡ cs
unfolding along
along_chain [] zero cells head h l = refl
along_chain [] (suc k) cells None h l = refl
along_chain [] (suc k) cells (Some c) h l = none_some (sym h)
along_chain (d ∷ ds) zero cells head h l = absurd (omega arith)
along_chain (d ∷ ds) (suc k) cells None h l = none_some h.0
along_chain (d ∷ ds) (suc k) cells (Some c) h l =
    let e : c ≡ d = (let q = h.0 in cc) in
    let r : along k cells (at cells d).next ≡ ds = along_chain ds k cells (at cells d).next h.1 (omega arith) in
    rw e (ap {B = List ℕ} (λ xs. d ∷ xs) r)

walked_along : (k : ℕ) (cells : List Cell) (head : Option ℕ) → walked k cells head ≡ along k cells head
unfolding walked along
walked_along zero cells head = refl
walked_along (suc k) cells None = refl
walked_along (suc k) cells (Some c) = ap (λ (xs : List ℕ). c ∷ xs) (walked_along k cells (at cells c).next)

-- a chain that is not longer than the walk is what is walked
pub walked_chain : (cs : List ℕ) (k : ℕ) (cells : List Cell) (head : Option ℕ) → Chain cells head cs → length cs ≤ k → walked k cells head ≡ cs
walked_chain cs k cells head h l = walked_along k cells head ∙ along_chain cs k cells head h l

-- the idle cells are no more than the table has
pub idle_few : {cells : List Cell} {idle : List ℕ} → Sound cells idle → length idle ≤ length cells
idle_few {cells} {idle} s = length_most idle once (length cells) small
  where
    small : (d : ℕ) → In d idle → d < length cells
    small d i = ⊎_elim (λ l. l) (λ l. absurd (omega (arith, s.beyond d l))) (cases_lt d (length cells))

    once : (d : ℕ) → times d idle ≤ 1
    once d = ⊎_elim
        (λ l. ⊎_elim (λ u. omega (arith, s.used d u)) (λ z. omega (arith, s.each d l (omega arith))) (cases_lt 0 (at cells d).count))
        (λ l. omega (arith, s.beyond d l))
        (cases_lt d (length cells))

-- the weight, read off the table
pub load : Heap → Option ℕ → ℕ
load h pile = total h.cells + length (along (length h.cells) h.cells pile)

pub load_is : {h : Heap} {pile : Option ℕ} (p : Piling h pile) → load h pile ≡ weight p
unfolding load
load_is {h} {pile} p =
    let e = along_chain p.waiting (length h.cells) h.cells pile p.top (omega (arith, idle_few p.sound, length-append p.waiting p.listed)) in
    ap (λ (xs : List ℕ). total h.cells + length xs) e

-- one turn
pub turn_on : {h : Heap} {c : ℕ} → Piling h (Some c) → Piling (turned h c) (turned_pile h c)
turn_on {h} {c} p = let t = topmost p in (turn h c t.below t.listed t.chain t.free t.sound).0

pub turn_lighter : {h : Heap} {c : ℕ} → Piling h (Some c) → load (turned h c) (turned_pile h c) < load h (Some c)
turn_lighter {h} {c} p =
    let t = topmost p in
    let r = turn h c t.below t.listed t.chain t.free t.sound in
    let q : Piling h (Some c) = record { waiting = c ∷ t.below; listed = t.listed; top = (refl, t.chain); free = t.free; sound = t.sound } in
    omega (arith, load_is r.0, load_is q, r.2)

pub drained_none : (k : ℕ) (h : Heap) → drained k h None ≡ h
unfolding drained
drained_none zero h = refl
drained_none (suc k) h = refl
