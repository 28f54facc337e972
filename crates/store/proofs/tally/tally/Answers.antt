use Rattle.std.proofs.Common.{◌≡◌, ℕ, ◌+◌, ◌<◌, ◌≤◌, List, [], ◌∷◌, ◌++◌, length, take, None, ap, ◌∙◌, arith, rules}
use Rattle.std.proofs.lemmas.List.{take_more, take_all}
use Rattle.store.specs.declared.cell.Cell.{Cell}
use Rattle.store.specs.Cells.{empty, at, total}
use Rattle.store.proofs.tally.tally.Goals as goal

total_append : (xs ys : List Cell) → total (xs ++ ys) ≡ total xs + total ys
total_append [] ys = omega arith
total_append (x ∷ xs) ys = omega (arith, total_append xs ys)

-- one cell more
total_more : (xs : List Cell) (i : ℕ) → i < length xs → total (take (i + 1) xs) ≡ total (take i xs) + (at xs i).count
total_more xs i l = ap total (take_more xs i (empty 0 None) l) ∙ total_append (take i xs) (at xs i ∷ []) ∙ (let e : total (take i xs) + total (at xs i ∷ []) ≡ total (take i xs) + (at xs i).count = omega arith in e)

pub each-preserved : goal.each-preserved
each-preserved c =
    let small : c.from-sum.result ≤ 65535 = search rules in
    (omega (arith, total_more c.args.cells.now c.each.cell-index c.each-test.true, c.each.invariant.0, c.from-sum.ensures), omega (arith, c.each.invariant.1, small))

pub returns : goal.returns
returns c = c.each.invariant.0 ∙ ap total (take_all c.each.cell-index c.args.cells.now c.each-test.false)
