use Rattle.std.proofs.Common.{◌≡◌, ◌+◌, cond, eqb, length, Some, None, sym, ap, ◌∙◌, arith, ext_get_or, below_more}
use Rattle.std.proofs.lemmas.Bool.{eq-eqb, ne_eqb, cond-true, cond-false}
use Rattle.store.specs.Cells.{empty}
use Rattle.store.specs.Setup.{fresh_cell, fresh_from}
use Rattle.store.proofs.Fresh.{fresh_length, fresh_at}
use Rattle.store.specs.CellsLemmas.{at_self, at_other}
use Rattle.store.proofs.table.list_all.Goals as goal
use Rattle.store.proofs.table.list_all.Goals.{then-i-n, else-i-n}

pub each-preserved : goal.each-preserved
each-preserved c =
    let n = length c.args.cells.now in
    let i = c.each.i in
    let next : c.if-i-n.cell ≡ cond (eqb (i + 1) n) None (Some (i + 1)) =
    elim c.if-i-n.branch [
      | then-i-n w ↦ w.cell-is ∙ sym (cond-true (eqb (i + 1) n) None (Some (i + 1)) (eq-eqb (i + 1) n w.if-i-n.true))
      | else-i-n w ↦ w.cell-is ∙ sym (cond-false (eqb (i + 1) n) None (Some (i + 1)) (ne_eqb (i + 1) n w.if-i-n.false))
    ] in
    below_more _ _
    (λ k h. at_other c.each.cells i (empty 0 c.if-i-n.cell) k (λ e. omega arith) ∙ c.each.invariant k h)
    (at_self c.each.cells i (empty 0 c.if-i-n.cell) (omega arith) ∙ ap (empty 0) next)

pub returns : goal.returns
returns c =
    let n = length c.args.cells.now in
    ext_get_or (empty 0 None) c.each.cells (fresh_from n 0 n) (c.each.auto.cells ∙ sym (fresh_length n 0 n))
    (λ k h. c.each.invariant k (omega arith) ∙ sym (fresh_at n 0 n k (omega arith) ∙ ap (fresh_cell n) (let e : 0 + k ≡ k = omega arith in e)))
