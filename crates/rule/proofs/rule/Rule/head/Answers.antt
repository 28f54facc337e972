use Rattle.std.proofs.Common.{◌≡◌, ℕ, true, ltb, List, length, is_ok, Err, vec_items, Result, sym, ap, ◌∙◌, subst}
use Rattle.std.proofs.lemmas.Bool.{cond_both, false≢true}
use Rattle.rule.specs.declared.fault.Flaw.{Flaw}
use Rattle.rule.specs.declared.fault.RuleFault.{RuleFault}
use Rattle.rule.specs.Sheet.{Head}
use Rattle.rule.specs.Read.{head_at}
use Rattle.rule.specs.Check.{answer, faulted, by_head}
use Rattle.rule.proofs.rule.Rule.head.Goals as goal

-- bytes whose head cannot be read do not pass
no_head : (xs : List ℕ) (e : Flaw) → head_at xs ≡ Err e → is_ok (answer xs) ≡ true → ⊥
unfolding answer
no_head xs e is ok = cond_both (ltb 4096 (length xs)) _ _ (λ (r : Result ℕ RuleFault). is_ok r ≡ true → ⊥)
    (λ _. λ z. false≢true z)
    (λ _. subst (λ (x : Result (Head × List ℕ) Flaw). is_ok (faulted (by_head x)) ≡ true → ⊥) (sym is) (λ z. false≢true z)) ok

pub unreachable-requires : goal.unreachable-requires
unreachable-requires c = no_head (vec_items c.args.self.now.bytes) c.in-Err.field-0 (ap head_at (sym c.deref.ensures.value) ∙ sym c.in-Err.ensures) c.args.self.now.passed

pub returns : goal.returns
returns c = (c.in-Ok.field-0-1.now, ap head_at (sym c.deref.ensures.value) ∙ sym c.in-Ok.ensures)
