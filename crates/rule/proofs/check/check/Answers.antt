use Rattle.std.proofs.Common.{◌≡◌, ℕ, ◌<◌, ◌≤◌, ltb, ◌↔◌, List, length, get_or, Ok, Err, Result, sym, ap, ◌∙◌, rules}
use Rattle.std.proofs.lemmas.Result.{err_from_is_err_and}
use Rattle.std.proofs.lemmas.Bool.{lt-ltb, le-ltb, cond-true, cond-false}
use Rattle.rule.specs.declared.fault.Flaw.{Flaw}
use Rattle.rule.specs.declared.fault.RuleFault.{RuleFault}
use Rattle.rule.specs.declared.fault.RuleFault.TheVariants.{TooLong, Flawed}
use Rattle.rule.specs.Sheet.{Head}
use Rattle.rule.specs.Read.{head_at}
use Rattle.rule.specs.Check.{answer, faulted, by_head}
use Rattle.rule.specs.Allowed.{Allowed}
use Rattle.rule.specs.Shown.{shown_head_at}
use Rattle.rule.proofs.Checked.{spot, mapped_ok, mapped_err}
use Rattle.rule.proofs.Exact.{passes_exactly}
use Rattle.rule.proofs.check.check.Goals as goal

long : (xs : List ℕ) → 4096 < length xs → Err TooLong ≡ answer xs
unfolding answer
long xs h = sym (cond-true (ltb 4096 (length xs)) _ _ (lt-ltb 4096 (length xs) h))

short : (xs : List ℕ) → length xs ≤ 4096 → faulted (by_head (head_at xs)) ≡ answer xs
unfolding answer
short xs h = sym (cond-false (ltb 4096 (length xs)) _ _ (le-ltb 4096 (length xs) h))

-- an answer that is the definition's is right of what is allowed
exact : (xs : List ℕ) → ((i : ℕ) → get_or xs i 0 < 256) → {r : Result ℕ RuleFault} → r ≡ answer xs → (n : ℕ) → (r ≡ Ok n) ↔ Allowed xs n
exact xs b e n = let p = passes_exactly xs b n in (λ q. p.0 (sym e ∙ q), λ a. e ∙ p.1 a)

pub returns-then-bytes-gt-MOST_BYTES : goal.returns-then-bytes-gt-MOST_BYTES
returns-then-bytes-gt-MOST_BYTES c =
    let t = long c.args.bytes.now c.if-bytes-gt-MOST_BYTES.true in
    record { told = t; allowed = exact c.args.bytes.now (λ i. (c.type_inv.bytes i).fits) t }

pub returns-in_err-head : goal.returns-in_err-head
returns-in_err-head c =
    let q = mapped_err _ c.map_err.ensures.cases c.in_err-head.was in
    let here : c.in_err-head.field-0.0 ≡ spot 0 q.0 = search rules in
    let p = err_from_is_err_and c.from_residual.result c.from_residual.ensures.1 in
    let t = p.1 ∙ ap Err (p.2 ∙ ap Flawed here) ∙ ap (λ (x : Result (Head × List ℕ) Flaw). faulted (by_head x)) (sym (ap shown_head_at q.1) ∙ c.read_head.ensures) ∙ short c.args.bytes.now c.if-bytes-gt-MOST_BYTES.false in
    record { told = t; allowed = exact c.args.bytes.now (λ i. (c.type_inv.bytes i).fits) t }

pub returns-in_err-check_headed : goal.returns-in_err-check_headed
returns-in_err-check_headed c =
    let k = mapped_ok _ c.map_err.ensures.cases c.in_ok-head.was in
    let p = err_from_is_err_and c.from_residual-in_err-check_headed.result c.from_residual-in_err-check_headed.ensures.1 in
    let t = p.1 ∙ ap Err p.2 ∙ ap faulted c.in_err-check_headed.ensures ∙ ap (λ (x : Result (Head × List ℕ) Flaw). faulted (by_head x)) (sym (ap shown_head_at k) ∙ c.read_head.ensures) ∙ short c.args.bytes.now c.if-bytes-gt-MOST_BYTES.false in
    record { told = t; allowed = exact c.args.bytes.now (λ i. (c.type_inv.bytes i).fits) t }

pub returns : goal.returns
returns c =
    let k = mapped_ok _ c.map_err.ensures.cases c.in_ok-head.was in
    let t = ap faulted c.in_ok-check_headed.ensures ∙ ap (λ (x : Result (Head × List ℕ) Flaw). faulted (by_head x)) (sym (ap shown_head_at k) ∙ c.read_head.ensures) ∙ short c.args.bytes.now c.if-bytes-gt-MOST_BYTES.false in
    record { told = t; allowed = exact c.args.bytes.now (λ i. (c.type_inv.bytes i).fits) t }
