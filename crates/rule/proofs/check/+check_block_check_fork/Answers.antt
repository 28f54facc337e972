use Rattle.std.proofs.Common.{◌≡◌, ℕ, ◌+◌, ◌-◌, Bool, true, eqb, List, length, Err, Option, sym, refl, ap, ◌∙◌, subst, arith, rules}
use Rattle.std.proofs.lemmas.Bool.{false≢true}
use Rattle.std.proofs.lemmas.Result.{err_from_is_err_and}
use Rattle.bench.specs.Tests.{after_touches, first}
use Rattle.bench.proofs.Passes.{passed, refused}
use Rattle.rule.specs.declared.fault.Flaw.TheVariants.{NotAsDeclared}
use Rattle.rule.specs.Sheet.{match, test}
use Rattle.rule.specs.Read.{Rec, closes, tree}
use Rattle.rule.specs.Shown.{shown, shown_record_at}
use Rattle.rule.specs.Claimed.{claims_of}
use Rattle.rule.specs.Check.{differs, at_place, verdict, block_answer}
use Rattle.rule.specs.Judged.{rec_flaws, rec_touches}
use Rattle.rule.proofs.Grown.{ArmsIn, shorter}
use Rattle.rule.proofs.Walked.{answer_flaw, answer_step, answer_deep, fork_flaw, fork_yes, fork_no}
use Rattle.rule.proofs.Checked.{many, cut, trailing, forked, ended, stepped, is_plain, spot, mapped_ok, mapped_err, no_count}
use Rattle.rule.proofs.check.+check_block_check_fork.Goals as goal
use Rattle.rule.proofs.check.+check_block_check_fork.Goals.{check_block-else-closes-via-then-closes+else-not-is_empty, check_block-else-closes-via-else-closes}

pub check_block-returns-then-path-ge-MOST_RECORDS : goal.check_block-returns-then-path-ge-MOST_RECORDS
check_block-returns-then-path-ge-MOST_RECORDS t c = record {
  told = ap Err c.at.ensures ∙ sym (many (claims_of c.args.claims.now) c.records.path.place c.records.rest.now c.records.path.seen c.records.path.depth c.records.path.used c.if-path-ge-MOST_RECORDS.true) ∙ c.records.invariant.0;
  few = tt;
}

pub check_block-returns-in_err-rec : goal.check_block-returns-in_err-rec
check_block-returns-in_err-rec t c =
    let q = mapped_err _ c.map_err.ensures.cases c.in_err-rec.was in
    let here : c.in_err-rec.field-0.0 ≡ spot c.records.path.place q.0 = search rules in
    let r = err_from_is_err_and c.from_residual.result c.from_residual.ensures.1 in
    let z = r.1 ∙ ap Err (r.2 ∙ here) in
    record {
      told = z ∙ sym (cut (claims_of c.args.claims.now) c.records.path.place c.records.rest.now c.records.path.seen c.records.path.depth c.records.path.used q.0 c.if-path-ge-MOST_RECORDS.false (sym (ap shown_record_at q.1) ∙ c.read_record.ensures)) ∙ c.records.invariant.0;
      few = no_count _ z;
    }

pub check_block-returns-then-not-is_empty : goal.check_block-returns-then-not-is_empty
check_block-returns-then-not-is_empty t c =
    let k = mapped_ok _ c.map_err.ensures.cases c.in_ok-rec.was in
    let is = sym (ap shown_record_at k) ∙ c.read_record.ensures in
    record {
      told = ap Err c.at-then-not-is_empty.ensures ∙ sym (trailing (claims_of c.args.claims.now) c.records.path.place c.records.rest.now c.records.path.seen c.records.path.depth c.records.path.used _ _ is c.if-closes.ensures c.if-path-ge-MOST_RECORDS.false c.if-not-is_empty.ensures) ∙ c.records.invariant.0;
      few = tt;
    }

pub check_block-check_fork-requires : goal.check_block-check_fork-requires
check_block-check_fork-requires t c =
    let k = mapped_ok _ c.map_err.ensures.cases c.in_ok-rec.was in
    let is = sym (ap shown_record_at k) ∙ c.read_record.ensures in
    let a = subst (λ (r : Rec). ArmsIn (length c.records.rest.now) r) (ap shown c.in-Match.is) (shorter c.records.rest.now _ _ (sym is)).1 in
    (omega (arith, a, c.records.invariant.4, c.decreases), (omega (arith, a, c.records.invariant.3, c.requires.small), (omega (arith, c.if-path-ge-MOST_RECORDS.false), c.records.invariant.2)))

pub check_block-returns-in-Match : goal.check_block-returns-in-Match
check_block-returns-in-Match t c =
    let f = match c.in-Match.r c.in-Match.kind c.in-Match.slot c.in-Match.a c.in-Match.b in
    let k = mapped_ok _ c.map_err.ensures.cases c.in_ok-rec.was in
    let is = sym (ap shown_record_at k) ∙ c.read_record.ensures in
    let e = ap shown c.in-Match.is in
    let z : true ≡ eqb (length c.in_ok-rec.after.now) 0 = elim c.else-closes.branch [
      | check_block-else-closes-via-then-closes+else-not-is_empty w ↦ w.if-not-is_empty.ensures
      | check_block-else-closes-via-else-closes w ↦ absurd (false≢true (w.if-closes.ensures ∙ ap closes e))
    ] in
    record {
      told = c.check_fork.ensures.told f refl refl ∙ sym (forked (claims_of c.args.claims.now) c.records.path.place c.records.rest.now c.records.path.seen c.records.path.depth c.records.path.used _ _ is f _ _ e z) ∙ c.records.invariant.0;
      few = c.check_fork.ensures.few;
    }

pub check_block-check_fork-requires-in-Test : goal.check_block-check_fork-requires-in-Test
check_block-check_fork-requires-in-Test t c =
    let k = mapped_ok _ c.map_err.ensures.cases c.in_ok-rec.was in
    let is = sym (ap shown_record_at k) ∙ c.read_record.ensures in
    let a = subst (λ (r : Rec). ArmsIn (length c.records.rest.now) r) (ap shown c.in-Test.is) (shorter c.records.rest.now _ _ (sym is)).1 in
    (omega (arith, a, c.records.invariant.4, c.decreases), (omega (arith, a, c.records.invariant.3, c.requires.small), (omega (arith, c.if-path-ge-MOST_RECORDS.false), c.records.invariant.2)))

pub check_block-returns-in-Test : goal.check_block-returns-in-Test
check_block-returns-in-Test t c =
    let f = test c.in-Test.x c.in-Test.y in
    let k = mapped_ok _ c.map_err.ensures.cases c.in_ok-rec.was in
    let is = sym (ap shown_record_at k) ∙ c.read_record.ensures in
    let e = ap shown c.in-Test.is in
    let z : true ≡ eqb (length c.in_ok-rec.after.now) 0 = elim c.else-closes.branch [
      | check_block-else-closes-via-then-closes+else-not-is_empty w ↦ w.if-not-is_empty.ensures
      | check_block-else-closes-via-else-closes w ↦ absurd (false≢true (w.if-closes.ensures ∙ ap closes e))
    ] in
    record {
      told = c.check_fork-in-Test.ensures.told f refl refl ∙ sym (forked (claims_of c.args.claims.now) c.records.path.place c.records.rest.now c.records.path.seen c.records.path.depth c.records.path.used _ _ is f _ _ e z) ∙ c.records.invariant.0;
      few = c.check_fork-in-Test.ensures.few;
    }

pub check_block-returns-in-Some : goal.check_block-returns-in-Some
check_block-returns-in-Some t c =
    let k = mapped_ok _ c.map_err.ensures.cases c.in_ok-rec.was in
    let is = sym (ap shown_record_at k) ∙ c.read_record.ensures in
    let e = ap shown c.in-Done.is in
    let z : true ≡ eqb (length c.in_ok-rec.after.now) 0 = elim c.else-closes.branch [
      | check_block-else-closes-via-then-closes+else-not-is_empty w ↦ w.if-not-is_empty.ensures
      | check_block-else-closes-via-else-closes w ↦ absurd (false≢true (w.if-closes.ensures ∙ ap closes e))
    ] in
    record {
      told = ap Err c.at-in-Some.ensures ∙ ap (λ (o : Option ℕ). verdict (c.records.path.seen + 1) (at_place c.records.path.place (differs o NotAsDeclared))) c.in-Some.ensures ∙ sym (ended (claims_of c.args.claims.now) c.records.path.place c.records.rest.now c.records.path.seen c.records.path.depth c.records.path.used _ _ is e c.if-path-ge-MOST_RECORDS.false z) ∙ c.records.invariant.0;
      few = tt;
    }

pub check_block-returns-in-None : goal.check_block-returns-in-None
check_block-returns-in-None t c =
    let k = mapped_ok _ c.map_err.ensures.cases c.in_ok-rec.was in
    let is = sym (ap shown_record_at k) ∙ c.read_record.ensures in
    let e = ap shown c.in-Done.is in
    let z : true ≡ eqb (length c.in_ok-rec.after.now) 0 = elim c.else-closes.branch [
      | check_block-else-closes-via-then-closes+else-not-is_empty w ↦ w.if-not-is_empty.ensures
      | check_block-else-closes-via-else-closes w ↦ absurd (false≢true (w.if-closes.ensures ∙ ap closes e))
    ] in
    record {
      told = ap (λ (o : Option ℕ). verdict (c.records.path.seen + 1) (at_place c.records.path.place (differs o NotAsDeclared))) c.in-None.ensures ∙ sym (ended (claims_of c.args.claims.now) c.records.path.place c.records.rest.now c.records.path.seen c.records.path.depth c.records.path.used _ _ is e c.if-path-ge-MOST_RECORDS.false z) ∙ c.records.invariant.0;
      few = omega (arith, c.if-path-ge-MOST_RECORDS.false);
    }

pub check_block-returns-in_err-map_err-in_default : goal.check_block-returns-in_err-map_err-in_default
check_block-returns-in_err-map_err-in_default t c =
    let h = claims_of c.args.claims.now in
    let k = mapped_ok _ c.map_err.ensures.cases c.in_ok-rec.was in
    let is = sym (ap shown_record_at k) ∙ c.read_record.ensures in
    let s = is_plain c.in_ok-rec.rec c.in_default.not-Match c.in_default.not-Test c.in_default.not-Done in
    let q = mapped_err _ c.map_err-in_default.ensures.cases c.in_err-map_err-in_default.was in
    let here : c.in_err-map_err-in_default.field-0.0 ≡ spot c.records.path.place q.0 = search rules in
    let r = err_from_is_err_and c.from_residual-in_err-map_err-in_default.result c.from_residual-in_err-map_err-in_default.ensures.1 in
    let z = r.1 ∙ ap Err (r.2 ∙ here) in
    let f = refused (first (rec_flaws h.own (shown c.in_ok-rec.rec) c.records.path.used)) (sym c.test_record.ensures.told ∙ q.1) in
    record {
      told = z
          ∙ sym (answer_flaw (claims_of c.args.claims.now) c.records.path.seen c.records.path.depth c.records.path.used c.if-path-ge-MOST_RECORDS.false c.records.path.place s.0 _ q.0 (ap (λ (r : Rec). first (rec_flaws h.own r c.records.path.used)) (sym s.1) ∙ f))
          ∙ sym (stepped (claims_of c.args.claims.now) c.records.path.place c.records.rest.now c.records.path.seen c.records.path.depth c.records.path.used _ _ is s.0 s.1)
          ∙ c.records.invariant.0;
      few = no_count _ z;
    }

pub check_block-overflow_sub-path : goal.check_block-overflow_sub-path
check_block-overflow_sub-path t c =
    let k = mapped_ok _ c.map_err.ensures.cases c.in_ok-rec.was in
    let is = sym (ap shown_record_at k) ∙ c.read_record.ensures in
    omega (arith, (shorter c.records.rest.now _ _ (sym is)).0)

pub check_block-records-smaller : goal.check_block-records-smaller
check_block-records-smaller t c =
    let k = mapped_ok _ c.map_err.ensures.cases c.in_ok-rec.was in
    let is = sym (ap shown_record_at k) ∙ c.read_record.ensures in
    (shorter c.records.rest.now _ _ (sym is)).0

pub check_block-records-preserved : goal.check_block-records-preserved
check_block-records-preserved t c =
    let h = claims_of c.args.claims.now in
    let k = mapped_ok _ c.map_err.ensures.cases c.in_ok-rec.was in
    let is = sym (ap shown_record_at k) ∙ c.read_record.ensures in
    let s = is_plain c.in_ok-rec.rec c.in_default.not-Match c.in_default.not-Test c.in_default.not-Done in
    let o = mapped_ok _ c.map_err-in_default.ensures.cases c.in_ok-map_err-in_default.was in
    let q = passed (first (rec_flaws h.own (shown c.in_ok-rec.rec) c.records.path.used)) (sym c.test_record.ensures.told ∙ o) in
    let v = c.test_record.ensures.after o ∙ ap (λ (r : Rec). after_touches (rec_touches r) c.records.path.used) s.1 in
    let l = (shorter c.records.rest.now _ _ (sym is)).0 in (
      ap (λ (x : List Bool). block_answer h (tree (c.records.path.place + (length c.records.rest.now - length c.in_ok-rec.after.now)) c.in_ok-rec.after.now) (c.records.path.seen + 1) c.records.path.depth x) v
          ∙ sym (answer_step (claims_of c.args.claims.now) c.records.path.seen c.records.path.depth c.records.path.used c.if-path-ge-MOST_RECORDS.false c.records.path.place s.0 _ (ap (λ (r : Rec). first (rec_flaws h.own r c.records.path.used)) (sym s.1) ∙ q))
          ∙ sym (stepped (claims_of c.args.claims.now) c.records.path.place c.records.rest.now c.records.path.seen c.records.path.depth c.records.path.used _ _ is s.0 s.1)
          ∙ c.records.invariant.0,
      omega (arith, c.if-path-ge-MOST_RECORDS.false),
      c.records.invariant.2,
      omega (arith, l, c.records.invariant.3),
      omega (arith, l, c.records.invariant.4),
    )

pub check_fork-returns-then-path-ge-DEEPEST : goal.check_fork-returns-then-path-ge-DEEPEST
check_fork-returns-then-path-ge-DEEPEST t c = record {
  told = λ f e b. ap Err c.at.ensures ∙ sym (answer_deep (claims_of c.args.claims.now) c.args.path.seen c.args.path.depth c.args.path.used (omega (arith, c.requires.few)) c.args.path.place f _ _ (omega arith));
  few = tt;
}

pub check_fork-returns-in_err-map_err : goal.check_fork-returns-in_err-map_err
check_fork-returns-in_err-map_err t c =
    let h = claims_of c.args.claims.now in
    let q = mapped_err _ c.map_err.ensures.cases c.in_err-map_err.was in
    let here : c.in_err-map_err.field-0.0 ≡ spot c.args.path.place q.0 = search rules in
    let r = err_from_is_err_and c.from_residual.result c.from_residual.ensures.1 in
    let z = r.1 ∙ ap Err (r.2 ∙ here) in
    let x = refused (first (rec_flaws h.own (shown c.args.rec.now) c.args.path.used)) (sym c.test_record.ensures.told ∙ q.1) in
    record {
      told = λ f e b. z ∙ sym (fork_flaw h c.args.path.seen c.args.path.depth c.args.path.used (omega (arith, c.requires.few)) c.args.path.place f _ _ (omega arith) q.0 (ap (λ (r : Rec). first (rec_flaws h.own r c.args.path.used)) (sym e) ∙ x));
      few = no_count _ z;
    }

pub check_fork-returns-in_err-seen : goal.check_fork-returns-in_err-seen
check_fork-returns-in_err-seen t c =
    let h = claims_of c.args.claims.now in
    let p = c.args.path.place in
    let used = c.args.path.used in
    let ok = mapped_ok _ c.map_err.ensures.cases c.in_ok-map_err.was in
    let q = passed (first (rec_flaws h.own (shown c.args.rec.now) used)) (sym c.test_record.ensures.told ∙ ok) in
    let r = err_from_is_err_and c.from_residual-in_err-seen.result c.from_residual-in_err-seen.ensures.1 in
    let z = r.1 ∙ ap Err r.2 in
    record {
      told = λ f e b.
          (let v = c.test_record.ensures.after ok ∙ ap (λ (x : Rec). after_touches (rec_touches x) used) e in
          let a = c.in_err-seen.ensures.told ∙ (λ i. block_answer h (tree (p + b i) c.args.arms.yes.now) (c.args.path.seen + 1) (c.args.path.depth + 1) (v i)) in
          z ∙ sym (fork_yes h c.args.path.seen c.args.path.depth used (omega (arith, c.requires.few)) p f _ _ (omega arith) (ap (λ (x : Rec). first (rec_flaws h.own x used)) (sym e) ∙ q) _ (sym a)));
      few = no_count _ z;
    }

pub check_fork-returns : goal.check_fork-returns
check_fork-returns t c =
    let h = claims_of c.args.claims.now in
    let p = c.args.path.place in
    let used = c.args.path.used in
    let ok = mapped_ok _ c.map_err.ensures.cases c.in_ok-map_err.was in
    let q = passed (first (rec_flaws h.own (shown c.args.rec.now) used)) (sym c.test_record.ensures.told ∙ ok) in
    record {
      told = λ f e b.
          (let v = c.test_record.ensures.after ok ∙ ap (λ (x : Rec). after_touches (rec_touches x) used) e in
          let a = c.in_ok-seen.ensures.told ∙ (λ i. block_answer h (tree (p + b i) c.args.arms.yes.now) (c.args.path.seen + 1) (c.args.path.depth + 1) (v i)) in
          let o = c.check_block-2.ensures.told ∙ (λ i. block_answer h (tree (p + b i + length c.args.arms.yes.now) c.args.arms.no.now) c.in_ok-seen.seen (c.args.path.depth + 1) used) in
          o ∙ sym (fork_no h c.args.path.seen c.args.path.depth used (omega (arith, c.requires.few)) p f _ _ (omega arith) (ap (λ (x : Rec). first (rec_flaws h.own x used)) (sym e) ∙ q) c.in_ok-seen.seen (sym a)));
      few = c.check_block-2.ensures.few;
    }
