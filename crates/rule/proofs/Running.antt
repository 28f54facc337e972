-- A run of a checked rule is stopped by want of a cell alone, and leaves exactly what its head declares.
use Rattle.std.proofs.Common.{◌≡◌, ℕ, zero, suc, ◌+◌, Bool, true, false, cond, ◌&&◌, eqb, List, [], ◌∷◌, length, set, replicate, ℤ, pos, is_some, Some, None, Ok, Err, Option, sym, refl, ap, ◌∙◌, subst, arith}
use lib.ListN.{length-map}
use lib.Signed.{lt_z}
use Rattle.std.proofs.lemmas.Bool.{cond_both, eqb-true}
use Rattle.store.specs.Meaning.{arity}
use Rattle.store.specs.Rooted.{root_at}
use Rattle.store.specs.declared.fault.StoreFault.TheVariants.{NoCell}
use Rattle.bench.specs.declared.call.Call.{Call}
use Rattle.bench.specs.declared.call.Call.TheVariants.{Make, Copy, Release, Match, Rebuild, Look}
use Rattle.bench.specs.declared.call.Answer.{Answer}
use Rattle.bench.specs.declared.call.Answer.TheVariants.{Value, OtherKind}
use Rattle.bench.specs.declared.call.Touch.{Touch}
use Rattle.bench.specs.declared.call.Touch.TheVariants.{Spend, Fill}
use Rattle.bench.specs.declared.call.Field.TheVariants as field
use Rattle.bench.specs.declared.fault.BenchFault.TheVariants.{Store}
use Rattle.bench.specs.Machine.{Machine, Shaped, spend, spent, links_at, copied, released, parted, made, rebuilt, live, shared}
use Rattle.bench.specs.Step.{Told, link_roots, node_named, node_of_root, unless_full, act, tested}
use Rattle.bench.specs.Step as bench
use Rattle.bench.specs.Tests.{fields, field_fault, link_fault, unless_none, touches, flags, in_use, fault_of, after_touches}
use Rattle.bench.proofs.Asked.{made_shaped}
use Rattle.bench.proofs.Passes.{spendable_taken, fits_arity, make_passes, rebuild_passes, copy_passes}
use Rattle.rule.specs.Sheet.{Head, Step, make, copy, release, rebuild, put, sum, difference, look, match, test}
use Rattle.rule.specs.Read.{Tree, step, fork, done, broken, tree}
use Rattle.rule.specs.Check.{marked, differing, step_marks, step_links, step_touches, fork_marks, fork_links, fork_touches, size}
use Rattle.rule.specs.Allowed.{Moves}
use Rattle.rule.specs.Run.{slot_at, Ran, call_of, slots_after, asked, unless_stopped, by_match, run, ends, both, RunsWell, CheckedRuns}
use Rattle.rule.proofs.Firsts.{Goes, length_after}
use Rattle.rule.proofs.Heads.{same_all, done_same}
use Rattle.rule.proofs.Blocks.{Clear, clear_step, clear_fork, clear_done, clear_broken}
use Rattle.rule.proofs.Exact.{claims, block_clear}
use Rattle.rule.proofs.Touching.{no_fault, root_there, kind_fits, links_there, Owned, spend_owned, fill_owned, Agreeing, agree_after, no_touch_fault, Others, After, at_rest, use_first, spend_first, fill_first, spend_both, fill_both}

-- as many links as the kind of what the root names
links_shaped : (t : Machine) → Shaped t → (o : Option ℕ) → length (links_at t.nodes o) ≡ arity (node_named t o).kind
links_shaped t s None = refl
links_shaped t s (Some i) = s i

module _ (own : List Bool) where
  -- a machine on a path whose roots u are in use
  pub record On (u : List Bool) (t : Machine) : Type 0 where
    pub roots : Agreeing own (flags t.roots) u
    pub shaped : Shaped t

  -- on from t: the path goes on with the roots u, or want of a cell stops it
  abbrev pub Next : List Bool → Machine → Told → Type 0
  Next u t (Err e, s) = ((r : ℕ) × (e ≡ Store (record { fault = NoCell; root = r }))) × Others own t.roots s.roots
  Next u t (Ok a, s) = On u s × Others own t.roots s.roots

  next_full : (b : Bool) (u : List Bool) (t s : Machine) (r : ℕ) → On u s × Others own t.roots s.roots → Next u t (unless_full b t r s)
  next_full true u t s r g = ((r, refl), λ q h. refl)
  next_full false u t s r g = g

  module _ (n : ℕ) (t : Machine) (u : List Bool) (on : On u t) where
    to : (ts : List (Option Touch)) (s : Machine) → After own ts t.roots s.roots → Shaped s → On (after_touches ts u) s × Others own t.roots s.roots
    to ts s g h = (record { roots = subst (λ l. Agreeing own l (after_touches ts u)) (sym g.used) (agree_after own ts (flags t.roots) u on.roots); shaped = h }, g.others)

    -- a call whose tests are passed
    acts : (w : List Bool) (call : Call) → fault_of call (flags t.roots) ≡ None → Next w t (act n t call) → Next w t (bench.step n t call)
    acts w call e g = subst (λ o. Next w t (tested o n t call)) (sym e) g

    -- each test of the call
    passes : (call : Call) (w : List Bool) → field_fault (fields call) ≡ None → link_fault call ≡ None → Owned own (touches call) → Moves (touches call) u w → fault_of call (flags t.roots) ≡ None
    passes call w e f o m = no_fault call (flags t.roots) e f (no_touch_fault own (touches call) (flags t.roots) u w o on.roots m)

    pub match_passes : (r k s a b : ℕ) → Goes own (fork_marks (match r k s a b)) (fork_links (match r k s a b)) (fork_touches (match r k s a b)) u → fault_of (Match r k a b) (flags t.roots) ≡ None
    match_passes r k s a b g =
        let la = g.fit.1.1.0 in
        let lb = g.fit.1.1.1.0 in
        passes (Match r k a b) (after_touches (touches (Match r k a b)) u) (links_there own r a b g.fit.0.0 la lb) (kind_fits k a b g.linked)
        (g.fit.0.1, fill_owned own a (unless_none b (Fill b) ∷ []) la (fill_owned own b [] lb tt)) g.move

    -- a match that says yes
    pub parts : (r k s a b : ℕ) → Goes own (fork_marks (match r k s a b)) (fork_links (match r k s a b)) (fork_touches (match r k s a b)) u → (node_of_root t r).kind ≡ k →
        On (after_touches (fork_touches (match r k s a b)) u) (parted t r (link_roots a b)) × Others own t.roots (parted t r (link_roots a b)).roots
    parts r k s a b g e =
        let ns = links_at t.nodes (root_at t.roots r) in
        let long : length ns ≡ length (link_roots a b) = links_shaped t on.shaped (root_at t.roots r) ∙ ap arity e ∙ sym (fits_arity k a b g.linked) in
        to (touches (Match r k a b)) (parted t r (link_roots a b))
        (spend_first own _ t.roots _ r g.fit.0.1 (fill_both own (spend t.roots r) a b ns g.fit.1.1.0 g.fit.1.1.1.0 long))
        on.shaped

    pub next : (s : Step) (z : List ℤ) → Goes own (step_marks s) (step_links s) (step_touches s) u → Next (after_touches (step_touches s) u) t (asked n t (call_of s z))
    next (make d k s a b) z g =
        let call = Make d k (slot_at z s) a b in
        let la = g.fit.1.1.0 in
        let lb = g.fit.1.1.1.0 in
        let d_own = g.fit.0.1 in
        let new = made t d k (slot_at z s) (link_roots a b) in
        let ok : fault_of call (flags t.roots) ≡ None =
        passes call (after_touches (touches call) u) (links_there own d a b g.fit.0.0 la lb) (kind_fits k a b g.linked)
        (spend_owned own a (unless_none b (Spend b) ∷ (Some (Fill d) ∷ [])) la (spend_owned own b (Some (Fill d) ∷ []) lb (d_own, tt))) g.move in
        let spends = (make_passes t.roots d k (slot_at z s) a b ok).spends in
        acts (after_touches (touches call) u) call ok (next_full (eqb (live t) n) (after_touches (touches call) u) t new d
        (to (touches call) new
        (spend_both own (Some (Fill d) ∷ []) t.roots new.roots a b la lb (fill_first own [] (spent t.roots (link_roots a b)) new.roots d (Some (length t.nodes)) refl d_own (at_rest own new.roots)))
        (made_shaped t d k (slot_at z s) (link_roots a b) on.shaped (spendable_taken t.roots (link_roots a b) spends ∙ fits_arity k a b g.linked))))
    next (copy s d) z g =
        let new = copied t s d in
        let d_own = g.fit.1.0.1 in
        let ok : fault_of (Copy s d) (flags t.roots) ≡ None =
        passes (Copy s d) (after_touches (touches (Copy s d)) u) (root_there s (field.Root d ∷ []) g.fit.0.0 (root_there d [] g.fit.1.0.0 refl)) refl (g.fit.0.1, (d_own, tt)) g.move in
        acts (after_touches (touches (Copy s d)) u) (Copy s d) ok
        (to (touches (Copy s d)) new
        (use_first own (Some (Fill d) ∷ []) t.roots new.roots s (fill_first own [] t.roots new.roots d (root_at t.roots s) (copy_passes t.roots s d ok).used d_own (at_rest own new.roots)))
        on.shaped)
    next (release r) z g =
        let new = released t r in
        acts (after_touches (touches (Release r)) u) (Release r) (passes (Release r) (set u r false) (root_there r [] g.fit.0.0 refl) refl (g.fit.0.1, tt) g.move)
        (to (touches (Release r)) new (spend_first own [] t.roots new.roots r g.fit.0.1 (at_rest own new.roots)) on.shaped)
    next (rebuild r k s a b) z g =
        let call = Rebuild r k (slot_at z s) a b in
        let la = g.fit.1.1.0 in
        let lb = g.fit.1.1.1.0 in
        let r_own = g.fit.0.1 in
        let new = rebuilt t r k (slot_at z s) (link_roots a b) in
        let base = spend t.roots r in
        let ok : fault_of call (flags t.roots) ≡ None =
        passes call (after_touches (touches call) u) (links_there own r a b g.fit.0.0 la lb) (kind_fits k a b g.linked)
        (r_own, spend_owned own a (unless_none b (Spend b) ∷ (Some (Fill r) ∷ [])) la (spend_owned own b (Some (Fill r) ∷ []) lb (r_own, tt))) g.move in
        let spends = (rebuild_passes t.roots r k (slot_at z s) a b ok).spends in
        acts (after_touches (touches call) u) call ok (next_full (cond (eqb (live t) n) (shared t r) false) (after_touches (touches call) u) t new r
        (to (touches call) new
        (spend_first own _ t.roots new.roots r r_own
        (spend_both own (Some (Fill r) ∷ []) base new.roots a b la lb (fill_first own [] (spent base (link_roots a b)) new.roots r (Some (length t.nodes)) refl r_own (at_rest own new.roots))))
        (made_shaped (released t r) r k (slot_at z s) (link_roots a b) on.shaped (spendable_taken base (link_roots a b) spends ∙ fits_arity k a b g.linked))))
    next (put s v) z g = (on, λ q h. refl)
    next (sum x y w) z g = (on, λ q h. refl)
    next (difference x y w) z g = (on, λ q h. refl)
    next (look r s) z g =
        acts u (Look r) (passes (Look r) u (root_there r [] g.fit.0.0 refl) refl (g.fit.0.1, tt) g.move) (on, λ q h. refl)

both_owned : (xs ys : List Bool) (r : ℕ) → length xs ≡ length ys → in_use ys r ≡ true → in_use (both xs ys) r ≡ in_use xs r
both_owned [] ys r l e = refl
both_owned (x ∷ xs) [] r l e = absurd (omega (arith, l))
both_owned (x ∷ xs) (y ∷ ys) zero l e = one x y e
  where
    one : (x y : Bool) → y ≡ true → (x && y) ≡ x
    one true y e = e
    one false y e = refl
both_owned (x ∷ xs) (y ∷ ys) (suc r) l e = both_owned xs ys r (omega (arith, l)) e

length_both : (xs ys : List Bool) → length xs ≡ length ys → length (both xs ys) ≡ length ys
length_both [] ys l = l
length_both (x ∷ xs) [] l = refl
length_both (x ∷ xs) (y ∷ ys) l = ap suc (length_both xs ys (omega (arith, l)))

module _ (h : Head) where
  carry : (t s : Machine) (ran : Ran) → Others (marked h.own) t.roots s.roots → RunsWell h s ran → RunsWell h t ran
  carry t s ran o w = record { stops = w.stops; leaves = w.leaves; others = λ r e. w.others r e ∙ o r e }

  goes_on : (p : ℕ) (u : List Bool) (t : Machine) (told : Told) (on : Answer → Machine → Ran) → Next (marked h.own) u t told → ((a : Answer) (s : Machine) → On (marked h.own) u s → RunsWell h s (on a s)) → RunsWell h t (unless_stopped p told on)
  goes_on p u t (Err e, s) on g k = record { stops = g.0; leaves = tt; others = g.1 }
  goes_on p u t (Ok a, s) on g k = carry t s (on a s) g.1 (k a s g.0)

  module _ (n : ℕ) where
    runs : (b : Tree) (z : List ℤ) (t : Machine) (c m d : ℕ) (u : List Bool) → length u ≡ 16 → On (marked h.own) u t → Clear (claims h) b m d u → RunsWell h t (run n ends b z t c)
    unfolding run
    runs (step p s k) z t c m d u l on e =
        let x = clear_step (claims h) p s k m d u e in
        goes_on p (after_touches (step_touches s) u) t (asked n t (call_of s z)) (λ a r. run n ends k (slots_after s a z) r (c + 1)) (next (marked h.own) n t u on s z x.goes)
        (λ a r g. runs k (slots_after s a z) r (c + 1) (m + 1) d (after_touches (step_touches s) u) (length_after (step_touches s) u ∙ l) g x.next)
    runs (fork p (match r k s a b) ya na) z t c m d u l on e =
        let f = match r k s a b in
        let own = marked h.own in
        let g = clear_fork (claims h) p f ya na m d u e in
        let then : Answer → Machine → Ran = λ w v. by_match w (λ x. run n ends ya (set z s x) v (c + 1)) (run n ends na z v (c + 1)) in
        let Well : Told → Type 0 = λ told. RunsWell h t (unless_stopped p told then) in
        let node = node_of_root t r in
        let yes = parted t r (link_roots a b) in
        subst (λ o. Well (tested o n t (Match r k a b))) (sym (match_passes own n t u on r k s a b g.goes))
        (cond_both (eqb node.kind k) (Ok (Value node.value), yes) (Ok OtherKind, t) Well
        (λ q.
        let y = parts own n t u on r k s a b g.goes (eqb-true node.kind k q) in
        carry t yes _ y.1 (runs ya (set z s node.value) yes (c + 1) (m + 1) (d + 1) (after_touches (fork_touches f) u) (length_after (fork_touches f) u ∙ l) y.0 g.on_yes))
        (λ _. runs na z t (c + 1) (m + 1 + size ya) (d + 1) u l on g.on_no))
    runs (fork p (test x y) ya na) z t c m d u l on e =
        let g = clear_fork (claims h) p (test x y) ya na m d u e in
        cond_both (lt_z (slot_at z x) (slot_at z y)) _ _ (RunsWell h t)
        (λ _. runs ya z t (c + 1) (m + 1) (d + 1) u l on g.on_yes)
        (λ _. runs na z t (c + 1) (m + 1 + size ya) (d + 1) u l on g.on_no)
    runs (done p) z t c m d u l on e =
        let out = done_same (marked h.leave) u l (clear_done (claims h) p m d u e).1 in
        record { stops = tt; leaves = λ r o. on.roots.same r o ∙ ap (λ v. in_use v r) out; others = λ r o. refl }
    runs (broken p f) z t c m d u l on e = absurd (clear_broken (claims h) p f m d u e)

  starts : (t : Machine) → length t.roots ≡ 16 → Shaped t → differing 0 (both (flags t.roots) (marked h.own)) (marked h.enter) ≡ None → On (marked h.own) (marked h.enter) t
  starts t l s e =
      let long : length (flags t.roots) ≡ 16 = length-map t.roots is_some ∙ l in
      let same = same_all 0 (both (flags t.roots) (marked h.own)) (marked h.enter) (length_both (flags t.roots) (marked h.own) long) e in
      record { roots = record { long = long; same = λ r o. sym (both_owned (flags t.roots) (marked h.own) r long o) ∙ ap (λ v. in_use v r) same }; shaped = s }

pub checked_runs : CheckedRuns
checked_runs xs count e h rest is n t l s d = runs h n (tree 10 rest) (replicate 8 (pos 0)) t 0 1 0 (marked h.enter) refl (starts h t l s d) (block_clear xs h rest count is e)
