-- What a bench does to its roots and its store is what the machine answers.
use Rattle.std.proofs.Common.{◌≡◌, ℕ, ◌<◌, false, cond, eqb, List, [], ◌∷◌, length, set, ℤ, Some, None, Ok, Err, Option, Result, sym, refl, ap, ◌∙◌, subst, ⊎_elim}
use Rattle.std.proofs.lemmas.Bool.{cases_Bool, eq-eqb, ne_eqb, eqb-true}
use Rattle.store.specs.declared.fault.StoreFault.TheVariants.{NoCell}
use Rattle.store.specs.Meaning.{Node, arity, Meaning, Reached, by_hold, less, Moved, Unchanged, Made, Full}
use Rattle.store.specs.Rooted.{root_at}
use Rattle.bench.specs.declared.call.Call.{Call}
use Rattle.bench.specs.declared.call.Call.TheVariants.{Make, Copy, Release, Match, Rebuild, Look, Same}
use Rattle.bench.specs.declared.call.Answer.{Answer}
use Rattle.bench.specs.declared.call.Answer.TheVariants.{Done, Value, OtherKind, Cell, Sameness}
use Rattle.bench.specs.declared.fault.BenchFault.{BenchFault}
use Rattle.bench.specs.declared.fault.BenchFault.TheVariants.{Store}
use Rattle.bench.specs.Machine.{Machine, Shaped, spend, spent, taken, filled, copied, released, parted, made, rebuilt, live, shared}
use Rattle.bench.specs.Picture.{node_by}
use Rattle.bench.specs.Standing.{Stands, Room}
use Rattle.bench.specs.Tests.{flags, fault_of}
use Rattle.bench.specs.Step.{Told, act, tested, step, link_roots, node_named, node_of_root, unless_full, same_root}
use Rattle.bench.specs.Bench.{Follows, Answers}
use Rattle.bench.proofs.Kept.{reached_found, slot_held}
use Rattle.bench.proofs.Moves.{rest_stands, release_stands, copy_stands, part_stands, root_own}
use Rattle.bench.proofs.Make.{make_stands}
use Rattle.bench.proofs.Rebuild.{lessens, rebuild_stands}
use Rattle.bench.proofs.Exact.{make_exact, rebuild_exact, make_open, rebuild_open}
use Rattle.bench.proofs.Asked.{made_shaped, taken_length, own_same}
use Rattle.bench.proofs.Passes.{flags_by}

-- the machine's roots are in use where the bench's are
same_flags : {t : Machine} {slots : List (Option ℕ)} {m : Meaning} → Stands t slots m → flags t.roots ≡ flags slots
same_flags {slots = slots} (own, s) = ap flags s.agree.roots ∙ flags_by own slots

follows : {n : ℕ} {t : Machine} {call : Call} {r : Result Answer BenchFault} {slots : List (Option ℕ)} {m : Meaning} (u : Told) → step n t call ≡ u → r ≡ u.0 → Stands u.1 slots m → Shaped u.1 → m.size ≡ n → Follows n t call r slots m
follows {slots = slots} {m = m} u e f s p z = record {
  told = f ∙ sym (ap (λ (x : Told). x.0) e);
  stands = subst (λ (x : Told). Stands x.1 slots m) (sym e) s;
  shaped = subst (λ (x : Told). Shaped x.1) (sym e) p;
  sized = z;
}

-- a test fails: the machine gives the same fault
pub refused : (slots : List (Option ℕ)) (m : Meaning) (call : Call) (e : BenchFault) → fault_of call (flags slots) ≡ Some e → Answers slots m call (Err e) slots m
refused slots m call e p t s sh = follows (Err e, t) (ap (λ f. tested f m.size t call) (ap (fault_of call) (same_flags s) ∙ p)) refl s sh refl

-- all tests are passed: the machine acts
acts : {t : Machine} {slots : List (Option ℕ)} {m : Meaning} (n : ℕ) (call : Call) → Stands t slots m → fault_of call (flags slots) ≡ None → step n t call ≡ act n t call
acts {t} n call s p = ap (λ f. tested f n t call) (ap (fault_of call) (same_flags s) ∙ p)

pub release_replies : (slots : List (Option ℕ)) (m n : Meaning) (r c : ℕ) → fault_of (Release r) (flags slots) ≡ None → root_at slots r ≡ Some c → Moved m n (c ∷ []) [] →
    Answers slots m (Release r) (Ok Done) (spend slots r) n
release_replies slots m n r c p e v t s sh = follows (Ok Done, released t r) (acts m.size (Release r) s p) refl (release_stands t slots m n r c s e v) sh v.sized

pub copy_replies : (slots : List (Option ℕ)) (m n : Meaning) (s d c : ℕ) → fault_of (Copy s d) (flags slots) ≡ None → root_at slots s ≡ Some c → d < length slots → root_at slots d ≡ None → Moved m n [] (c ∷ []) →
    Answers slots m (Copy s d) (Ok Done) (set slots d (Some c)) n
copy_replies slots m n x d c p e l z v t s sh = follows (Ok Done, copied t x d) (acts m.size (Copy x d) s p) refl (copy_stands t slots m n x d c s e l z v) sh v.sized

module _ (slots : List (Option ℕ)) (m n : Meaning) (d k : ℕ) (v : ℤ) (a b : ℕ) (p : fault_of (Make d k v a b) (flags slots) ≡ None) where
  pub make_replies : (c : ℕ) → d < length slots → root_at (spent slots (link_roots a b)) d ≡ None → length (taken slots (link_roots a b)) ≡ arity k →
      Made m n (record { kind = k; value = v; links = taken slots (link_roots a b) }) c → Answers slots m (Make d k v a b) (Ok Done) (set (spent slots (link_roots a b)) d (Some c)) n
  make_replies c l z len w t s sh =
      follows (Ok Done, made t d k v (link_roots a b))
      (acts m.size (Make d k v a b) s p ∙ ap (λ f. unless_full f t d (made t d k v (link_roots a b))) (ne_eqb (live t) m.size (make_open t slots m n _ c s w)))
      refl (make_stands t slots m n d k v (link_roots a b) c s l z w) (made_shaped t d k v (link_roots a b) sh (taken_length s.1 (link_roots a b) ∙ len)) w.moved.sized

  pub make_wants : Full m → Unchanged m n → Answers slots m (Make d k v a b) (Err (Store (record { fault = NoCell; root = d }))) slots n
  make_wants full same t s sh =
      follows (Err (Store (record { fault = NoCell; root = d })), t)
      (acts m.size (Make d k v a b) s p ∙ ap (λ f. unless_full f t d (made t d k v (link_roots a b))) (eq-eqb (live t) m.size ((make_exact t slots m s).0 full)))
      refl (rest_stands t slots m n s same) sh same.sized

module _ (slots : List (Option ℕ)) (m n : Meaning) (r k : ℕ) (v : ℤ) (a b old : ℕ) (p : fault_of (Rebuild r k v a b) (flags slots) ≡ None) (e : root_at slots r ≡ Some old) where
  pub rebuild_replies : (c : ℕ) → length (taken (spend slots r) (link_roots a b)) ≡ arity k → (Full m → Reached (less m old) old → ⊥) →
      Made (less m old) n (record { kind = k; value = v; links = taken (spend slots r) (link_roots a b) }) c → Answers slots m (Rebuild r k v a b) (Ok Done) (set (spent (spend slots r) (link_roots a b)) r (Some c)) n
  rebuild_replies c len spare w t s sh =
      follows (Ok Done, rebuilt t r k v (link_roots a b))
      (acts m.size (Rebuild r k v a b) s p ∙ ap (λ f. unless_full f t r (rebuilt t r k v (link_roots a b))) not_both)
      refl (rebuild_stands t slots m n r k v (link_roots a b) old c s e w) (made_shaped (released t r) r k v (link_roots a b) sh (taken_length (lessens s.1 r old e) (link_roots a b) ∙ len)) w.moved.sized
    where
      not_both : cond (eqb (live t) m.size) (shared t r) false ≡ false
      not_both = ⊎_elim
          (λ q. ap (λ f. cond f (shared t r) false) q ∙ ⊎_elim (λ x. absurd (rebuild_open t slots m n _ r old c s e w (eqb-true (live t) m.size q) x)) (λ x. x) (cases_Bool (shared t r)))
          (λ q. ap (λ f. cond f (shared t r) false) q)
          (cases_Bool (eqb (live t) m.size))

  pub rebuild_wants : Full m → Reached (less m old) old → Unchanged m n → Answers slots m (Rebuild r k v a b) (Err (Store (record { fault = NoCell; root = r }))) slots n
  rebuild_wants full still same t s sh =
      let x = (rebuild_exact t slots m r old s e).0 (full, still) in
      follows (Err (Store (record { fault = NoCell; root = r })), t)
      (acts m.size (Rebuild r k v a b) s p
      ∙ ap (λ f. unless_full (cond f (shared t r) false) t r (rebuilt t r k v (link_roots a b))) (eq-eqb (live t) m.size x.0)
      ∙ ap (λ f. unless_full f t r (rebuilt t r k v (link_roots a b))) x.1)
      refl (rest_stands t slots m n s same) sh same.sized

-- what the machine's root shows
seen : {t : Machine} {slots : List (Option ℕ)} {m : Meaning} (s : Stands t slots m) (r c : ℕ) → root_at slots r ≡ Some c → node_of_root t r ≡ node_by s.0 (m.content c)
seen {t} {slots} {m} (own, s) r c e = ap (node_named t) (root_own s r c e) ∙ s.agree.content c (reached_found {m = m} s.out (by_hold (slot_held s r c e)))

pub look_replies : (slots : List (Option ℕ)) (m : Meaning) (r c : ℕ) → fault_of (Look r) (flags slots) ≡ None → root_at slots r ≡ Some c →
    Answers slots m (Look r) (Ok (Cell (m.content c).kind (m.content c).value)) slots m
look_replies slots m r c p e t s sh =
    follows (Ok (Cell (m.content c).kind (m.content c).value), t)
    (acts m.size (Look r) s p ∙ ap (λ (x : Node). (Ok (Cell x.kind x.value), t)) (seen s r c e)) refl s sh refl

pub same_replies : (slots : List (Option ℕ)) (m : Meaning) (r s c d : ℕ) → fault_of (Same r s) (flags slots) ≡ None → root_at slots r ≡ Some c → root_at slots s ≡ Some d →
    Answers slots m (Same r s) (Ok (Sameness (eqb c d))) slots m
same_replies slots m r q c d p e f t s sh =
    let here = by_hold (slot_held s.1 r c e) in
    let there = by_hold (slot_held s.1 q d f) in
    follows (Ok (Sameness (eqb c d)), t)
    (acts m.size (Same r q) s p
    ∙ (λ i. (Ok (Sameness (same_root (root_own s.1 r c e i) (root_own s.1 q d f i))), t))
    ∙ ap (λ y. (Ok (Sameness y), t)) (own_same s.1 here there)) refl s sh refl

module _ (slots : List (Option ℕ)) (m : Meaning) (r k a b c : ℕ) (p : fault_of (Match r k a b) (flags slots) ≡ None) (e : root_at slots r ≡ Some c) where
  pub match_other : ((m.content c).kind ≡ k → ⊥) → Answers slots m (Match r k a b) (Ok OtherKind) slots m
  match_other ne t s sh =
      follows (Ok OtherKind, t)
      (acts m.size (Match r k a b) s p
      ∙ ap (λ f. cond f (Ok (Value (node_of_root t r).value), parted t r (link_roots a b)) (Ok OtherKind, t))
      (ap (λ (x : Node). eqb x.kind k) (seen s r c e) ∙ ne_eqb (m.content c).kind k ne)) refl s sh refl

  pub match_replies : (n : Meaning) → (m.content c).kind ≡ k → Room (spend slots r) (link_roots a b) (m.content c).links → Moved m n (c ∷ []) (m.content c).links →
      Answers slots m (Match r k a b) (Ok (Value (m.content c).value)) (filled (spend slots r) (link_roots a b) (m.content c).links) n
  match_replies n q room v t s sh =
      follows (Ok (Value (m.content c).value), parted t r (link_roots a b))
      (acts m.size (Match r k a b) s p
      ∙ ap (λ f. cond f (Ok (Value (node_of_root t r).value), parted t r (link_roots a b)) (Ok OtherKind, t))
      (ap (λ (x : Node). eqb x.kind k) (seen s r c e) ∙ eq-eqb (m.content c).kind k q)
      ∙ ap (λ (x : Node). (Ok (Value x.value), parted t r (link_roots a b))) (seen s r c e))
      refl (part_stands t slots m n r c (link_roots a b) s e room v) sh v.sized
