-- What a bench does at a call whose tests are passed, told as it is told of the call.
use Rattle.std.proofs.Common.{◌≡◌, ℕ, List, [], ◌∷◌, eqb, length, set, ℤ, Some, Ok, Err, Option, Result, sym, refl, ap, ◌∙◌, subst, arith}
use Rattle.store.specs.declared.fault.StoreFault.{StoreFault}
use Rattle.store.specs.declared.fault.StoreFault.TheVariants.{NoCell}
use Rattle.store.specs.declared.hold.Links.{Links}
use Rattle.store.specs.declared.interface.Store.{Ghosts}
use Rattle.store.specs.Interface.{Handed}
use Rattle.store.specs.Meaning.{Node, arity, Reached, by_hold, less, Moved, Unchanged, Made, Full, making, copying, releasing, parting, rebuilding}
use Rattle.store.specs.Rooted.{root_at}
use Rattle.bench.specs.declared.bench.Bench.{Bench}
use Rattle.bench.specs.declared.call.Call.{Call}
use Rattle.bench.specs.declared.call.Call.TheVariants.{Make, Copy, Release, Match, Rebuild, Look, Same}
use Rattle.bench.specs.declared.call.Answer.{Answer}
use Rattle.bench.specs.declared.call.Answer.TheVariants.{Done, Value, OtherKind, Cell, Sameness}
use Rattle.bench.specs.declared.fault.BenchFault.{BenchFault}
use Rattle.bench.specs.declared.fault.BenchFault.TheVariants.{Store}
use Rattle.bench.specs.Machine.{spend, spent, taken, filled}
use Rattle.bench.specs.Step.{link_roots}
use Rattle.bench.specs.Handing.{Settable, put_links}
use Rattle.bench.specs.Bench.{Answers, Effect, cell_in, Ready, Sent}
use Rattle.bench.proofs.Asked.{cells_shaped}
use Rattle.bench.proofs.Facts.{held_of}
use Rattle.bench.proofs.Passes.{make_passes, make_clear, copy_passes, MatchPassed, match_passes, rebuild_passes, fits_arity}
use Rattle.bench.proofs.Handing.{hand_settable, hand_fills}
use Rattle.bench.proofs.Taking.{linked_length}
use Rattle.bench.proofs.Replies.{release_replies, copy_replies, make_replies, make_wants, rebuild_replies, rebuild_wants, look_replies, same_replies, match_other, match_replies}

-- a cell of the kind that is matched has its links set in the roots
module _ {S : Type 0} (G : Ghosts S) (b : Bench S) (r k a b2 c : ℕ) (p : Ready G b (Match r k a b2)) (n : Some c ≡ root_at b.roots.slots r) (q : ((G.means b.store).content c).kind ≡ k) where
  passed : MatchPassed b.roots.slots r k a b2
  passed = match_passes b.roots.slots r k a b2 p.stood.sized p.passed

  match_length : length ((G.means b.store).content c).links ≡ length (link_roots a b2)
  match_length = let s = p.stood in cells_shaped s.machine b.roots.slots (G.means b.store) c s.stands s.shaped (by_hold (held_of r s n)) ∙ ap arity q ∙ sym (fits_arity k a b2 passed.fits)

  module _ (l : Links) (h : Handed l ((G.means b.store).content c).links) where
    pub match_settable : Settable (spend b.roots.slots r) a b2 l
    match_settable = hand_settable (spend b.roots.slots r) k a b2 l ((G.means b.store).content c).links h passed.fits passed.link_0 passed.link_1 match_length (passed.room ((G.means b.store).content c).links match_length)

    match_fills : put_links (spend b.roots.slots r) a b2 l ≡ filled (spend b.roots.slots r) (link_roots a b2) ((G.means b.store).content c).links
    match_fills = hand_fills (spend b.roots.slots r) k a b2 l ((G.means b.store).content c).links h passed.fits passed.link_0 passed.link_1 match_length (passed.room ((G.means b.store).content c).links match_length)

module _ {S : Type 0} (G : Ghosts S) (b e : Bench S) where
  -- what is told of the roots holds of those that are equal
  sent : (call : Call) (r : Result Answer BenchFault) (new : List (Option ℕ)) → e.roots.slots ≡ new → G.ok e.store → Answers b.roots.slots (G.means b.store) call r new (G.means e.store) →
      Effect b.roots.slots call r e.roots.slots (G.kept b.store e.store) (λ q. G.did b.store q e.store) → Sent G b call r e
  sent call r new z ok t f = record { ok = ok; told = subst (λ (l : List (Option ℕ)). Answers b.roots.slots (G.means b.store) call r l (G.means e.store)) (sym z) t; effect = f }

  pub release_sent : (r c : ℕ) → Ready G b (Release r) → Some c ≡ root_at b.roots.slots r → e.roots.slots ≡ spend b.roots.slots r → G.ok e.store → Moved (G.means b.store) (G.means e.store) (c ∷ []) [] → G.did b.store (releasing c) e.store →
      Sent G b (Release r) (Ok Done) e
  release_sent r c p n z ok v d =
      sent (Release r) (Ok Done) (spend b.roots.slots r) z ok (release_replies b.roots.slots (G.means b.store) (G.means e.store) r c p.passed (sym n) v) (subst (λ k. G.did b.store (releasing k) e.store) (ap cell_in n) d)

  pub copy_sent : (s d c : ℕ) → Ready G b (Copy s d) → Some c ≡ root_at b.roots.slots s → e.roots.slots ≡ set b.roots.slots d (Some c) → G.ok e.store → Moved (G.means b.store) (G.means e.store) [] (c ∷ []) → G.did b.store (copying c) e.store →
      Sent G b (Copy s d) (Ok Done) e
  copy_sent s d c p n z ok v t =
      let x = copy_passes b.roots.slots s d p.passed in
      sent (Copy s d) (Ok Done) (set b.roots.slots d (Some c)) z ok (copy_replies b.roots.slots (G.means b.store) (G.means e.store) s d c p.passed (sym n) (omega (arith, x.there, p.stood.sized)) x.clear v)
      (subst (λ k. G.did b.store (copying k) e.store) (ap cell_in n) t)

  module _ (d k : ℕ) (v : ℤ) (a b2 : ℕ) (p : Ready G b (Make d k v a b2)) where
    pub make_sent : (node : Node) (c : ℕ) → node ≡ record { kind = k; value = v; links = taken b.roots.slots (link_roots a b2) } → e.roots.slots ≡ set (spent b.roots.slots (link_roots a b2)) d (Some c) → G.ok e.store →
        Made (G.means b.store) (G.means e.store) node c × G.did b.store (making node) e.store → Sent G b (Make d k v a b2) (Ok Done) e
    make_sent node c n z ok t =
        let x = make_clear b.roots.slots d k v a b2 p.passed in
        let y = subst (λ (y : Node). Made (G.means b.store) (G.means e.store) y c × G.did b.store (making y) e.store) n t in
        sent (Make d k v a b2) (Ok Done) (set (spent b.roots.slots (link_roots a b2)) d (Some c)) z ok
        (make_replies b.roots.slots (G.means b.store) (G.means e.store) d k v a b2 p.passed c (omega (arith, x.0, p.stood.sized)) x.1 (linked_length (make_passes b.roots.slots d k v a b2 p.passed)) y.0) y.1

    pub make_refused : (f : StoreFault) → f ≡ NoCell → e.roots.slots ≡ b.roots.slots → G.ok e.store → Full (G.means b.store) → Unchanged (G.means b.store) (G.means e.store) → G.kept b.store e.store →
        Sent G b (Make d k v a b2) (Err (Store (record { fault = f; root = d }))) e
    make_refused f w z ok full same kept = subst (λ (f : StoreFault). Sent G b (Make d k v a b2) (Err (Store (record { fault = f; root = d }))) e) (sym w)
        (sent (Make d k v a b2) _ b.roots.slots z ok (make_wants b.roots.slots (G.means b.store) (G.means e.store) d k v a b2 p.passed full same) (z, kept))

  module _ (r k : ℕ) (v : ℤ) (a b2 old : ℕ) (p : Ready G b (Rebuild r k v a b2)) (n : Some old ≡ root_at b.roots.slots r) where
    pub rebuild_sent : (node : Node) (c : ℕ) → node ≡ record { kind = k; value = v; links = taken (spend b.roots.slots r) (link_roots a b2) } → e.roots.slots ≡ set (spent (spend b.roots.slots r) (link_roots a b2)) r (Some c) → G.ok e.store →
        Made (less (G.means b.store) old) (G.means e.store) node c × (Full (G.means b.store) → Reached (less (G.means b.store) old) old → ⊥) × G.did b.store (rebuilding old node) e.store → Sent G b (Rebuild r k v a b2) (Ok Done) e
    rebuild_sent node c w z ok t =
        sent (Rebuild r k v a b2) (Ok Done) (set (spent (spend b.roots.slots r) (link_roots a b2)) r (Some c)) z ok
        (rebuild_replies b.roots.slots (G.means b.store) (G.means e.store) r k v a b2 old p.passed (sym n) c (linked_length (rebuild_passes b.roots.slots r k v a b2 p.passed)) t.1
        (subst (λ (y : Node). Made (less (G.means b.store) old) (G.means e.store) y c) w t.0))
        (subst (λ (x : ℕ × Node). G.did b.store (rebuilding x.0 x.1) e.store) (λ i. (cell_in (n i), w i)) t.2)

    pub rebuild_refused : (f : StoreFault) → f ≡ NoCell → e.roots.slots ≡ b.roots.slots → G.ok e.store → Full (G.means b.store) × Reached (less (G.means b.store) old) old → Unchanged (G.means b.store) (G.means e.store) → G.kept b.store e.store →
        Sent G b (Rebuild r k v a b2) (Err (Store (record { fault = f; root = r }))) e
    rebuild_refused f w z ok full same kept = subst (λ (f : StoreFault). Sent G b (Rebuild r k v a b2) (Err (Store (record { fault = f; root = r }))) e) (sym w)
        (sent (Rebuild r k v a b2) _ b.roots.slots z ok (rebuild_wants b.roots.slots (G.means b.store) (G.means e.store) r k v a b2 old p.passed (sym n) full.0 full.1 same) (z, kept))

  pub match_sent : (r k a b2 c : ℕ) (p : Ready G b (Match r k a b2)) (n : Some c ≡ root_at b.roots.slots r) (q : ((G.means b.store).content c).kind ≡ k) (l : Links) (v : ℤ) → Handed l ((G.means b.store).content c).links → v ≡ ((G.means b.store).content c).value →
      e.roots.slots ≡ put_links (spend b.roots.slots r) a b2 l → G.ok e.store → Moved (G.means b.store) (G.means e.store) (c ∷ []) ((G.means b.store).content c).links → G.did b.store (parting c) e.store → Sent G b (Match r k a b2) (Ok (Value v)) e
  match_sent r k a b2 c p n q l v h w z ok t d =
      let ns = ((G.means b.store).content c).links in
      let x = match_passes b.roots.slots r k a b2 p.stood.sized p.passed in
      subst (λ (v : ℤ). Sent G b (Match r k a b2) (Ok (Value v)) e) (sym w)
      (sent (Match r k a b2) _ (filled (spend b.roots.slots r) (link_roots a b2) ns) (z ∙ match_fills G b r k a b2 c p n q l h) ok
      (match_replies b.roots.slots (G.means b.store) r k a b2 c p.passed (sym n) (G.means e.store) q (x.room ns (match_length G b r k a b2 c p n q)) t) (subst (λ i. G.did b.store (parting i) e.store) (ap cell_in n) d))

-- nothing is changed
module _ {S : Type 0} (G : Ghosts S) (b : Bench S) where
  pub look_sent : (r c k : ℕ) (v : ℤ) → Ready G b (Look r) → Some c ≡ root_at b.roots.slots r → k ≡ ((G.means b.store).content c).kind → v ≡ ((G.means b.store).content c).value → Sent G b (Look r) (Ok (Cell k v)) b
  look_sent r c k v p n w z = subst (λ (x : ℕ × ℤ). Sent G b (Look r) (Ok (Cell x.0 x.1)) b) (sym (λ i. (w i, z i)))
      (record { ok = p.ok; told = look_replies b.roots.slots (G.means b.store) r c p.passed (sym n); effect = (refl, G.rests b.store) })

  pub same_sent : (r s c d : ℕ) → Ready G b (Same r s) → Some c ≡ root_at b.roots.slots r → Some d ≡ root_at b.roots.slots s → Sent G b (Same r s) (Ok (Sameness (eqb c d))) b
  same_sent r s c d p n w = record { ok = p.ok; told = same_replies b.roots.slots (G.means b.store) r s c d p.passed (sym n) (sym w); effect = (refl, G.rests b.store) }

  pub other_sent : (r k a b2 c : ℕ) → Ready G b (Match r k a b2) → Some c ≡ root_at b.roots.slots r → (((G.means b.store).content c).kind ≡ k → ⊥) → Sent G b (Match r k a b2) (Ok OtherKind) b
  other_sent r k a b2 c p n ne = record { ok = p.ok; told = match_other b.roots.slots (G.means b.store) r k a b2 c p.passed (sym n) ne; effect = (refl, G.rests b.store) }
