-- Turn after turn: what holds so far goes on to hold.
use Rattle.std.proofs.Common.{◌≡◌, ℕ, ◌+◌, ◌<◌, ◌≤◌, Bool, true, false, cond, eqb, ◌↔◌, List, [], ◌∷◌, ◌++◌, length, get_or, take, set, Some, None, Ok, Err, Option, Result, sym, refl, ap, ◌∙◌, subst, append-nil, arith}
use Rattle.std.proofs.lemmas.Bool.{false≢true, eqb-true, eq-eqb}
use Rattle.std.proofs.lemmas.List.{take_more, take_more_set, take_all}
use Rattle.store.specs.declared.interface.Store.{Ghosts}
use Rattle.store.specs.Meaning.{Node}
use Rattle.bench.specs.declared.call.Call.{Call}
use Rattle.bench.specs.declared.call.Call.TheVariants.{Make, Copy, Release, Match, Rebuild, Look, Same}
use Rattle.bench.specs.declared.fault.NoPlace.{NoPlace}
use Rattle.bench.specs.declared.bench.Bench.{Bench}
use Rattle.bench.specs.declared.call.Answer.TheVariants.{Value, OtherKind}
use Rattle.bench.specs.declared.fault.BenchFault.{BenchFault}
use Rattle.bench.specs.Machine.{Machine, Shaped, parted, made, rebuilt, live, shared}
use Rattle.bench.specs.Standing.{Stands}
use Rattle.bench.specs.Step.{Told, tested, step, unless_full, link_roots, node_of_root}
use Rattle.bench.specs.Bench.{Stood, Follows, Answers, Effect}
use Rattle.bench.specs.Tests.{flags, fault_of}
use Rattle.bench.specs.Laws.{NodesGrow}
use Rattle.bench.specs.Lists.{Reply, new_node, added, replies, after, wanting, Wants, Turn, Turns, ended, turned, TurnShows, Throughout, Served, Shown, Placed}

-- the machine over one call more
after_more : (n : ℕ) (t : Machine) (cs : List Call) (c : Call) → after n t (cs ++ c ∷ []) ≡ (step n (after n t cs) c).1
unfolding after
after_more n t [] c = refl
after_more n t (x ∷ cs) c = after_more n (step n t x).1 cs c

replies_more : (n : ℕ) (t : Machine) (cs : List Call) (c : Call) → replies n t (cs ++ c ∷ []) ≡ replies n t cs ++ (step n (after n t cs) c).0 ∷ []
unfolding after replies
replies_more n t [] c = refl
replies_more n t (x ∷ cs) c = ap (λ (l : List Reply). (step n t x).0 ∷ l) (replies_more n (step n t x).1 cs c)

module _ {S : Type 0} {G : Ghosts S} {n : ℕ} where
  turns_more : {t : Machine} {cs : List Call} {c : Call} {rs : List Reply} {r : Reply} {b d e : Bench S} → Turns G n t cs rs b d → Turn G n (after n t cs) c r d e → Turns G n t (cs ++ c ∷ []) (rs ++ r ∷ []) b e
  unfolding after
  turns_more ended x = turned x ended
  turns_more (turned y ys) x = turned y (turns_more ys x)

  -- one call more
  served_more : {t : Machine} {cs : List Call} {c : Call} {rs : List Reply} {r : Reply} {b d e : Bench S} → Served G n t cs rs b d → Turn G n (after n t cs) c r d e → Served G n t (cs ++ c ∷ []) (rs ++ r ∷ []) b e
  served_more {t} {cs} {c} {rs} {r} {e = e} s x = record {
    turns = turns_more s.turns x;
    told = (λ i. s.told i ++ x.follows.told i ∷ []) ∙ sym (replies_more n t cs c);
    stands = subst (λ (u : Machine). Stands u e.roots.slots (G.means e.store)) (sym (after_more n t cs c)) x.follows.stands;
    shaped = subst Shaped (sym (after_more n t cs c)) x.follows.shaped;
    sized = x.follows.sized;
  }

  as_lists : {t : Machine} {cs ds : List Call} {rs qs : List Reply} {b e : Bench S} → cs ≡ ds → rs ≡ qs → Served G n t cs rs b e → Served G n t ds qs b e
  as_lists {t} {b = b} {e = e} p q s = subst (λ (x : List Call × List Reply). Served G n t x.0 x.1 b e) (λ i. (p i, q i)) s

  served_next : {t : Machine} {b d e : Bench S} (cs : List Call) (none : Call) (rs : List Reply) (i : ℕ) (r : Reply) → i < length cs → i < length rs → Served G n t (take i cs) (take i rs) b d →
      Turn G n (after n t (take i cs)) (get_or cs i none) r d e → Served G n t (take (i + 1) cs) (take (i + 1) (set rs i r)) b e
  served_next cs none rs i r h k s x = as_lists (sym (take_more cs i none h)) (sym (take_more_set rs i r k)) (served_more s x)

  served_all : {t : Machine} {b e : Bench S} (cs : List Call) (rs : List Reply) (i : ℕ) → length cs ≤ i → length rs ≤ i → Served G n t (take i cs) (take i rs) b e → Served G n t cs rs b e
  served_all cs rs i h k s = as_lists (take_all i cs h) (take_all i rs k) s

served_none : {S : Type 0} (G : Ghosts S) (t : Machine) (b : Bench S) → Stands t b.roots.slots (G.means b.store) → Shaped t → Served G (G.means b.store).size t [] [] b b
unfolding after replies
served_none G t b s h = record { turns = ended; told = refl; stands = s; shaped = h; sized = refl }

-- a flag that refuses, and only then
unless : (f : Bool) (t : Machine) (d : ℕ) (u : Machine) → ((unless_full f t d u).0 ≡ wanting d) ↔ (f ≡ true)
unless true t d u = (λ e. refl, λ e. refl)
unless false t d u = (λ e. cc, λ e. cc)

both_true : (a b : Bool) → (cond a b false ≡ true) ↔ ((a ≡ true) × (b ≡ true))
both_true true b = (λ e. (refl, e), λ e. e.1)
both_true false b = (λ e. absurd (false≢true e), λ e. e.0)

wants : (n : ℕ) (t : Machine) (call : Call) (r : Reply) → r ≡ (step n t call).0 → Wants n t call r
wants n t (Make d k v a b) r e = λ p.
    (let q : r ≡ (unless_full (eqb (live t) n) t d (made t d k v (link_roots a b))).0 = e ∙ ap (λ f. (tested f n t (Make d k v a b)).0) p in
    let u = unless (eqb (live t) n) t d (made t d k v (link_roots a b)) in
    (λ w. eqb-true (live t) n (u.0 (sym q ∙ w)), λ w. q ∙ u.1 (eq-eqb (live t) n w)))
wants n t (Rebuild x k v a b) r e = λ p.
    (let both = cond (eqb (live t) n) (shared t x) false in
    let q : r ≡ (unless_full both t x (rebuilt t x k v (link_roots a b))).0 = e ∙ ap (λ f. (tested f n t (Rebuild x k v a b)).0) p in
    let u = unless both t x (rebuilt t x k v (link_roots a b)) in
    (λ w. (let c = (both_true (eqb (live t) n) (shared t x)).0 (u.0 (sym q ∙ w)) in (eqb-true (live t) n c.0, c.1)), λ w. q ∙ u.1 ((both_true (eqb (live t) n) (shared t x)).1 (eq-eqb (live t) n w.0, w.1))))
wants n t (Copy s d) r e = tt
wants n t (Release x) r e = tt
wants n t (Match x k a b) r e = tt
wants n t (Look x) r e = tt
wants n t (Same x s) r e = tt

-- what a call ensures is a turn, where the store has n cells
turn_of : {S : Type 0} (G : Ghosts S) (n : ℕ) (t : Machine) (call : Call) (r : Reply) (b e : Bench S) → (G.means b.store).size ≡ n → G.ok e.store →
    Follows (G.means b.store).size t call r e.roots.slots (G.means e.store) →
    Effect b.roots.slots call r e.roots.slots (G.kept b.store e.store) (λ q. G.did b.store q e.store) → Turn G n t call r b e
turn_of G n t call r b e z k f x = record { ok = k; follows = subst (λ y. Follows y t call r e.roots.slots (G.means e.store)) z f; effect = x }

-- so far the calls were served, and the bench is in order
pub record Running {S : Type 0} (G : Ghosts S) (calls : List Call) (rs : List Reply) (b e : Bench S) : Type 0 where
  pub ok : G.ok e.store
  pub stood : Stood e.roots.slots (G.means e.store)
  pub served : (t : Machine) → Stands t b.roots.slots (G.means b.store) → Shaped t → Served G (G.means b.store).size t calls rs b e

module _ {S : Type 0} (G : Ghosts S) (b : Bench S) where
  pub running_none : G.ok b.store → Stood b.roots.slots (G.means b.store) → Running G [] [] b b
  running_none k s = record { ok = k; stood = s; served = λ t u h. served_none G t b u h }

  pub running_next : (calls : List Call) (rs : List Reply) (i : ℕ) (none : Call) (r : Reply) (d e : Bench S) → i < length calls → length rs ≡ length calls → Running G (take i calls) (take i rs) b d → G.ok e.store → Stood e.roots.slots (G.means e.store) →
      Answers d.roots.slots (G.means d.store) (get_or calls i none) r e.roots.slots (G.means e.store) → Effect d.roots.slots (get_or calls i none) r e.roots.slots (G.kept d.store e.store) (λ q. G.did d.store q e.store) →
      Running G (take (i + 1) calls) (take (i + 1) (set rs i r)) b e
  running_next calls rs i none r d e h l x k s told effect = record {
    ok = k;
    stood = s;
    served = λ t u p.
        (let y = x.served t u p in
        let m = after (G.means b.store).size t (take i calls) in
        served_next calls none rs i r h (omega arith) y (turn_of G (G.means b.store).size m (get_or calls i none) r d e y.sized k (told m y.stands y.shaped) effect));
  }

  pub running_all : (calls : List Call) (rs : List Reply) (i : ℕ) (e : Bench S) → length calls ≤ i → length rs ≡ length calls → Running G (take i calls) (take i rs) b e → Running G calls rs b e
  running_all calls rs i e h l x = record { ok = x.ok; stood = x.stood; served = λ t u p. served_all calls rs i h (omega arith) (x.served t u p) }

-- what follows from each turn holds throughout
pub throughout : {S : Type 0} {G : Ghosts S} {n : ℕ} {P : Machine → Call → Reply → Bench S → Bench S → Type 0} {t : Machine} {calls : List Call} {rs : List Reply} {b e : Bench S} → ((t : Machine) (call : Call) (r : Reply) (b e : Bench S) → Turn G n t call r b e → P t call r b e) →
    (x : Turns G n t calls rs b e) → Throughout P x
unfolding Throughout
throughout f ended = tt
throughout f (turned {t} {call} {r = r} {b = b} {c = c} x xs) = (f t call r b c x, throughout f xs)

pub shows : {S : Type 0} {G : Ghosts S} {n : ℕ} {t : Machine} {calls : List Call} {rs : List Reply} {b e : Bench S} → (s : Served G n t calls rs b e) → Throughout (λ t call r b e. TurnShows G n t call r e) s.turns
shows {n = n} s = throughout (λ t call r b e x. record { held = x.follows.stands.1.out; wants = wants n t call r x.follows.told }) s.turns

abbrev pub shown : {S : Type 0} {G : Ghosts S} {n : ℕ} {t : Machine} {calls : List Call} {rs : List Reply} {b e : Bench S} → Served G n t calls rs b e → Shown G n t calls rs b e
shown s = record { served = s; shows = shows s }

-- what an answered list tells, told otherwise
pub placed : (done more refused : Type 0) → (done → more) → (r : Result (Unit {0}) NoPlace) → Placed done refused r → Placed more refused r
placed done more refused f (Ok x) p = f p
placed done more refused f (Err x) p = p

grown_unless : (f : Bool) (t : Machine) (d : ℕ) (u : Machine) (new : List Node) → u.nodes ≡ t.nodes ++ new → (unless_full f t d u).1.nodes ≡ t.nodes ++ added new (unless_full f t d u).0
grown_unless true t d u new e = sym (append-nil t.nodes)
grown_unless false t d u new e = e

-- a step appends what it adds
grown : (n : ℕ) (t : Machine) (call : Call) (o : Option BenchFault) → (tested o n t call).1.nodes ≡ t.nodes ++ added (new_node t call) (tested o n t call).0
grown n t call (Some e) = sym (append-nil t.nodes)
grown n t (Make d k v a b) None = grown_unless (eqb (live t) n) t d (made t d k v (link_roots a b)) (new_node t (Make d k v a b)) refl
grown n t (Rebuild r k v a b) None = grown_unless (cond (eqb (live t) n) (shared t r) false) t r (rebuilt t r k v (link_roots a b)) (new_node t (Rebuild r k v a b)) refl
grown n t (Match r k a b) None = elim (eqb (node_of_root t r).kind k) as
    (λ f. (cond {A = Told} f (Ok (Value (node_of_root t r).value), parted t r (link_roots a b)) (Ok OtherKind, t)).1.nodes ≡ t.nodes ++ added [] (cond {A = Told} f (Ok (Value (node_of_root t r).value), parted t r (link_roots a b)) (Ok OtherKind, t)).0)
    [ true ↦ sym (append-nil t.nodes) | false ↦ sym (append-nil t.nodes) ]
grown n t (Copy s d) None = sym (append-nil t.nodes)
grown n t (Release r) None = sym (append-nil t.nodes)
grown n t (Look r) None = sym (append-nil t.nodes)
grown n t (Same r s) None = sym (append-nil t.nodes)

pub nodes_grow : NodesGrow
nodes_grow n t call = grown n t call (fault_of call (flags t.roots))
