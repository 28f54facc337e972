-- Each call does to the meaning what the interface asks, however cells are lowered.
use Rattle.std.proofs.Common.{◌≡◌, ℕ, ◌+◌, ◌-◌, ◌<◌, ◌≤◌, List, [], ◌∷◌, ◌++◌, length, Some, None, Option, sym, refl, ap, ◌∙◌, subst, ⊎_elim, arith, length-set}
use Rattle.std.proofs.lemmas.Bool.{cases_eq, eq-eqb, ne_eqb, leb-true, leb-false}
use Rattle.store.specs.declared.cell.Cell.{Cell}
use Rattle.store.specs.Numbers.{hit, times, In, opt}
use Rattle.store.specs.Meaning.{Node, arity, Reached, by_hold, by_link, less, Moved, Made, Full, Spare}
use Rattle.store.specs.Cells.{empty, links_of, node_of, inlinks, holds, meaning}
use Rattle.store.specs.Heap.{Heap, cell, raised, raised_all, claimed, stripped, written, filled, lowered_all, made_in, rewritten, made_beside, parted}
use Rattle.store.specs.Sound.{Fitting, Sound, Okay, Lowered, Lawful}
use Rattle.store.specs.NumbersLemmas.{hit_cases, hit_self, hit_other}
use Rattle.store.specs.CellsLemmas.{at_self, at_other, inlinks_set, inlinks_at, counted_inside}
use Rattle.store.specs.Writes.{fill, fill_held, written_links, arity_most}
use Rattle.store.specs.Sinks.{chain_kept}
use Rattle.store.proofs.Reach.{reached_counted, all_reached, none_free, First, first_free}
use Rattle.store.proofs.Steps.{lowers, first_here, first_alone, claim, claim_held, held_here, strip, strip_held, Raised, raise, raise_raised, raises}

-- a cell c is given with a content; base are the holds that are out besides, before the links' holds are spent
pub record Built (h k : Heap) (base : ℕ → ℕ) (node : Node) (c : ℕ) : Type 0 where
  pub okay : Okay k
  pub sized : length k.cells ≡ length h.cells
  pub held : (d : ℕ) → holds k.cells d + times d node.links ≡ base d + hit d c
  pub kept : (d : ℕ) → (d ≡ c → ⊥) → 0 < (cell k d).count → node_of (cell k d) ≡ node_of (cell h d)
  pub given : node_of (cell k c) ≡ node

-- v is h with c made ready: held once, without content, nothing leading to it. Its old links, xs, are held too
record Ready (h v : Heap) (base : ℕ → ℕ) (c : ℕ) (xs : List ℕ) : Type 0 where
  okay : Okay v
  bare : cell v c ≡ empty 1 None
  alone : inlinks c v.cells ≡ 0
  held : (d : ℕ) → holds v.cells d ≡ base d + hit d c + times d xs
  others : (d : ℕ) → (d ≡ c → ⊥) → cell v d ≡ cell h d
  sized : length v.cells ≡ length h.cells
  unheld : base c ≡ 0

module _ (lower : Heap → ℕ → Heap) (law : Lawful lower) where
  module _ {h v : Heap} {base : ℕ → ℕ} {c : ℕ} {xs : List ℕ} (r : Ready h v base c xs) (node : Node) (length_is : length node.links ≡ arity node.kind) (spare : (d : ℕ) → times d node.links ≤ base d) where
    w : Heap
    w = lowered_all lower v xs

    done : Okay w × Lowered v.cells w.cells xs
    unfolding w
    done = lowers lower law xs v r.okay (λ d. omega (arith, r.held d))

    held_w : (d : ℕ) → holds w.cells d ≡ base d + hit d c
    held_w d = omega (arith, done.1.held d, r.held d)

    one : (cell w c).count ≡ 1
    one = omega (arith, done.1.fewer c, ap (λ (x : Cell). x.count) r.bare, done.0.sound.counted c, held_w c, hit_self c)

    here : c < length w.cells
    here = counted_inside w.cells c (omega (arith, one))

    alone_w : inlinks c w.cells ≡ 0
    alone_w = omega (arith, done.1.inlinked c, r.alone)

    bare_w : (d : ℕ) → times d (links_of (cell w c)) ≡ 0
    bare_w d = ap (λ (n : Node). times d n.links) (done.1.kept c (omega (arith, one)) ∙ ap node_of r.bare)

    loose_w : (cell w c).next ≡ None
    loose_w = done.0.sound.unlisted c (omega (arith, one))

    room_w : (d : ℕ) → times d node.links ≤ holds w.cells d
    room_w d = omega (arith, spare d, held_w d)

    none_own : times c node.links ≡ 0
    none_own = omega (arith, spare c, r.unheld)

    finish : Built h (filled w c node) base node c
    finish = record {
      okay = record {
        listed = done.0.listed;
        chain = chain_kept w.cells c _ w.free done.0.listed (done.0.sound.used c (omega (arith, one))) done.0.chain;
        sound = fill done.0.sound c here node (cell w c).count (cell w c).next (omega (arith, one)) refl bare_w alone_w length_is room_w none_own loose_w;
      };
      sized = length-set w.cells c _ ∙ done.1.sized ∙ r.sized;
      held = λ d. fill_held done.0.sound c here node (cell w c).count (cell w c).next (omega (arith, one)) refl bare_w alone_w length_is room_w none_own loose_w d ∙ held_w d;
      kept = λ d ne z.
          let e : cell (filled w c node) d ≡ cell w d = at_other w.cells c _ d ne in
          let p : 0 < (cell w d).count = subst (λ (x : Cell). 0 < x.count) e z in
          ap node_of e ∙ done.1.kept d p ∙ ap node_of (r.others d ne);
      given = ap node_of (at_self w.cells c (written node (cell w c).count (cell w c).next) here)
          ∙ ap (λ l. record { kind = node.kind; value = node.value; links = l }) (written_links node (cell w c).count (cell w c).next length_is);
    }

  -- what is built is made, over the holds of base
  built_made : {h k : Heap} {base : ℕ → ℕ} {node : Node} {c : ℕ} {idle : List ℕ} → Sound h.cells idle → c < length h.cells → base c ≡ 0 → inlinks c h.cells ≡ 0 → Built h k base node c →
      Made (record { size = length h.cells; holds = base; content = λ d. node_of (cell h d) }) (meaning k.cells) node c
  built_made {h} {k} {base} {node} {c} s here unheld alone b = record {
    moved = record { sized = b.sized; held = λ d. omega (arith, b.held d); kept = λ d r q. b.kept d (λ e. fresh (subst (Reached (record { size = length h.cells; holds = base; content = λ d. node_of (cell h d) })) e r)) (reached_counted b.okay.sound q) };
    inside = here;
    fresh = fresh;
    written = b.given;
  }
    where
      fresh : Reached (record { size = length h.cells; holds = base; content = λ d. node_of (cell h d) }) c → ⊥
      fresh (by_hold p) = omega (arith, unheld)
      fresh (by_link {j} r i) = omega (arith, inlinks_at c h.cells j, alone)

  module _ {h : Heap} (o : Okay h) (node : Node) (length_is : length node.links ≡ arity node.kind) where
    -- make takes the first free cell
    module _ (c : ℕ) (e : h.free ≡ Some c) (spare : (d : ℕ) → times d node.links ≤ holds h.cells d) where
      f : First h c
      f = first_free o e

      make_ready : Ready h (claimed h c) (holds h.cells) c (links_of (cell h c))
      make_ready = record {
        okay = claim f;
        bare = at_self h.cells c (empty 1 None) (first_here f);
        alone = omega (arith, inlinks_set c h.cells c (empty 1 None) (first_here f), (first_alone f).0);
        held = claim_held f;
        others = λ d ne. at_other h.cells c (empty 1 None) d ne;
        sized = length-set h.cells c (empty 1 None);
        unheld = (first_alone f).1;
      }

      pub make_built : Built h (made_in lower h node (Some c)) (holds h.cells) node c
      unfolding w made_in
      make_built = finish make_ready node length_is spare

      pub make_made : Made (meaning h.cells) (meaning (made_in lower h node (Some c)).cells) node c
      make_made = built_made f.sound (first_here f) (first_alone f).1 (first_alone f).0 make_built

    -- rebuild of a cell of count 1 writes the same cell
    module _ (c : ℕ) (out : 0 < holds h.cells c) (single : (cell h c).count ≡ 1) (spare : Spare (less (meaning h.cells) c) node.links) where
      lone : (inlinks c h.cells ≡ 0) × (holds h.cells c ≡ 1)
      lone = let e = o.sound.counted c in (omega arith, omega arith)

      rewrite_ready : Ready h (stripped h c) (λ d. holds h.cells d - hit d c) c (links_of (cell h c))
      rewrite_ready = record {
        okay = strip o c out;
        bare = at_self h.cells c _ (held_here o c out) ∙ ap (λ n. empty n (cell h c).next) single ∙ ap (empty 1) (o.sound.unlisted c (omega arith));
        alone = omega (arith, inlinks_set c h.cells c (empty (cell h c).count (cell h c).next) (held_here o c out), lone.0);
        held = λ d. ⊎_elim
            (λ p. omega (arith, strip_held o c out d, p.1, lone.1, ap (λ i. holds h.cells i) p.0))
            (λ p. omega (arith, strip_held o c out d, p.1))
            (hit_cases d c);
        others = λ d ne. at_other h.cells c _ d ne;
        sized = length-set h.cells c _;
        unheld = omega (arith, lone.1, hit_self c);
      }

      pub rewrite_built : Built h (rewritten lower h c node) (λ d. holds h.cells d - hit d c) node c
      unfolding w rewritten
      rewrite_built = finish rewrite_ready node length_is spare

      pub rewrite_made : Made (less (meaning h.cells) c) (meaning (rewritten lower h c node).cells) node c
      rewrite_made = built_made o.sound (held_here o c out) (omega (arith, lone.1, hit_self c)) lone.0 rewrite_built

    -- rebuild of a cell of a higher count makes a new one beside it
    module _ (old c : ℕ) (e : h.free ≡ Some c) (out : 0 < holds h.cells old) (spare : Spare (less (meaning h.cells) old) node.links) where
      room : (d : ℕ) → times d node.links ≤ holds h.cells d
      room d = omega (arith, spare d)

      b : Built h (made_in lower h node (Some c)) (holds h.cells) node c
      b = make_built c e room

      g : First h c
      g = first_free o e

      apart : old ≡ c → ⊥
      apart q = omega (arith, (first_alone g).1, ap (λ i. holds h.cells i) q)

      still : 0 < holds (made_in lower h node (Some c)).cells old
      still = omega (arith, b.held old, spare old, hit_self old)

      low : Okay (lower (made_in lower h node (Some c)) old) × Lowered (made_in lower h node (Some c)).cells (lower (made_in lower h node (Some c)) old).cells (old ∷ [])
      low = law (made_in lower h node (Some c)) old b.okay still

      pub beside_built : Built h (made_beside lower h old node (Some c)) (λ d. holds h.cells d - hit d old) node c
      unfolding made_beside
      beside_built = record {
        okay = low.0;
        sized = low.1.sized ∙ b.sized;
        held = λ d. ⊎_elim
            (λ p. omega (arith, low.1.held d, b.held d, p.1, ap (λ i. holds h.cells i) p.0))
            (λ p. omega (arith, low.1.held d, b.held d, p.1))
            (hit_cases d old);
        kept = λ d ne z. low.1.kept d z ∙ b.kept d ne (omega (arith, low.1.fewer d));
        given = low.1.kept c (omega (arith, low.0.sound.counted c, low.1.held c, b.held c, hit_self c, room c, (first_alone g).1, hit_other c old (λ q. apart (sym q)))) ∙ b.given;
      }

      pub beside_made : Made (less (meaning h.cells) old) (meaning (made_beside lower h old node (Some c)).cells) node c
      beside_made = built_made g.sound (first_here g) (omega (arith, (first_alone g).1)) (first_alone g).0 beside_built

  module _ {h : Heap} (o : Okay h) (c : ℕ) (out : 0 < holds h.cells c) where
    lowered_moved : {a k : List Cell} {idle : List ℕ} → Sound k idle → Lowered a k (c ∷ []) → Moved (meaning a) (meaning k) (c ∷ []) []
    lowered_moved s l = record { sized = l.sized; held = λ d. omega (arith, l.held d); kept = λ d r q. l.kept d (reached_counted s q) }

    pub release_moved : Moved (meaning h.cells) (meaning (lower h c).cells) (c ∷ []) []
    release_moved = let r = law h c o out in lowered_moved r.0.sound r.1

    -- part of a cell of count 1 hands its links over
    module _ (single : (cell h c).count ≡ 1) where
      out_v : 0 < holds (stripped h c).cells c
      out_v = omega (arith, strip_held o c out c)

      low_v : Okay (lower (stripped h c) c) × Lowered (stripped h c).cells (lower (stripped h c) c).cells (c ∷ [])
      low_v = law (stripped h c) c (strip o c out) out_v

      alone_h : (inlinks c h.cells ≡ 0) × (holds h.cells c ≡ 1)
      alone_h = let e = o.sound.counted c in (omega arith, omega arith)

      gone : (cell (lower (stripped h c) c) c).count ≡ 0
      gone = omega (arith, low_v.0.sound.counted c, low_v.1.held c, low_v.1.inlinked c, strip_held o c out c, hit_self c, alone_h.0, alone_h.1, inlinks_at c h.cells c, inlinks_set c h.cells c (empty (cell h c).count (cell h c).next) (held_here o c out))

      pub part_one : Okay (lower (stripped h c) c) × Moved (meaning h.cells) (meaning (lower (stripped h c) c).cells) (c ∷ []) (links_of (cell h c))
      part_one = (
        low_v.0,
        record {
          sized = low_v.1.sized ∙ length-set h.cells c _;
          held = λ d. omega (arith, low_v.1.held d, strip_held o c out d);
          kept = λ d r q.
              let z = reached_counted low_v.0.sound q in
              low_v.1.kept d z ∙ ap node_of (at_other h.cells c _ d (λ e. omega (arith, z, gone, ap (λ i. (cell (lower (stripped h c) c) i).count) e)));
        },
      )

    -- of a higher count shares them
    linked : (d : ℕ) → In d (links_of (cell h c)) → 0 < (cell h d).count
    linked d i = omega (arith, inlinks_at d h.cells c, o.sound.counted d)

    up : Okay (raised_all h (links_of (cell h c))) × Raised h.cells (raised_all h (links_of (cell h c))).cells (links_of (cell h c))
    up = raises (links_of (cell h c)) h o linked

    pub part_out : 0 < holds (raised_all h (links_of (cell h c))).cells c
    part_out = omega (arith, up.1.held c)

    pub part_more : Okay (lower (raised_all h (links_of (cell h c))) c) × Moved (meaning h.cells) (meaning (lower (raised_all h (links_of (cell h c))) c).cells) (c ∷ []) (links_of (cell h c))
    part_more =
        let low = law (raised_all h (links_of (cell h c))) c up.0 part_out in (
          low.0,
          record {
            sized = low.1.sized ∙ up.1.sized;
            held = λ d. omega (arith, low.1.held d, up.1.held d);
            kept = λ d r q. low.1.kept d (reached_counted low.0.sound q) ∙ up.1.kept d;
          },
        )

    pub part_parted : Okay (parted lower h c) × Moved (meaning h.cells) (meaning (parted lower h c).cells) (c ∷ []) (links_of (cell h c))
    unfolding parted
    part_parted = ⊎_elim (λ e. rw (eq-eqb (cell h c).count 1 e) (part_one e)) (λ ne. rw (ne_eqb (cell h c).count 1 ne) part_more) (cases_eq (cell h c).count 1)

-- want of a cell
pub make_full : {h : Heap} → Okay h → h.free ≡ None → Full (meaning h.cells)
make_full {h} o e = all_reached o.sound (holds h.cells) (λ c l. omega (arith, none_free o e c l, o.sound.counted c))

-- no cell is free, and the old one has a count above 1: it is reached without its hold
pub rebuild_full : {h : Heap} (o : Okay h) (old : ℕ) → 0 < holds h.cells old → h.free ≡ None → ((cell h old).count ≡ 1 → ⊥) → Reached (less (meaning h.cells) old) old
rebuild_full {h} o old out e more =
    all_reached o.sound (λ d. holds h.cells d - hit d old)
    (λ c l. ⊎_elim
    (λ p. omega (arith, none_free o e c l, o.sound.counted c, p.1, more_here c p.0))
    (λ p. omega (arith, none_free o e c l, o.sound.counted c, p.1))
    (hit_cases c old))
    old (held_here o old out)
  where
    more_here : (c : ℕ) → c ≡ old → 1 < (cell h c).count
    more_here c q = rw q (omega (arith, more, o.sound.counted old))

pub copy_copied : {h : Heap} (o : Okay h) (c : ℕ) → 0 < holds h.cells c → Okay (raised h c) × Moved (meaning h.cells) (meaning (raised h c).cells) [] (c ∷ [])
copy_copied {h} o c out =
    let busy : 0 < (cell h c).count = omega (arith, o.sound.counted c) in
    let r = raise_raised o c busy in
    (raise o c busy, record { sized = r.sized; held = λ d. omega (arith, r.held d); kept = λ d p q. r.kept d })

-- a hold for each link of the kind makes as many
pub fits_length : (kind : ℕ) (a b : Option ℕ) → Fitting kind a b → length (opt a ++ opt b) ≡ arity kind
fits_length kind None None f = omega (arith, leb-false 1 (arity kind) (sym f.first))
fits_length kind (Some x) None f = omega (arith, leb-true 1 (arity kind) (sym f.first), leb-false 2 (arity kind) (sym f.second))
fits_length kind (Some x) (Some y) f = omega (arith, leb-true 2 (arity kind) (sym f.second), arity_most kind)
fits_length kind None (Some y) f = absurd (omega (arith, leb-false 1 (arity kind) (sym f.first), leb-true 2 (arity kind) (sym f.second)))
