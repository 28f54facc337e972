-- What is found in one of two pictures that agree is found in the other.
use Rattle.std.proofs.Common.{◌≡◌, ℕ, map, sym, ap, ◌∙◌, subst}
use Rattle.store.specs.Numbers.{In}
use Rattle.store.specs.Meaning.{Node}
use Rattle.store.specs.Rooted.{named}
use Rattle.bench.specs.Picture.{Picture, Found, from_root, from_link, Agree}
use Rattle.bench.proofs.Slots.{in_by, by_in, named_by}

module _ {p q : Picture} {f : ℕ → ℕ} (a : Agree p q f) where
  named_agree : named q.roots ≡ map f (named p.roots)
  named_agree = ap named a.roots ∙ named_by f p.roots

  pub links_agree : {c : ℕ} → Found p c → (q.content (f c)).links ≡ map f (p.content c).links
  links_agree {c} r = ap (λ (x : Node). x.links) (a.content c r)

  pub forth : {c : ℕ} → Found p c → Found q (f c)
  forth {c} (from_root h) = from_root (subst (In (f c)) (sym named_agree) (in_by f (named p.roots) c h))
  forth {c} (from_link {j} r h) = from_link (forth r) (subst (In (f c)) (sym (links_agree r)) (in_by f (p.content j).links c h))

  pub back : {i : ℕ} → Found q i → (c : ℕ) × Found p c × (f c ≡ i)
  back {i} (from_root h) = let r = by_in f (named p.roots) i (subst (In i) named_agree h) in (r.0, from_root r.1, r.2)
  back {i} (from_link {j} k h) =
      let b = back k in
      let l : In i (q.content (f b.0)).links = subst (λ x. In i (q.content x).links) (sym b.2) h in
      let r = by_in f (p.content b.0).links i (subst (In i) (links_agree b.1) l) in
      (r.0, from_link b.1 r.1, r.2)
