-- The tree of bytes does not depend on its bound: it is grown record by record.
use Rattle.std.proofs.Common.{◌≡◌, ℕ, zero, suc, ◌+◌, ◌-◌, ◌<◌, ◌≤◌, ◌&&◌, ◌||◌, eqb, ltb, leb, List, length, drop, Ok, Err, Result, refl, ap, ◌∙◌, subst, arith}
use Rattle.std.proofs.lemmas.Bool.{cond_both, or_parts, and_parts, ltb-false, leb-true}
use Rattle.std.proofs.lemmas.List.{length-take, length-drop}
use Rattle.rule.specs.declared.fault.Flaw.{Flaw}
use Rattle.rule.specs.Sheet.{Fork, match, test}
use Rattle.rule.specs.Read.{Rec, plain, branch, last, le16, Front, front, sized, branched, armed, fields, with_rest, opened_record, record_at, Tree, closed, before_arms, grown_at, grown, tree_by, tree}

-- the arms of a record, with the bytes before them, are no longer than n
abbrev pub ArmsIn : ℕ → Rec → Type 0
ArmsIn n (plain s) = Unit {0}
ArmsIn n (branch f a b) = length a + length b + before_arms f ≤ n
ArmsIn n last = Unit {0}

abbrev FieldsIn : ℕ → Result Rec Flaw → Type 0
FieldsIn n (Ok r) = ArmsIn n r
FieldsIn n (Err e) = Unit {0}

pub some_before : (f : Fork) → 8 ≤ before_arms f
some_before (match r k s a b) = omega arith
some_before (test x y) = omega arith

-- what a record leaves is shorter than n
abbrev pub Shrinks : ℕ → Result (Rec × List ℕ) Flaw → Type 0
Shrinks n (Ok p) = (length p.1 < n) × ArmsIn n p.0
Shrinks n (Err e) = Unit {0}

sized_in : (n k : ℕ) (b : List ℕ) (r : Rec) → ArmsIn n r → FieldsIn n (sized k b r)
sized_in n k b r h = cond_both (eqb (length b) k) _ _ (FieldsIn n) (λ _. h) (λ _. tt)

armed_in : (n k : ℕ) (f : Fork) (arms : List ℕ) → length arms + before_arms f ≤ n → FieldsIn n (armed f k arms)
armed_in n k f arms h = cond_both (leb 4 k && leb (k + 4) (length arms)) _ _ (λ x. FieldsIn n (branched f x))
    (λ e.
    let hi = leb-true (k + 4) (length arms) (and_parts (leb 4 k) (leb (k + 4) (length arms)) e).1 in
    omega (arith, length-take k arms, length-drop k arms))
    (λ _. tt)

fields_in : (n k : ℕ) (b : List ℕ) → length b + 4 ≤ n → FieldsIn n (fields k b)
fields_in n k b h =
    cond_both (eqb k 2) _ _ (FieldsIn n) (λ _. sized_in n 5 b _ tt)
    (λ _. cond_both (eqb k 3) _ _ (FieldsIn n) (λ _. sized_in n 2 b _ tt)
    (λ _. cond_both (eqb k 4) _ _ (FieldsIn n) (λ _. sized_in n 1 b _ tt)
    (λ _. cond_both (eqb k 5) _ _ (FieldsIn n) (λ _. sized_in n 5 b _ tt)
    (λ _. cond_both (eqb k 6) _ _ (FieldsIn n) (λ _. sized_in n 5 b _ tt)
    (λ _. cond_both (eqb k 7) _ _ (FieldsIn n) (λ _. sized_in n 3 b _ tt)
    (λ _. cond_both (eqb k 8) _ _ (FieldsIn n) (λ _. sized_in n 3 b _ tt)
    (λ _. cond_both (eqb k 9) _ _ (FieldsIn n) (λ _. sized_in n 2 b _ tt)
    (λ _. cond_both (eqb k 10) _ _ (FieldsIn n) (λ _. cond_both (ltb (length b) 7) _ _ (FieldsIn n) (λ _. tt)
    (λ l. armed_in n _ _ (drop 7 b) (omega (arith, length-drop 7 b, ltb-false (length b) 7 l))))
    (λ _. cond_both (eqb k 11) _ _ (FieldsIn n) (λ _. cond_both (ltb (length b) 4) _ _ (FieldsIn n) (λ _. tt)
    (λ l. armed_in n _ _ (drop 4 b) (omega (arith, length-drop 4 b, ltb-false (length b) 4 l))))
    (λ _. cond_both (eqb k 12) _ _ (FieldsIn n) (λ _. sized_in n 0 b _ tt)
    (λ _. tt)))))))))))

abbrev FrontIn : ℕ → Result Front Flaw → Type 0
FrontIn n (Ok o) = (length o.body + 4 ≤ n) × (length o.rest < n)
FrontIn n (Err e) = Unit {0}

front_in : (xs : List ℕ) → FrontIn (length xs) (front xs)
front_in xs = cond_both (ltb (length xs) 4 || (ltb (le16 xs 0) 4 || ltb (length xs) (le16 xs 0))) _ _ (FrontIn (length xs)) (λ _. tt)
    (λ e.
    let long = ltb-false (length xs) 4 (or_parts (ltb (length xs) 4) _ e).0 in
    let n = le16 xs 0 - 4 in
    omega (arith, long, length-take n (drop 4 xs), length-drop n (drop 4 xs), length-drop 4 xs))

rest_in : (n : ℕ) (f : Result Rec Flaw) (rest : List ℕ) → FieldsIn n f → length rest < n → Shrinks n (with_rest f rest)
rest_in n (Ok r) rest a h = (h, a)
rest_in n (Err e) rest a h = tt

opened_in : (n : ℕ) (o : Result Front Flaw) → FrontIn n o → Shrinks n (opened_record o)
opened_in n (Ok o) h = rest_in n (fields o.kind o.body) o.rest (fields_in n o.kind o.body h.0) h.1
opened_in n (Err e) h = tt

pub shrinks : (xs : List ℕ) → Shrinks (length xs) (record_at xs)
shrinks xs = opened_in (length xs) (front xs) (front_in xs)

pub shorter : (xs : List ℕ) (r : Rec) (rest : List ℕ) → record_at xs ≡ Ok (r, rest) → (length rest < length xs) × ArmsIn (length xs) r
shorter xs r rest is = subst (Shrinks (length xs)) is (shrinks xs)

abbrev Same : ℕ → (ℕ → List ℕ → Tree) → (ℕ → List ℕ → Tree) → Type 0
Same n t u = (q : ℕ) (ys : List ℕ) → length ys < n → t q ys ≡ u q ys

same_at : (n : ℕ) (t u : ℕ → List ℕ → Tree) (p : ℕ) (r : Rec) (rest : List ℕ) → length rest < n → ArmsIn n r → Same n t u → grown_at t p n r rest ≡ grown_at u p n r rest
same_at n t u p (plain s) rest h a same = ap (Tree.step p s) (same _ rest h)
same_at n t u p (branch f a b) rest h k same =
    let x = same (p + before_arms f) a (omega (arith, k, some_before f)) in
    let y = same (p + before_arms f + length a) b (omega (arith, k, some_before f)) in
    λ i. closed p (Tree.fork p f (x i) (y i)) rest
same_at n t u p last rest h a same = refl

same_grown : (n : ℕ) (t u : ℕ → List ℕ → Tree) (p : ℕ) (d : Result (Rec × List ℕ) Flaw) → Shrinks n d → Same n t u → grown t p n d ≡ grown u p n d
same_grown n t u p (Ok d) s same = same_at n t u p d.0 d.1 s.0 s.1 same
same_grown n t u p (Err e) s same = refl

enough : (n m p : ℕ) (xs : List ℕ) → length xs < n → length xs < m → tree_by n p xs ≡ tree_by m p xs
enough zero m p xs h k = absurd (omega arith)
enough (suc n) zero p xs h k = absurd (omega arith)
enough (suc n) (suc m) p xs h k = same_grown (length xs) (tree_by n) (tree_by m) p (record_at xs) (shrinks xs) (λ q ys l. enough n m q ys (omega arith) (omega arith))

pub tree_step : (p : ℕ) (xs : List ℕ) → tree p xs ≡ grown tree p (length xs) (record_at xs)
unfolding tree
tree_step p xs = same_grown (length xs) (tree_by (length xs)) (λ q ys. tree_by (suc (length ys)) q ys) p (record_at xs) (shrinks xs) (λ q ys l. enough (length xs) (suc (length ys)) q ys l (omega arith))

pub tree_err : (p : ℕ) (xs : List ℕ) (e : Flaw) → record_at xs ≡ Err e → tree p xs ≡ Tree.broken p e
tree_err p xs e is = tree_step p xs ∙ ap (grown tree p (length xs)) is

pub tree_ok : (p : ℕ) (xs : List ℕ) (r : Rec) (rest : List ℕ) → record_at xs ≡ Ok (r, rest) → tree p xs ≡ grown_at tree p (length xs) r rest
tree_ok p xs r rest is = tree_step p xs ∙ ap (grown tree p (length xs)) is
