-- A record that is written is read as itself, and what is read as a record was written as one.
use Rattle.std.proofs.Common.{◌≡◌, ℕ, suc, ◌+◌, ◌*◌, ◌<◌, ◌≤◌, ◌&&◌, eqb, ltb, leb, List, [], ◌∷◌, ◌++◌, length, get_or, take, drop, Ok, Err, Result, sym, refl, ap, ◌∙◌, subst, arith, w32, SFits, to_z, of_z}
use mir.ValLaws.{to_z-of_z, of_z-to_z, to_z-Fits}
use Rattle.std.proofs.lemmas.Bool.{cond_both, cond-true, cond-false, and_parts, and_from, eqb-true, ltb-false, le-ltb, leb-true, le-leb}
use Rattle.std.proofs.lemmas.List.{length-append, length-take, length-drop, take-append-drop, take_at, drop_at, drop_all}
use Rattle.rule.specs.declared.fault.Flaw.{Flaw}
use Rattle.rule.specs.Sheet.{Head, Step, make, copy, release, rebuild, put, sum, difference, look, Fork, match, test, two, four, opened, step_bytes, fork_bytes}
use Rattle.rule.specs.Read.{Rec, plain, branch, last, le16, le32, Front, front, sized, branched, armed, fields, with_rest, opened_record, record_at, head_fields, opened_head, head_at}
use Rattle.rule.specs.Allowed.{FitsValue}
use Rattle.rule.proofs.Bytes.{Bytes, two_read, two_written, four_read, four_written, front_opened, Fronted, fronted, from_1, from_2, from_3, from_5, from_4, from_6, from_7, bytes_left}

abbrev pub rec_bytes : Rec → List ℕ
rec_bytes (plain s) = step_bytes s
rec_bytes (branch f a b) = fork_bytes f a b
rec_bytes last = opened 12 []

abbrev pub FitsRec : Rec → Type 0
FitsRec (plain s) = FitsValue s
FitsRec (branch f a b) = (4 ≤ length a) × (4 ≤ length b)
FitsRec last = Unit {0}

-- written, then read
reread : (k : ℕ) (body rest : List ℕ) (r : Rec) → fields k body ≡ Ok r → record_at (opened k body ++ rest) ≡ Ok (r, rest)
reread k body rest r e = ap opened_record (front_opened k body rest) ∙ ap (λ f. with_rest f rest) e

step_fields : (s : Step) → FitsValue s → (rest : List ℕ) → record_at (step_bytes s ++ rest) ≡ Ok (plain s, rest)
step_fields (make d k s a b) f rest = reread 2 (d ∷ (k ∷ (s ∷ (a ∷ (b ∷ []))))) rest _ refl
step_fields (copy s d) f rest = reread 3 (s ∷ (d ∷ [])) rest _ refl
step_fields (release r) f rest = reread 4 (r ∷ []) rest _ refl
step_fields (rebuild r k s a b) f rest = reread 5 (r ∷ (k ∷ (s ∷ (a ∷ (b ∷ []))))) rest _ refl
step_fields (put s v) f rest = reread 6 (s ∷ four (of_z w32 v)) rest _ (ap (λ z. Ok (plain (put s z))) (ap (to_z w32) (four_read (of_z w32 v)) ∙ to_z-of_z w32 v f))
step_fields (sum t x y) f rest = reread 7 (t ∷ (x ∷ (y ∷ []))) rest _ refl
step_fields (difference t x y) f rest = reread 8 (t ∷ (x ∷ (y ∷ []))) rest _ refl
step_fields (look r s) f rest = reread 9 (r ∷ (s ∷ [])) rest _ refl

armed_back : (f : Fork) (ya na : List ℕ) (n : ℕ) → length ya ≡ n → 4 ≤ length ya → 4 ≤ length na → armed f n (ya ++ na) ≡ Ok (branch f ya na)
armed_back f ya na n e a b =
    let long = length-append ya na in
    ap (branched f) (cond-true _ _ _ (and_from _ _ (le-leb 4 n (omega arith)) (le-leb (n + 4) (length (ya ++ na)) (omega arith))))
    ∙ (λ i. Ok (branch f (take_at ya na n e i) (drop_at ya na n e i)))

fork_fields : (f : Fork) (ya na : List ℕ) → 4 ≤ length ya → 4 ≤ length na → (rest : List ℕ) → record_at (fork_bytes f ya na ++ rest) ≡ Ok (branch f ya na, rest)
fork_fields (match r k s a b) ya na hy hn rest =
    reread 10 (r ∷ (k ∷ (s ∷ (a ∷ (b ∷ (two (length ya) ++ ya ++ na)))))) rest _
    (cond-false _ _ _ (le-ltb (length (r ∷ (k ∷ (s ∷ (a ∷ (b ∷ (two (length ya) ++ ya ++ na))))))) 7 (omega arith))
    ∙ armed_back (match r k s a b) ya na _ (sym (two_read (length ya))) hy hn)
fork_fields (test x y) ya na hy hn rest =
    reread 11 (x ∷ (y ∷ (two (length ya) ++ ya ++ na))) rest _
    (cond-false _ _ _ (le-ltb (length (x ∷ (y ∷ (two (length ya) ++ ya ++ na)))) 4 (omega arith))
    ∙ armed_back (test x y) ya na _ (sym (two_read (length ya))) hy hn)

pub written_read : (r : Rec) → FitsRec r → (rest : List ℕ) → record_at (rec_bytes r ++ rest) ≡ Ok (r, rest)
written_read (plain s) f rest = step_fields s f rest
written_read (branch f a b) h rest = fork_fields f a b h.0 h.1 rest
written_read last f rest = reread 12 [] rest last refl

-- read, then written
abbrev Fielded : ℕ → List ℕ → Result Rec Flaw → Type 0
Fielded k b (Ok r) = (rec_bytes r ≡ opened k b) × FitsRec r
Fielded k b (Err e) = Unit {0}

sized_told : (k n : ℕ) (b : List ℕ) (r : Rec) → (length b ≡ n → (rec_bytes r ≡ opened k b) × FitsRec r) → Fielded k b (sized n b r)
sized_told k n b r f = cond_both (eqb (length b) n) _ _ (Fielded k b) (λ e. f (eqb-true (length b) n e)) (λ _. tt)

same_opened : (j k : ℕ) (a b : List ℕ) → k ≡ j → a ≡ b → opened j a ≡ opened k b
same_opened j k a b e f i = opened (sym e i) (f i)

only_1 : (b : List ℕ) → length b ≡ 1 → get_or b 0 0 ∷ [] ≡ b
only_1 b e = ap (λ z. get_or b 0 0 ∷ z) (sym (drop_all 1 b (omega arith))) ∙ from_1 b (omega arith)

only_2 : (b : List ℕ) → length b ≡ 2 → get_or b 0 0 ∷ (get_or b 1 0 ∷ []) ≡ b
only_2 b e = ap (λ z. get_or b 0 0 ∷ (get_or b 1 0 ∷ z)) (sym (drop_all 2 b (omega arith))) ∙ from_2 b (omega arith)

only_3 : (b : List ℕ) → length b ≡ 3 → get_or b 0 0 ∷ (get_or b 1 0 ∷ (get_or b 2 0 ∷ [])) ≡ b
only_3 b e = ap (λ z. get_or b 0 0 ∷ (get_or b 1 0 ∷ (get_or b 2 0 ∷ z))) (sym (drop_all 3 b (omega arith))) ∙ from_3 b (omega arith)

only_5 : (b : List ℕ) → length b ≡ 5 → get_or b 0 0 ∷ (get_or b 1 0 ∷ (get_or b 2 0 ∷ (get_or b 3 0 ∷ (get_or b 4 0 ∷ [])))) ≡ b
only_5 b e = ap (λ z. get_or b 0 0 ∷ (get_or b 1 0 ∷ (get_or b 2 0 ∷ (get_or b 3 0 ∷ (get_or b 4 0 ∷ z))))) (sym (drop_all 5 b (omega arith))) ∙ from_5 b (omega arith)

only_6 : (b : List ℕ) → length b ≡ 6 → get_or b 0 0 ∷ (get_or b 1 0 ∷ (get_or b 2 0 ∷ (get_or b 3 0 ∷ (get_or b 4 0 ∷ (get_or b 5 0 ∷ []))))) ≡ b
only_6 b e = ap (λ z. get_or b 0 0 ∷ (get_or b 1 0 ∷ (get_or b 2 0 ∷ (get_or b 3 0 ∷ (get_or b 4 0 ∷ (get_or b 5 0 ∷ z)))))) (sym (drop_all 6 b (omega arith))) ∙ from_6 b (omega arith)

put_told : (b : List ℕ) → Bytes b → length b ≡ 5 → (get_or b 0 0 ∷ four (of_z w32 (to_z w32 (le32 b 1))) ≡ b) × SFits w32 (to_z w32 (le32 b 1))
put_told b h e =
    let h1 = h 1 in
    let h2 = h 2 in
    let h3 = h 3 in
    let h4 = h 4 in
    let fit : le32 b 1 < 4294967296 = omega arith in
    let back = of_z-to_z w32 (le32 b 1) (record { fits = fit }) in
    let same = four_written (get_or b 1 0) (get_or b 2 0) (get_or b 3 0) (get_or b 4 0) (le32 b 1) h1 h2 h3 refl in
    (ap (λ z. get_or b 0 0 ∷ four z) back ∙ ap (λ z. get_or b 0 0 ∷ z) same ∙ only_5 b e, to_z-Fits w32 (le32 b 1) (record { fits = fit }))

-- the length of the yes arm and both arms
arms_told : (x y n : ℕ) (arms : List ℕ) → x < 256 → n ≡ x + y * 256 → n ≤ length arms → two (length (take n arms)) ++ take n arms ++ drop n arms ≡ x ∷ (y ∷ arms)
arms_told x y n arms hx e le =
    let long : length (take n arms) ≡ n = omega (arith, length-take n arms) in
    let w = two_written x y (length (take n arms)) hx (omega arith) in
    (λ i. w i ++ take n arms ++ drop n arms) ∙ ap (λ z. x ∷ (y ∷ z)) (take-append-drop n arms)

armed_told : (k n : ℕ) (b arms : List ℕ) (f : Fork) → (n ≤ length arms → fork_bytes f (take n arms) (drop n arms) ≡ opened k b) → Fielded k b (armed f n arms)
armed_told k n b arms f g = cond_both (leb 4 n && leb (n + 4) (length arms)) _ _ (λ x. Fielded k b (branched f x))
    (λ e.
    let p = and_parts (leb 4 n) (leb (n + 4) (length arms)) e in
    let lo = leb-true 4 n p.0 in
    let hi = leb-true (n + 4) (length arms) p.1 in
    (g (omega arith), omega (arith, length-take n arms, length-drop n arms)))
    (λ _. tt)

match_told : (k : ℕ) (b : List ℕ) → Bytes b → k ≡ 10 → 7 ≤ length b → Fielded k b (armed (match (get_or b 0 0) (get_or b 1 0) (get_or b 2 0) (get_or b 3 0) (get_or b 4 0)) (le16 b 5) (drop 7 b))
match_told k b h e long = armed_told k (le16 b 5) b (drop 7 b) _
    (λ le. same_opened 10 k _ b e
    (ap (λ z. get_or b 0 0 ∷ (get_or b 1 0 ∷ (get_or b 2 0 ∷ (get_or b 3 0 ∷ (get_or b 4 0 ∷ z))))) (arms_told (get_or b 5 0) (get_or b 6 0) (le16 b 5) (drop 7 b) (h 5) refl le) ∙ from_7 b long))

test_told : (k : ℕ) (b : List ℕ) → Bytes b → k ≡ 11 → 4 ≤ length b → Fielded k b (armed (test (get_or b 0 0) (get_or b 1 0)) (le16 b 2) (drop 4 b))
test_told k b h e long = armed_told k (le16 b 2) b (drop 4 b) _
    (λ le. same_opened 11 k _ b e
    (ap (λ z. get_or b 0 0 ∷ (get_or b 1 0 ∷ z)) (arms_told (get_or b 2 0) (get_or b 3 0) (le16 b 2) (drop 4 b) (h 2) refl le) ∙ from_4 b long))

fielded : (k : ℕ) (b : List ℕ) → Bytes b → Fielded k b (fields k b)
fielded k b h =
    cond_both (eqb k 2) _ _ (Fielded k b) (λ e. sized_told k 5 b _ (λ l. (same_opened 2 k _ b (eqb-true k 2 e) (only_5 b l), tt)))
    (λ _. cond_both (eqb k 3) _ _ (Fielded k b) (λ e. sized_told k 2 b _ (λ l. (same_opened 3 k _ b (eqb-true k 3 e) (only_2 b l), tt)))
    (λ _. cond_both (eqb k 4) _ _ (Fielded k b) (λ e. sized_told k 1 b _ (λ l. (same_opened 4 k _ b (eqb-true k 4 e) (only_1 b l), tt)))
    (λ _. cond_both (eqb k 5) _ _ (Fielded k b) (λ e. sized_told k 5 b _ (λ l. (same_opened 5 k _ b (eqb-true k 5 e) (only_5 b l), tt)))
    (λ _. cond_both (eqb k 6) _ _ (Fielded k b) (λ e. sized_told k 5 b _ (λ l. (same_opened 6 k _ b (eqb-true k 6 e) (put_told b h l).0, (put_told b h l).1)))
    (λ _. cond_both (eqb k 7) _ _ (Fielded k b) (λ e. sized_told k 3 b _ (λ l. (same_opened 7 k _ b (eqb-true k 7 e) (only_3 b l), tt)))
    (λ _. cond_both (eqb k 8) _ _ (Fielded k b) (λ e. sized_told k 3 b _ (λ l. (same_opened 8 k _ b (eqb-true k 8 e) (only_3 b l), tt)))
    (λ _. cond_both (eqb k 9) _ _ (Fielded k b) (λ e. sized_told k 2 b _ (λ l. (same_opened 9 k _ b (eqb-true k 9 e) (only_2 b l), tt)))
    (λ _. cond_both (eqb k 10) _ _ (Fielded k b) (λ e. cond_both (ltb (length b) 7) _ _ (Fielded k b) (λ _. tt) (λ l. match_told k b h (eqb-true k 10 e) (ltb-false (length b) 7 l)))
    (λ _. cond_both (eqb k 11) _ _ (Fielded k b) (λ e. cond_both (ltb (length b) 4) _ _ (Fielded k b) (λ _. tt) (λ l. test_told k b h (eqb-true k 11 e) (ltb-false (length b) 4 l)))
    (λ _. cond_both (eqb k 12) _ _ (Fielded k b) (λ e. sized_told k 0 b _ (λ l. (same_opened 12 k _ b (eqb-true k 12 e) (sym (drop_all 0 b (omega arith))), tt)))
    (λ _. tt)))))))))))

abbrev pub Told : List ℕ → Result (Rec × List ℕ) Flaw → Type 0
Told xs (Ok p) = (xs ≡ rec_bytes p.0 ++ p.1) × FitsRec p.0
Told xs (Err e) = Unit {0}

rest_told : (xs : List ℕ) (k : ℕ) (body rest : List ℕ) (f : Result Rec Flaw) → xs ≡ opened k body ++ rest → Fielded k body f → Told xs (with_rest f rest)
rest_told xs k body rest (Ok r) e h = (e ∙ ap (λ z. z ++ rest) (sym h.0), h.1)
rest_told xs k body rest (Err x) e h = tt

opened_told : (xs : List ℕ) (o : Result Front Flaw) → Bytes xs → Fronted xs o → Told xs (opened_record o)
opened_told xs (Ok o) h e =
    let b : Bytes (opened o.kind o.body) = bytes_left (opened o.kind o.body) o.rest (subst Bytes e h) in
    rest_told xs o.kind o.body o.rest (fields o.kind o.body) e (fielded o.kind o.body (λ i. b (suc (suc (suc (suc i))))))
opened_told xs (Err x) h e = tt

told : (xs : List ℕ) → Bytes xs → Told xs (record_at xs)
told xs h = opened_told xs (front xs) h (fronted xs h)

pub read_written : (xs : List ℕ) → Bytes xs → (r : Rec) (rest : List ℕ) → record_at xs ≡ Ok (r, rest) → (xs ≡ rec_bytes r ++ rest) × FitsRec r
read_written xs h r rest e = subst (Told xs) e (told xs h)

-- and the head
abbrev pub head_bytes : Head → List ℕ
head_bytes h = opened 1 (two h.enter ++ two h.leave ++ two h.own)

pub head_read : (h : Head) (rest : List ℕ) → head_at (head_bytes h ++ rest) ≡ Ok (h, rest)
head_read h rest =
    ap opened_head (front_opened 1 (two h.enter ++ two h.leave ++ two h.own) rest)
    ∙ (λ i. Ok (record { enter = two_read h.enter i; leave = two_read h.leave i; own = two_read h.own i }, rest))

abbrev Headed : ℕ → List ℕ → Result Head Flaw → Type 0
Headed k b (Ok h) = head_bytes h ≡ opened k b
Headed k b (Err e) = Unit {0}

headed : (k : ℕ) (b : List ℕ) → Bytes b → Headed k b (head_fields k b)
headed k b h = cond_both (eqb k 1) _ _ (Headed k b)
    (λ e. cond_both (eqb (length b) 6) _ _ (Headed k b)
    (λ l.
    let x = two_written (get_or b 0 0) (get_or b 1 0) (le16 b 0) (h 0) refl in
    let y = two_written (get_or b 2 0) (get_or b 3 0) (le16 b 2) (h 2) refl in
    let z = two_written (get_or b 4 0) (get_or b 5 0) (le16 b 4) (h 4) refl in
    same_opened 1 k _ b (eqb-true k 1 e) ((λ i. x i ++ y i ++ z i) ∙ only_6 b (eqb-true (length b) 6 l)))
    (λ _. tt))
    (λ _. tt)

abbrev HeadTold : List ℕ → Result (Head × List ℕ) Flaw → Type 0
HeadTold xs (Ok p) = xs ≡ head_bytes p.0 ++ p.1
HeadTold xs (Err e) = Unit {0}

head_rest : (xs : List ℕ) (k : ℕ) (body rest : List ℕ) (f : Result Head Flaw) → xs ≡ opened k body ++ rest → Headed k body f → HeadTold xs (with_rest f rest)
head_rest xs k body rest (Ok r) e h = e ∙ ap (λ z. z ++ rest) (sym h)
head_rest xs k body rest (Err x) e h = tt

head_opened : (xs : List ℕ) (o : Result Front Flaw) → Bytes xs → Fronted xs o → HeadTold xs (opened_head o)
head_opened xs (Ok o) h e =
    let b : Bytes (opened o.kind o.body) = bytes_left (opened o.kind o.body) o.rest (subst Bytes e h) in
    head_rest xs o.kind o.body o.rest (head_fields o.kind o.body) e (headed o.kind o.body (λ i. b (suc (suc (suc (suc i))))))
head_opened xs (Err x) h e = tt

pub head_written : (xs : List ℕ) → Bytes xs → (h : Head) (rest : List ℕ) → head_at xs ≡ Ok (h, rest) → xs ≡ head_bytes h ++ rest
head_written xs b h rest e = subst (HeadTold xs) e (head_opened xs (front xs) b (fronted xs b))
