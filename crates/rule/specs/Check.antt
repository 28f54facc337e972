-- The check: the tests of a rule, in the order of the sheet. It answers the first that fails, or how many records there are.
use Rattle.std.specs.Prelude.{ℕ, zero, suc, ◌+◌, ◌/◌, ◌%◌, Bool, true, false, cond, ◌||◌, List, [], ◌∷◌, ◌++◌, map, length, pos, Some, None, Ok, Err, Option, option_map, Result, ◌==◌, nat_lt}
use Rattle.bench.specs.declared.call.Call.TheVariants.{Make, Copy, Release, Match, Rebuild, Look}
use Rattle.bench.specs.declared.call.Touch.{Touch}
use Rattle.bench.specs.declared.fault.NoSuchRoot as absent
use Rattle.bench.specs.declared.fault.TouchFault.{TouchFault}
use Rattle.bench.specs.declared.fault.TouchFault.TheVariants.{Empty, InUse}
use Rattle.bench.specs.Tests.{fits_kind, in_use, touch_denied, touched, after_touches, touches, first}
use Rattle.rule.specs.declared.mark.Mark.{Mark}
use Rattle.rule.specs.declared.mark.Mark.TheVariants.{Root, Link, Slot}
use Rattle.rule.specs.declared.fault.Flaw.{Flaw}
use Rattle.rule.specs.declared.fault.Flaw.TheVariants.{TooMany, TooDeep, NoSuchRoot, NoSuchSlot, LinksUnfit, NotOwned, RootEmpty, RootInUse, NotAsDeclared}
use Rattle.rule.specs.declared.fault.Spot.{Spot}
use Rattle.rule.specs.declared.fault.RuleFault.{RuleFault}
use Rattle.rule.specs.declared.fault.RuleFault.TheVariants.{TooLong, Flawed}
use Rattle.rule.specs.Sheet.{Head, Step, make, copy, release, rebuild, put, sum, difference, look, Fork, match, test}
use Rattle.rule.specs.Read.{head_at, Tree, step, fork, done, broken, tree}

-- the k lowest bits of a number, lowest first
abbrev pub bits : ℕ → ℕ → List Bool
bits zero m = []
bits (suc k) m = (m % 2 == 1) ∷ bits k (m / 2)

-- which of the sixteen roots a number marks, by bit r for root r
abbrev pub marked : ℕ → List Bool
marked m = bits 16 m

-- the lowest root at which two lists differ, counted from r
abbrev pub differing : ℕ → List Bool → List Bool → Option ℕ
differing r [] ys = None
differing r (x ∷ xs) [] = None
differing r (true ∷ xs) (true ∷ ys) = differing (suc r) xs ys
differing r (false ∷ xs) (false ∷ ys) = differing (suc r) xs ys
differing r (true ∷ xs) (false ∷ ys) = Some r
differing r (false ∷ xs) (true ∷ ys) = Some r

-- marked in one or the other
abbrev pub either : List Bool → List Bool → List Bool
either [] ys = []
either (x ∷ xs) [] = x ∷ xs
either (x ∷ xs) (y ∷ ys) = (x || y) ∷ either xs ys

-- the roots, links and slots that a record names, from left to right
abbrev pub step_marks : Step → List Mark
step_marks (make d k s a b) = Root d ∷ (Slot s ∷ (Link a ∷ (Link b ∷ [])))
step_marks (copy s d) = Root s ∷ (Root d ∷ [])
step_marks (release r) = Root r ∷ []
step_marks (rebuild r k s a b) = Root r ∷ (Slot s ∷ (Link a ∷ (Link b ∷ [])))
step_marks (put s v) = Slot s ∷ []
step_marks (sum t x y) = Slot t ∷ (Slot x ∷ (Slot y ∷ []))
step_marks (difference t x y) = Slot t ∷ (Slot x ∷ (Slot y ∷ []))
step_marks (look r s) = Root r ∷ (Slot s ∷ [])

abbrev pub fork_marks : Fork → List Mark
fork_marks (match r k s a b) = Root r ∷ (Slot s ∷ (Link a ∷ (Link b ∷ [])))
fork_marks (test x y) = Slot x ∷ (Slot y ∷ [])

-- whether the roots for links fit the kind
abbrev pub step_links : Step → Bool
step_links (make d k s a b) = fits_kind k a b
step_links (rebuild r k s a b) = fits_kind k a b
step_links (copy s d) = true
step_links (release r) = true
step_links (put s v) = true
step_links (sum t x y) = true
step_links (difference t x y) = true
step_links (look r s) = true

abbrev pub fork_links : Fork → Bool
fork_links (match r k s a b) = fits_kind k a b
fork_links (test x y) = true

-- what a record does to roots: what the call does that it makes
abbrev pub step_touches : Step → List (Option Touch)
step_touches (make d k s a b) = touches (Make d k (pos 0) a b)
step_touches (copy s d) = touches (Copy s d)
step_touches (release r) = touches (Release r)
step_touches (rebuild r k s a b) = touches (Rebuild r k (pos 0) a b)
step_touches (look r s) = touches (Look r)
step_touches (put s v) = []
step_touches (sum t x y) = []
step_touches (difference t x y) = []

-- a match that says yes; a test touches no root
abbrev pub fork_touches : Fork → List (Option Touch)
fork_touches (match r k s a b) = touches (Match r k a b)
fork_touches (test x y) = []

-- a test that is passed, or else the flaw
abbrev pub unless : Bool → Flaw → Option Flaw
unless true e = None
unless false e = Some e

-- the fields from left to right: roots and slots that there are
abbrev pub mark_flaw : Mark → Option Flaw
mark_flaw (Root r) = unless (nat_lt r 16) (NoSuchRoot r)
mark_flaw (Link r) = unless (nat_lt r 16 || r == 255) (NoSuchRoot r)
mark_flaw (Slot s) = unless (nat_lt s 8) NoSuchSlot

-- and roots that the rule owns
abbrev pub own_flaw : List Bool → Mark → Option Flaw
own_flaw own (Root r) = unless (in_use own r) (NotOwned r)
own_flaw own (Link r) = unless (in_use own r || r == 255) (NotOwned r)
own_flaw own (Slot s) = None

-- a field that names no root, as a flaw of the record
abbrev pub field_flawed : absent.NoSuchRoot → Flaw
field_flawed e = NoSuchRoot e.0

-- a root that is refused, as a flaw of the record
abbrev pub touch_flawed : TouchFault → Flaw
touch_flawed (Empty r) = RootEmpty r
touch_flawed (InUse r) = RootInUse r

-- in the order of spending and filling: in use where it is used, empty where it is filled
abbrev pub touch_flaw : Touch → List Bool → Option Flaw
touch_flaw t used = option_map touch_flawed (touch_denied t used)

abbrev pub touch_flaws : List (Option Touch) → List Bool → List (Option Flaw)
touch_flaws [] used = []
touch_flaws (None ∷ ts) used = touch_flaws ts used
touch_flaws (Some t ∷ ts) used = touch_flaw t used ∷ touch_flaws ts (touched t used)

-- the tests of a record that can be read: fields, links, own, then its way with the roots
abbrev pub record_flaws : List Bool → List Mark → Bool → List (Option Touch) → List Bool → List (Option Flaw)
record_flaws own marks links ts used = map mark_flaw marks ++ (unless links LinksUnfit ∷ (map (own_flaw own) marks ++ touch_flaws ts used))

abbrev pub differs : Option ℕ → (ℕ → Flaw) → Option Flaw
differs None flaw = None
differs (Some r) flaw = Some (flaw r)

-- done: the roots in use are those declared as out
abbrev pub done_flaw : List Bool → List Bool → Option Flaw
done_flaw out used = differs (differing 0 used out) NotAsDeclared

-- a head: in and out are owned
abbrev pub head_flaw : Head → Option Flaw
head_flaw h = differs (differing 0 (either (either (marked h.enter) (marked h.leave)) (marked h.own)) (marked h.own)) NotOwned

-- how many records a tree has
unfoldable pub size : Tree → ℕ
size (step p s k) = suc (size k)
size (fork p f ya na) = suc (size ya + size na)
size (done p) = 1
size (broken p e) = 1

-- n records stand before this one
abbrev pub too_many : ℕ → Option Flaw
too_many n = unless (nat_lt n 1024) TooMany

-- it stands inside d matches and tests
abbrev pub too_deep : ℕ → Option Flaw
too_deep d = unless (nat_lt d 16) TooDeep

-- flaws of the record at place p
abbrev pub at_place : ℕ → Option Flaw → Option Spot
at_place p None = None
at_place p (Some e) = Some (record { place = p; flaw = e })

-- own and out of a rule
pub record Claims : Type 0 where
  pub own : List Bool
  pub out : List Bool

-- the tests of a block, record by record as they stand, the yes arm before the no arm. A path comes in with the roots in use
unfoldable pub tests : Claims → Tree → ℕ → ℕ → List Bool → List (Option Spot)
tests h (step p s k) n d used = map (at_place p) (too_many n ∷ record_flaws h.own (step_marks s) (step_links s) (step_touches s) used) ++ tests h k (n + 1) d (after_touches (step_touches s) used)
tests h (fork p f ya na) n d used = map (at_place p) (too_many n ∷ (too_deep d ∷ record_flaws h.own (fork_marks f) (fork_links f) (fork_touches f) used))
    ++ (tests h ya (n + 1) (d + 1) (after_touches (fork_touches f) used) ++ tests h na (n + 1 + size ya) (d + 1) used)
tests h (done p) n d used = map (at_place p) (too_many n ∷ (done_flaw h.out used ∷ []))
tests h (broken p e) n d used = map (at_place p) (too_many n ∷ (Some e ∷ []))

-- the number of records, or the flaw
abbrev pub verdict : ℕ → Option Spot → Result ℕ Spot
verdict n None = Ok n
verdict n (Some s) = Err s

-- the answer for a block, where n records stand before it
abbrev pub block_answer : Claims → Tree → ℕ → ℕ → List Bool → Result ℕ Spot
block_answer h t n d used = verdict (n + size t) (first (tests h t n d used))

-- a rule whose head is read: its head is tested first, then the block behind it
abbrev pub headed : Head → List ℕ → Result ℕ Spot
headed h rest = verdict (1 + size (tree 10 rest)) (first (at_place 0 (head_flaw h) ∷ tests (record { own = marked h.own; out = marked h.leave }) (tree 10 rest) 1 0 (marked h.enter)))

abbrev pub by_head : Result (Head × List ℕ) Flaw → Result ℕ Spot
by_head (Ok p) = headed p.0 p.1
by_head (Err e) = Err (record { place = 0; flaw = e })

abbrev pub faulted : Result ℕ Spot → Result ℕ RuleFault
faulted (Ok n) = Ok n
faulted (Err s) = Err (Flawed s)

-- the answer for any bytes
unfoldable pub answer : List ℕ → Result ℕ RuleFault
answer xs = cond (nat_lt 4096 (length xs)) (Err TooLong) (faulted (by_head (head_at xs)))
