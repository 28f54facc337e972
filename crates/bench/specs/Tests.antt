-- What a call is tested for before anything is done, and in which order.
use Rattle.std.specs.Prelude.{ℕ, Bool, true, false, cond, not, ◌&&◌, List, [], ◌∷◌, ◌++◌, map, take, replicate, is_some, Some, None, Ok, Err, Option, option_map, Result, ◌==◌, nat_le, nat_lt, slice_index_or, slice_set}
use Rattle.store.specs.Meaning.{arity}
use Rattle.bench.specs.declared.call.Call.{Call}
use Rattle.bench.specs.declared.call.Call.TheVariants.{Make, Copy, Release, Match, Rebuild, Look, Same}
use Rattle.bench.specs.declared.call.Field.{Field}
use Rattle.bench.specs.declared.call.Field.TheVariants.{Root, Link}
use Rattle.bench.specs.declared.call.Touch.{Touch}
use Rattle.bench.specs.declared.call.Touch.TheVariants.{Use, Spend, Fill}
use Rattle.bench.specs.declared.fault.NoSuchRoot as absent
use Rattle.bench.specs.declared.fault.TouchFault.{TouchFault}
use Rattle.bench.specs.declared.fault.TouchFault.TheVariants.{Empty, InUse}
use Rattle.bench.specs.declared.fault.BenchFault.{BenchFault}
use Rattle.bench.specs.declared.fault.BenchFault.TheVariants.{NoSuchRoot, LinksUnfit}
use Rattle.bench.specs.Faults.{touch_told}

-- the root fields, from left to right
abbrev pub fields : Call → List Field
fields (Make d k v a b) = Root d ∷ (Link a ∷ (Link b ∷ []))
fields (Copy s d) = Root s ∷ (Root d ∷ [])
fields (Release r) = Root r ∷ []
fields (Match r k a b) = Root r ∷ (Link a ∷ (Link b ∷ []))
fields (Rebuild r k v a b) = Root r ∷ (Link a ∷ (Link b ∷ []))
fields (Look r) = Root r ∷ []
fields (Same r s) = Root r ∷ (Root s ∷ [])

-- whether a field names a root, or is 255 where it may
abbrev pub names_root : Field → Bool
names_root (Root r) = nat_lt r 16
names_root (Link r) = cond (nat_lt r 16) true (r == 255)

abbrev pub byte_of : Field → ℕ
byte_of (Root r) = r
byte_of (Link r) = r

-- a field that does not
abbrev pub unnamed : Field → Option absent.NoSuchRoot
unnamed f = cond (names_root f) None (Some (record { 0 = byte_of f }))

-- the first field that does not
abbrev pub field_fault : List Field → Option BenchFault
field_fault [] = None
field_fault (f ∷ fs) = cond (names_root f) (field_fault fs) (Some (NoSuchRoot (byte_of f)))

-- a link's root is 255 exactly where the kind lacks the link
abbrev pub fits_kind : ℕ → ℕ → ℕ → Bool
fits_kind k a b = cond (nat_le 1 (arity k)) (not (a == 255)) (a == 255) && cond (nat_le 2 (arity k)) (not (b == 255)) (b == 255)

-- whether the roots for links fit the kind
abbrev pub links_fit : Call → Bool
links_fit (Make d k v a b) = fits_kind k a b
links_fit (Copy s d) = true
links_fit (Release r) = true
links_fit (Match r k a b) = fits_kind k a b
links_fit (Rebuild r k v a b) = fits_kind k a b
links_fit (Look r) = true
links_fit (Same r s) = true

abbrev pub link_fault : Call → Option BenchFault
link_fault call = cond (links_fit call) None (Some LinksUnfit)

-- the root that a link's field names; none where it is 255
abbrev pub link : ℕ → Option ℕ
link a = cond (a == 255) None (Some a)

-- what a link's root undergoes; nothing where it is 255
abbrev pub unless_none : ℕ → Touch → Option Touch
unless_none a t = cond (a == 255) None (Some t)

-- what a call does to roots, in the order of spending and filling
abbrev pub touches : Call → List (Option Touch)
touches (Make d k v a b) = unless_none a (Spend a) ∷ (unless_none b (Spend b) ∷ (Some (Fill d) ∷ []))
touches (Copy s d) = Some (Use s) ∷ (Some (Fill d) ∷ [])
touches (Release r) = Some (Spend r) ∷ []
touches (Match r k a b) = Some (Spend r) ∷ (unless_none a (Fill a) ∷ (unless_none b (Fill b) ∷ []))
touches (Rebuild r k v a b) = Some (Spend r) ∷ (unless_none a (Spend a) ∷ (unless_none b (Spend b) ∷ (Some (Fill r) ∷ [])))
touches (Look r) = Some (Use r) ∷ []
touches (Same r s) = Some (Use r) ∷ (Some (Use s) ∷ [])

-- the first four, filled up with none
abbrev pub quad : {A : Type 0} → List (Option A) → List (Option A)
quad ts = take 4 (ts ++ replicate 4 None)

-- the first that there is
abbrev pub first : {A : Type 0} → List (Option A) → Option A
first [] = None
first (None ∷ xs) = first xs
first (Some e ∷ xs) = Some e

-- which roots are in use
abbrev pub flags : List (Option ℕ) → List Bool
flags slots = map is_some slots

abbrev pub in_use : List Bool → ℕ → Bool
in_use used r = slice_index_or used r false

-- a root must be in use where it is used, and empty where it is filled
abbrev pub touch_denied : Touch → List Bool → Option TouchFault
touch_denied (Use r) used = cond (in_use used r) None (Some (Empty r))
touch_denied (Spend r) used = cond (in_use used r) None (Some (Empty r))
touch_denied (Fill r) used = cond (in_use used r) (Some (InUse r)) None

-- which roots are in use after it
abbrev pub touched : Touch → List Bool → List Bool
touched (Use r) used = used
touched (Spend r) used = slice_set used r false
touched (Fill r) used = slice_set used r true

-- and after several
abbrev pub after_touches : List (Option Touch) → List Bool → List Bool
after_touches [] used = used
after_touches (None ∷ ts) used = after_touches ts used
after_touches (Some t ∷ ts) used = after_touches ts (touched t used)

-- the first of two that is there
abbrev pub first_of : {E : Type 0} → Option E → Option E → Option E
first_of None f = f
first_of (Some e) f = Some e

-- the first touch that is refused; a root spent earlier counts as empty, one filled earlier as in use
abbrev pub first_denied : List (Option Touch) → List Bool → Option TouchFault
first_denied [] used = None
first_denied (None ∷ ts) used = first_denied ts used
first_denied (Some t ∷ ts) used = first_of (touch_denied t used) (first_denied ts (touched t used))

abbrev pub touch_fault : List (Option Touch) → List Bool → Option BenchFault
touch_fault ts used = option_map touch_told (first_denied ts used)

-- the fault of a call, if it has one before the store is asked
abbrev pub fault_of : Call → List Bool → Option BenchFault
fault_of call used = first_of (field_fault (fields call)) (first_of (link_fault call) (touch_fault (touches call) used))

abbrev pub verdict : {E : Type 0} → Option E → Result (Unit {0}) E
verdict None = Ok tt
verdict (Some e) = Err e
