-- One record, as the code judges it: its fields, links and touches, whichever record it is.
use Rattle.std.specs.Prelude.{Bool, true, List, [], ℤ, Some, None, Option}
use Rattle.bench.specs.declared.call.Call.{Call}
use Rattle.bench.specs.declared.call.Call.TheVariants.{Make, Copy, Release, Match, Rebuild, Look}
use Rattle.bench.specs.declared.call.Touch.{Touch}
use Rattle.rule.specs.declared.mark.Mark.{Mark}
use Rattle.rule.specs.declared.fault.Flaw.{Flaw}
use Rattle.rule.specs.Sheet.{Step, make, copy, release, rebuild, put, sum, difference, look, Fork, match, test}
use Rattle.rule.specs.Read.{Rec, plain, branch, last}
use Rattle.rule.specs.Check.{step_marks, fork_marks, step_links, fork_links, step_touches, fork_touches, record_flaws}

abbrev pub rec_marks : Rec → List Mark
rec_marks (plain s) = step_marks s
rec_marks (branch f ya na) = fork_marks f
rec_marks last = []

abbrev pub rec_links : Rec → Bool
rec_links (plain s) = step_links s
rec_links (branch f ya na) = fork_links f
rec_links last = true

abbrev pub rec_touches : Rec → List (Option Touch)
rec_touches (plain s) = step_touches s
rec_touches (branch f ya na) = fork_touches f
rec_touches last = []

-- the call that a record makes, if it makes one; a new cell takes the value
abbrev pub step_call : Step → ℤ → Option Call
step_call (make d k s a b) v = Some (Make d k v a b)
step_call (copy s d) v = Some (Copy s d)
step_call (release r) v = Some (Release r)
step_call (rebuild r k s a b) v = Some (Rebuild r k v a b)
step_call (look r s) v = Some (Look r)
step_call (put s w) v = None
step_call (sum t x y) v = None
step_call (difference t x y) v = None

abbrev pub fork_call : Fork → Option Call
fork_call (match r k s a b) = Some (Match r k a b)
fork_call (test x y) = None

abbrev pub rec_call : Rec → ℤ → Option Call
rec_call (plain s) v = step_call s v
rec_call (branch f ya na) v = fork_call f
rec_call last v = None

abbrev pub rec_flaws : List Bool → Rec → List Bool → List (Option Flaw)
rec_flaws own r used = record_flaws own (rec_marks r) (rec_links r) (rec_touches r) used
