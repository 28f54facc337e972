-- What the code reads, as the sheet has it.
use Rattle.std.specs.Prelude.{ℕ, List, Ok, Err, Result}
use Rattle.std.specs.Borrow.{Bor}
use Rattle.rule.specs.declared.fault.Flaw.{Flaw}
use Rattle.rule.specs.declared.record.Head.{Head}
use Rattle.rule.specs.declared.record.Front.{Front}
use Rattle.rule.specs.declared.record.Record.{Record}
use Rattle.rule.specs.declared.record.Record.TheVariants.{Make, Copy, Release, Rebuild, Set, Sum, Difference, Look, Match, Test, Done}
use Rattle.rule.specs.Sheet as sheet
use Rattle.rule.specs.Sheet.{make, copy, release, rebuild, put, sum, difference, look, match, test}
use Rattle.rule.specs.Read as read
use Rattle.rule.specs.Read.{Rec, plain, branch, last}

abbrev pub shown : Record → Rec
shown (Make d k s a b) = plain (make d k s a b)
shown (Copy s d) = plain (copy s d)
shown (Release r) = plain (release r)
shown (Rebuild r k s a b) = plain (rebuild r k s a b)
shown (Set s v) = plain (put s v)
shown (Sum t x y) = plain (sum t x y)
shown (Difference t x y) = plain (difference t x y)
shown (Look r s) = plain (look r s)
shown (Match r k s a b ya na) = branch (match r k s a b) ya.now na.now
shown (Test x y ya na) = branch (test x y) ya.now na.now
shown Done = last

abbrev pub shown_arms : Result (Bor (List ℕ) × Bor (List ℕ)) Flaw → Result (List ℕ × List ℕ) Flaw
shown_arms (Ok p) = Ok (p.0.now, p.1.now)
shown_arms (Err e) = Err e

abbrev pub shown_fields : Result Record Flaw → Result Rec Flaw
shown_fields (Ok r) = Ok (shown r)
shown_fields (Err e) = Err e

abbrev pub shown_front : Result Front Flaw → Result read.Front Flaw
shown_front (Ok f) = Ok (record { kind = f.kind; body = f.body.now; rest = f.rest.now })
shown_front (Err e) = Err e

abbrev pub shown_record_at : Result (Record × Bor (List ℕ)) Flaw → Result (Rec × List ℕ) Flaw
shown_record_at (Ok p) = Ok (shown p.0, p.1.now)
shown_record_at (Err e) = Err e

abbrev pub head_of : Head → sheet.Head
head_of h = record { enter = h.enter; leave = h.leave; own = h.own }

abbrev pub shown_head : Result Head Flaw → Result sheet.Head Flaw
shown_head (Ok h) = Ok (head_of h)
shown_head (Err e) = Err e

abbrev pub shown_head_at : Result (Head × Bor (List ℕ)) Flaw → Result (sheet.Head × List ℕ) Flaw
shown_head_at (Ok p) = Ok (head_of p.0, p.1.now)
shown_head_at (Err e) = Err e
