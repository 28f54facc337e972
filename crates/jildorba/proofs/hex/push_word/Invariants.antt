use Rattle.std.proofs.Common.{◌≡◌, ◌++◌, length, vec_items}
use Rattle.jildorba.specs.Pairs.{Hex, bytes}
use Rattle.jildorba.proofs.hex.push_word.Given as goal

-- the bytes read and those that are left make up the word behind the bytes before it
abbrev pub invariant-each : goal.invariant-each
invariant-each l = (vec_items l.bytes ++ bytes l.rest ≡ vec_items l.initial.bytes ++ bytes l.word) × ((Hex l.rest → Hex l.word) × (Hex l.word → Hex l.rest))

abbrev pub decreases-each : goal.decreases-each
decreases-each l = length l.rest
