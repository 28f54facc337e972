use Rattle.std.proofs.Common.{◌≡◌, ◌+◌, ◌*◌, ◌≤◌, length}
use Rattle.rule.specs.Read.{tree}
use Rattle.rule.specs.Check.{block_answer}
use Rattle.rule.specs.Claimed.{claims_of}
use Rattle.rule.proofs.check.+check_block_check_fork.Given as goal

abbrev pub decreases-check_fork : goal.decreases-check_fork
decreases-check_fork l = 2 * (length l.arms.yes.now + length l.arms.no.now) + 1

abbrev pub decreases-check_block : goal.decreases-check_block
decreases-check_block l = 2 * length l.bytes.now

-- the answer for what is left is the answer for the whole
abbrev pub invariant-check_block-records : goal.invariant-check_block-records
invariant-check_block-records l =
    (block_answer (claims_of l.claims) (tree l.path.place l.rest) l.path.seen l.path.depth l.path.used ≡ block_answer (claims_of l.claims) (tree l.initial.path.place l.bytes) l.initial.path.seen l.initial.path.depth l.initial.path.used)
    × (l.path.seen ≤ 1024)
    × (l.path.depth ≤ 16)
    × (l.path.place + length l.rest ≡ l.initial.path.place + length l.bytes)
    × (length l.rest ≤ length l.bytes)

abbrev pub decreases-check_block-records : goal.decreases-check_block-records
decreases-check_block-records l = length l.rest
