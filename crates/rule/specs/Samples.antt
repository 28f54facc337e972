-- Rules worked by hand, and what the check answers.
use Rattle.std.specs.Prelude.{◌≡◌, ℕ, zero, suc, List, [], ◌∷◌, ◌++◌, replicate, pos, Ok, Err}
use Rattle.rule.specs.declared.fault.Flaw.{Flaw}
use Rattle.rule.specs.declared.fault.Flaw.TheVariants.{Cut, Kind, Length, Trailing, TooDeep, NoSuchRoot, NoSuchSlot, LinksUnfit, NotOwned, RootEmpty, RootInUse, NotAsDeclared}
use Rattle.rule.specs.declared.fault.RuleFault.TheVariants.{TooLong, Flawed}
use Rattle.rule.specs.Sheet.{Step, make, copy, release, put, sum, match, test, Block, step, fork, done, opened, two, rule_bytes}
use Rattle.rule.specs.Check.{answer}

abbrev pub Passes : ℕ → List ℕ → Type 0
Passes n xs = answer xs ≡ Ok n

-- the flaw and its place
abbrev pub Refused : Flaw → ℕ → List ℕ → Type 0
Refused e p xs = answer xs ≡ Err (Flawed (record { place = p; flaw = e }))

-- in, out and own, then a block
abbrev pub rule : ℕ → ℕ → ℕ → Block → List ℕ
rule enter leave own b = rule_bytes (record { enter = enter; leave = leave; own = own }) b

-- the head, then any bytes
abbrev pub behind : ℕ → ℕ → ℕ → List ℕ → List ℕ
behind enter leave own xs = opened 1 (two enter ++ two leave ++ two own) ++ xs

-- so many of a step
abbrev pub often : ℕ → Step → Block → Block
often zero s b = b
often (suc n) s b = step s (often n s b)

-- so many tests, each in the yes arm of the one before
abbrev pub nested : ℕ → Block
nested zero = done
nested (suc n) = fork (test 0 0) (nested n) done

pub record Worked : Type 0 where
  -- a head and done, byte by byte
  pub least : Passes 2 (10 ∷ 0 ∷ 1 ∷ 0 ∷ 0 ∷ 0 ∷ 0 ∷ 0 ∷ 3 ∷ 0 ∷ 4 ∷ 0 ∷ 12 ∷ 0 ∷ [])
  pub not_filled : Refused (NotAsDeclared 0) 10 (10 ∷ 0 ∷ 1 ∷ 0 ∷ 0 ∷ 0 ∷ 1 ∷ 0 ∷ 3 ∷ 0 ∷ 4 ∷ 0 ∷ 12 ∷ 0 ∷ [])
  -- the yes arm leaves root 0 in use; then it does not
  pub yes_arm_differs : Refused (NotAsDeclared 0) 27 (rule 1 0 1 (step (put 0 (pos 0)) (fork (test 0 0) done (step (release 0) done))))
  pub arms_agree : Passes 7 (rule 1 0 1 (step (put 0 (pos 0)) (fork (test 0 0) (step (release 0) done) (step (release 0) done))))
  -- a match fills roots for its yes arm alone, so both arms end with root 0 in use
  pub links_swapped : Passes 5 (rule 1 1 7 (fork (match 0 128 0 1 2) (step (make 0 128 0 2 1) done) done))
  pub too_long : answer (replicate 4097 0) ≡ Err TooLong
  pub longest : Passes 456 (rule 0 0 0 (often 452 (put 0 (pos 0)) (often 2 (sum 0 0 0) done)))
  pub nothing : Refused Cut 0 []
  pub length_under_four : Refused Cut 10 (behind 0 0 0 (3 ∷ 0 ∷ 12 ∷ 0 ∷ []))
  pub length_above_left : Refused Cut 10 (behind 0 0 0 (5 ∷ 0 ∷ 12 ∷ 0 ∷ []))
  pub never_closed : Refused Cut 19 (behind 0 0 0 (opened 6 (0 ∷ 0 ∷ 0 ∷ 0 ∷ 0 ∷ [])))
  pub no_head : Refused Kind 0 (opened 12 [])
  pub second_head : Refused Kind 10 (behind 0 0 0 (rule 0 0 0 done))
  pub kind_thirteen : Refused Kind 10 (behind 0 0 0 (opened 13 []))
  pub release_of_two : Refused Length 10 (behind 0 0 3 (opened 4 (0 ∷ 1 ∷ [])))
  pub yes_arm_of_three : Refused Length 10 (behind 0 0 0 (opened 11 (0 ∷ 0 ∷ two 3 ++ 0 ∷ 0 ∷ 0 ∷ opened 12 [])))
  pub no_arm_of_none : Refused Length 10 (behind 0 0 0 (opened 11 (0 ∷ 0 ∷ two 4 ++ opened 12 [])))
  pub after_done : Refused Trailing 10 (behind 0 0 0 (opened 12 [] ++ 0 ∷ []))
  pub deepest : Passes 34 (rule 0 0 0 (nested 16))
  pub too_deep : Refused TooDeep 138 (rule 0 0 0 (nested 17))
  pub first_field_first : Refused (NoSuchRoot 16) 10 (rule 0 0 0 (step (copy 16 17) done))
  pub slot_eight : Refused NoSuchSlot 10 (rule 0 0 0 (step (put 8 (pos 0)) done))
  pub link_missing : Refused LinksUnfit 10 (rule 0 1 1 (step (make 0 64 0 255 255) done))
  pub first_not_owned : Refused (NotOwned 3) 10 (rule 0 0 1 (step (copy 3 2) done))
  pub lowest_not_owned : Refused (NotOwned 1) 0 (rule 4 2 1 done)
  pub spent_twice : Refused (RootEmpty 1) 10 (rule 2 1 3 (step (make 0 128 0 1 1) done))
  pub copied_onto_itself : Refused (RootInUse 0) 10 (rule 1 1 1 (step (copy 0 0) done))
  -- records are tested as they stand: the first one's last test comes before the second one's first
  pub record_by_record : Refused (RootEmpty 0) 10 (behind 0 0 1 (opened 4 (0 ∷ []) ++ 3 ∷ 0 ∷ []))
