use Rattle.std.proofs.Common.{refl}
use Rattle.rule.specs.Sheet.{written}
use Rattle.rule.specs.Read.{tree}
use Rattle.rule.specs.Check.{size, tests, answer}
use Rattle.rule.proofs.worked_rules.Goals as goal

pub returns : goal.returns
unfolding written tree size tests answer
returns c = record {
  least = refl;
  not_filled = refl;
  yes_arm_differs = refl;
  arms_agree = refl;
  links_swapped = refl;
  too_long = refl;
  longest = refl;
  nothing = refl;
  length_under_four = refl;
  length_above_left = refl;
  never_closed = refl;
  no_head = refl;
  second_head = refl;
  kind_thirteen = refl;
  release_of_two = refl;
  yes_arm_of_three = refl;
  no_arm_of_none = refl;
  after_done = refl;
  deepest = refl;
  too_deep = refl;
  first_field_first = refl;
  slot_eight = refl;
  link_missing = refl;
  first_not_owned = refl;
  lowest_not_owned = refl;
  spent_twice = refl;
  copied_onto_itself = refl;
  record_by_record = refl;
}
