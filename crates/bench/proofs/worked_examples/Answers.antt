use Rattle.std.proofs.Common.{refl}
use Rattle.bench.specs.Lists.{replies}
use Rattle.bench.proofs.worked_examples.Goals as goal

pub returns : goal.returns
unfolding replies
returns c = record {
  first_field_first = refl;
  copied_onto_itself = refl;
  spent_twice = refl;
  link_missing = refl;
  matched_into_itself = refl;
  same_cell = refl;
  full = refl;
  rebuilt_after_release = refl;
}
