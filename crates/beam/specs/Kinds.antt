-- The kinds of the cells that follow a beam, and what is written of its moves.
use Rattle.std.specs.Prelude.{ℕ, ℤ, pos}
use Rattle.beam.specs.declared.beam.Axis.{Axis}
use Rattle.beam.specs.declared.beam.Axis.TheVariants.{Trolley, Slew, Hoist}
use Rattle.beam.specs.declared.log.Stage.{Stage}
use Rattle.beam.specs.declared.log.Stage.TheVariants.{TrolleyMoved, Slewed, Hoisted}

-- of the pose that an axis leaves
abbrev pub pose_kind : Axis → ℕ
pose_kind Trolley = 66
pose_kind Slew = 67
pose_kind Hoist = 68

-- the value of the state after an axis has moved
abbrev pub step_of : Axis → ℤ
step_of Trolley = pos 1
step_of Slew = pos 2
step_of Hoist = pos 3

-- the stage of a beam once the axis has moved
abbrev pub stage_of : Axis → Stage
stage_of Trolley = TrolleyMoved
stage_of Slew = Slewed
stage_of Hoist = Hoisted
