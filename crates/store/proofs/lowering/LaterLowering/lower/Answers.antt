use Rattle.std.proofs.Common.{arith}
use Rattle.store.specs.Heap.{deferred}
use Rattle.store.specs.View.{heap}
use Rattle.store.specs.Sinks.{sink_here}
use Rattle.store.proofs.lowering.LaterLowering.lower.Goals as goal

pub sink-table-requires : goal.sink-table-requires
sink-table-requires c =
    let h = heap c.args.table.now in
    record { inside = sink_here h c.args.c h.free c.requires.okay.sound c.requires.held; counted = omega (arith, c.requires.okay.sound.counted c.args.c, c.requires.held) }

pub returns : goal.returns
unfolding deferred
returns c = λ i. record { cells = (c.sink-table.ensures.table i).cells; free = c.sink-table.ensures.front i }
