use Rattle.std.proofs.Common.{◌∙◌, to_z-of_z, w32}
use Rattle.store.specs.Meaning.{by_hold}
use Rattle.bench.proofs.Facts.{held_of}
use Rattle.bench.proofs.Sending.{look_sent}
use Rattle.bench.proofs.bench.Bench.look_root.Goals as goal

pub kind-requires-clause-reached : goal.kind-requires-clause-reached
kind-requires-clause-reached g c = by_hold (held_of c.args.r c.requires.stood c.cell-c.ensures)

pub value-requires-clause-reached : goal.value-requires-clause-reached
value-requires-clause-reached g c = by_hold (held_of c.args.r c.requires.stood c.cell-c.ensures)

pub returns : goal.returns
returns g c = look_sent g.S.Store c.args.self.now c.args.r c.cell-c.result _ _ c.requires c.cell-c.ensures c.kind.ensures (to_z-of_z {w = w32} (record { sfits = c.value.type_inv }) ∙ c.value.ensures)
