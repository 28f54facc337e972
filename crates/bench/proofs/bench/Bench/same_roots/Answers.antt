use Rattle.bench.proofs.Sending.{same_sent}
use Rattle.bench.proofs.bench.Bench.same_roots.Goals as goal

pub returns : goal.returns
returns g c = same_sent g.S.Store c.args.self.now c.args.r c.args.s c.cell.result c.cell-2.result c.requires c.cell.ensures c.cell-2.ensures
