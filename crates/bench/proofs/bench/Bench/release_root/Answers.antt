use Rattle.bench.proofs.Facts.{few_of, held_of}
use Rattle.bench.proofs.Sending.{release_sent}
use Rattle.bench.proofs.bench.Bench.release_root.Goals as goal

pub release-requires-clause-few : goal.release-requires-clause-few
release-requires-clause-few g c = few_of c.requires.stood

pub release-requires-clause-held : goal.release-requires-clause-held
release-requires-clause-held g c = held_of c.args.r c.requires.stood c.take-hold.ensures.given

pub returns : goal.returns
returns g c = release_sent g.S.Store c.args.self.now _ c.args.r c.take-hold.result.cell c.requires c.take-hold.ensures.given c.take-hold.ensures.emptied c.release.ensures.ok c.release.ensures.told c.release.ensures.did
