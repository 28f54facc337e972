use Rattle.std.proofs.Common.{◌≡◌, Some, set, ◌∙◌}
use Rattle.bench.specs.Handing.{put}
use Rattle.bench.proofs.Facts.{few_of, held_of}
use Rattle.bench.proofs.Taking.{restored}
use Rattle.bench.proofs.Sending.{copy_sent}
use Rattle.bench.proofs.bench.Bench.copy_root.Goals as goal

pub copy-copy-requires-clause-few : goal.copy-copy-requires-clause-few
copy-copy-requires-clause-few g c = few_of c.requires.stood

pub copy-copy-requires-clause-held : goal.copy-copy-requires-clause-held
copy-copy-requires-clause-held g c = held_of c.args.s c.requires.stood c.take-hold.ensures.given

pub returns : goal.returns
returns g c =
    let slots = c.args.self.now.roots.slots in
    let back : c.fill.new.roots.slots ≡ slots = c.fill.ensures ∙ (λ i. put (c.take-hold.ensures.emptied i) c.args.s (c.take-hold.ensures.given i)) ∙ restored slots c.args.s in
    copy_sent g.S.Store c.args.self.now _ c.args.s c.args.d c.take-hold.result.cell c.requires c.take-hold.ensures.given (c.fill-2.ensures ∙ (λ i. set (back i) c.args.d (Some (c.copy-copy.ensures.same i)))) c.copy-copy.ensures.ok c.copy-copy.ensures.told c.copy-copy.ensures.did
