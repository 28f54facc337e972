use Rattle.bench.proofs.Taking.{links_taken}
use Rattle.bench.proofs.holds.take_content.Goals as goal

pub returns-clause-taken : goal.returns-clause-taken
returns-clause-taken c =
    links_taken c.args.roots.now.slots c.take_link-first.new.roots.slots c.take_link-second.new.roots.slots c.args.kind c.args.a c.args.b c.requires _ c.take_link-first.ensures.emptied c.take_link-second.ensures.emptied c.take_link-first.ensures.given c.take_link-second.ensures.given
