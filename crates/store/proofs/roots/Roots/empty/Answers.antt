use Rattle.std.proofs.Common.{None, sym, arith}
use Rattle.std.proofs.lemmas.List.{get_or_past, set_past}
use Rattle.store.proofs.roots.Roots.empty.Goals as goal

pub returns-then-i-ge16 : goal.returns-then-i-ge16
returns-then-i-ge16 c =
    let slots = c.args.self.now.slots in
    record {
      given = sym (get_or_past slots c.args.r None (omega (arith, c.args.self.now.sized, c.if-i-ge16.true)));
      emptied = sym (set_past slots c.args.r None (omega (arith, c.args.self.now.sized, c.if-i-ge16.true)));
    }
