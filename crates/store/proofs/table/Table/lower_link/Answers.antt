use Rattle.std.proofs.Common.{ℕ, Option, sym, ap, ◌∙◌}
use Rattle.store.specs.Numbers.{opt}
use Rattle.store.specs.Heap.{lowered_all}
use Rattle.store.specs.View.{heap}
use Rattle.store.proofs.table.Table.lower_link.Goals as goal

pub returns-in-Some : goal.returns-in-Some
unfolding lowered_all
returns-in-Some g c = c.lower.ensures ∙ sym (ap (λ (o : Option ℕ). lowered_all g.L.Lowering.lowered (heap c.args.self.now) (opt o)) c.in-Some.is)

pub returns-in_default : goal.returns-in_default
unfolding lowered_all
returns-in_default g c = sym (ap (λ (o : Option ℕ). lowered_all g.L.Lowering.lowered (heap c.args.self.now) (opt o)) c.in_default.is)
