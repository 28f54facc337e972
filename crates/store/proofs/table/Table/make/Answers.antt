use Rattle.std.proofs.Common.{ℕ, Option, sym, ap}
use Rattle.store.specs.declared.fault.StoreFault.TheVariants.{NoCell}
use Rattle.store.specs.Heap.{made_in}
use Rattle.store.specs.Interface.{asked_for}
use Rattle.store.specs.View.{heap}
use Rattle.store.proofs.table.Table.make.Goals as goal

pub returns-in-None : goal.returns-in-None
unfolding made_in
returns-in-None g c = record {
  table = sym (ap (λ (o : Option ℕ). made_in g.L.Lowering.lowered (heap c.args.self.now) (asked_for c.args.content.kind c.args.content.value c.args.content.links) o) c.in-None.is);
  answer = (c.in-None.is, λ i. record { links = c.into_links.ensures i; fault = NoCell });
}
