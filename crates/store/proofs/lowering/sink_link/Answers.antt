use Rattle.std.proofs.Common.{ℕ, ◌<◌, Option, sym, ap, ◌∙◌, arith}
use Rattle.store.specs.Numbers.{times, opt}
use Rattle.store.specs.Cells.{holds}
use Rattle.store.specs.Heap.{sunk_all, front_all}
use Rattle.store.specs.View.{heap}
use Rattle.store.specs.NumbersLemmas.{hit_self}
use Rattle.store.specs.Sinks.{sink_here}
use Rattle.store.proofs.lowering.sink_link.Goals as goal

pub sink-requires : goal.sink-requires
sink-requires c =
    let h = heap c.args.table.now in
    let i = c.in-Some.c in
    let out : 0 < holds h.cells i = omega (arith, c.requires.held i, ap (λ (o : Option ℕ). times i (opt o)) c.in-Some.is, hit_self i) in
    record { inside = sink_here h i c.args.pile c.requires.piling.sound out; counted = omega (arith, c.requires.piling.sound.counted i) }

pub returns-in-Some : goal.returns-in-Some
unfolding sunk_all front_all
returns-in-Some c =
    let h = heap c.args.table.now in
    record {
      table = c.sink.ensures.table ∙ sym (ap (λ (o : Option ℕ). sunk_all h c.args.pile (opt o)) c.in-Some.is);
      pile = c.sink.ensures.front ∙ sym (ap (λ (o : Option ℕ). front_all h c.args.pile (opt o)) c.in-Some.is);
    }

pub returns-in-None : goal.returns-in-None
unfolding sunk_all front_all
returns-in-None c =
    let h = heap c.args.table.now in
    record {
      table = sym (ap (λ (o : Option ℕ). sunk_all h c.args.pile (opt o)) c.in-None.is);
      pile = sym (ap (λ (o : Option ℕ). front_all h c.args.pile (opt o)) c.in-None.is);
    }
