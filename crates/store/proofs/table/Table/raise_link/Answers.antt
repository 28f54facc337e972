use Rattle.std.proofs.Common.{ℕ, Option, sym, ap, ◌∙◌, arith}
use Rattle.store.specs.Numbers.{times, In, opt}
use Rattle.store.specs.Heap.{raised_all}
use Rattle.store.specs.View.{heap}
use Rattle.store.specs.NumbersLemmas.{hit_self}
use Rattle.store.proofs.table.Table.raise_link.Goals as goal

pub raise-requires : goal.raise-requires
raise-requires c =
    let i = c.in-Some.c in
    let there : In i (opt c.args.link) = omega (arith, ap (λ (o : Option ℕ). times i (opt o)) c.in-Some.is, hit_self i) in
    record { inside = c.requires.inside i there; fits = c.requires.fits i there }

pub returns-in-Some : goal.returns-in-Some
unfolding raised_all
returns-in-Some c = c.raise.ensures ∙ sym (ap (λ (o : Option ℕ). raised_all (heap c.args.self.now) (opt o)) c.in-Some.is)

pub returns-in_default : goal.returns-in_default
unfolding raised_all
returns-in_default c = sym (ap (λ (o : Option ℕ). raised_all (heap c.args.self.now) (opt o)) c.in_default.is)
