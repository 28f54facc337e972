use Rattle.std.proofs.Common.{ℕ, List, Option, sym, refl, subst}
use Rattle.bench.specs.Machine.{start}
use Rattle.bench.specs.Standing.{Stands}
use Rattle.bench.specs.Bench.{Stood}
use Rattle.bench.proofs.Moves.{start_stands}
use Rattle.bench.proofs.bench.Bench.over.Goals as goal

pub returns : goal.returns
returns g c =
    let m = g.S.Store.means c.args.store in
    record {
      store = refl;
      empty = c.new.ensures;
      start = subst (λ (l : List (Option ℕ)). Stands start l m) (sym c.new.ensures) (start_stands m c.requires.none);
      stood = subst (λ (l : List (Option ℕ)). Stood l m) (sym c.new.ensures) (record { sized = refl; machine = start; stands = start_stands m c.requires.none; shaped = λ i. refl });
    }
