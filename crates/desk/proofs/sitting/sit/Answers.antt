use Rattle.std.proofs.Common.{◌≡◌, Result, subst}
use Rattle.bench.specs.declared.fault.NoPlace.{NoPlace}
use Rattle.bench.specs.Lists.{Placed, Shown}
use Rattle.bench.proofs.Serving.{placed, shown}
use Rattle.desk.specs.Ours.{deferring, eager, DeferringLaw, EagerLaw, Lawful}
use Rattle.desk.proofs.Ours.{sat}
use Rattle.desk.proofs.sitting.sit.Goals as goal

-- where the list was answered, what holds then
done : (A B : Type 0) {r q : Result (Unit {0}) NoPlace} → r ≡ q → Placed A B r → Placed A B q
done A B e p = subst (Placed A B) e p

pub returns : goal.returns
returns g c =
    let calls = c.args.calls.now in
    let b = c.args.one.now in
    let d = c.args.two.now in
    let a = c.args.any.now in
    record {
      ok = c.send_all-3.ensures.ok;
      stood = c.send_all-3.ensures.stood;
      whole = record {
        on_deferring = sat deferring (Lawful deferring DeferringLaw) calls _ b.bench c.send_all.new.self.bench b.out (done _ _ c.in_ok-send_all.was c.send_all.ensures.served);
        on_eager = sat eager (Lawful eager EagerLaw) calls _ d.bench c.send_all-2.new.self.bench d.out (done _ _ c.in_ok-send_all-2.was c.send_all-2.ensures.served);
        on_any = sat g.S.Store (Shown g.S.Store) calls _ a c.send_all-3.new.self c.requires.stood.stands.1.out (done _ _ c.in_ok-send_all-3.was (placed _ _ _ (λ f t s h. shown (f t s h)) c.send_all-3.result c.send_all-3.ensures.served));
      };
    }
