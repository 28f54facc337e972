use Rattle.std.proofs.Common.{false, map, get_or, is_some, None, ◌∙◌, arith, rules}
use borrow.Author.Tests.{tests}
use Rattle.std.proofs.lemmas.List.{length-map, get_or-map}
use Rattle.store.proofs.Arrays.{made}
use Rattle.store.proofs.roots.Roots.in_use.Goals as goal

pub returns : goal.returns
returns c =
    let slots = c.args.self.now.slots in
    made _ _ (λ k. is_some (get_or slots k None)) (λ i y q k. search (rules, tests)) c.from_fn.result 16 c.from_fn.ensures.items (map is_some slots) (length-map slots is_some ∙ c.args.self.now.sized) (λ k d l. get_or-map is_some slots k None d (omega (arith, l, c.args.self.now.sized)))
