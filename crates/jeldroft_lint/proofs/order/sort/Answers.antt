use Rattle.std.proofs.Common.{rules}
use Rattle.std.proofs.lemmas.Fn.{always_returns_same}
use Rattle.jeldroft_lint.specs.believed.Remarks.{place_of}
use Rattle.jeldroft_lint.proofs.order.sort.Goals as goal

pub returns : goal.returns
returns c =
    let keys = always_returns_same _ _ _ (λ a r next called. search rules) in
    record {
      each = c.in_ok-sort_by_key.ensures.permutation;
      rising = c.in_ok-sort_by_key.ensures.sorted place_of keys;
      stable = c.in_ok-sort_by_key.ensures.stable place_of keys;
    }
