use Rattle.std.proofs.Common.{rules}
use Rattle.std.specs.Prelude.{slice_index}
use Rattle.std.proofs.lemmas.Fn.{always_returns_same}
use Rattle.cov_model.proofs.SortLemmas.{by_falling_weight-sort}
use Rattle.ipog_grow.proofs.order.sort_by_count.Goals as goal

pub returns-clause-sorted : goal.returns-clause-sorted
returns-clause-sorted c =
    let keys = always_returns_same _ _ _ (λ a r next called. search rules) in
    by_falling_weight-sort (λ p. slice_index c.args.counts.now p) _ _
    (c.in_ok-sort_by_key.ensures.sorted (λ p. record { 0 = slice_index c.args.counts.now p }) keys)
    (c.in_ok-sort_by_key.ensures.stable (λ p. record { 0 = slice_index c.args.counts.now p }) keys)
