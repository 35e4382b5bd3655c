use Rattle.std.proofs.Common.{map, rules}
use Rattle.std.proofs.lemmas.Fn.{always_returns_same}
use Rattle.cov_model.proofs.SortLemmas.{by_falling_weight-sort}
use Rattle.suspect_tuples.specs.Told.{found_seen}
use Rattle.jeldroft_suspect.specs.believed.SuspectsText.{found_at}
use Rattle.jeldroft_suspect.proofs.text.sort_by_count.Goals as goal

pub returns-clause-sorted : goal.returns-clause-sorted
returns-clause-sorted c =
    let keys = always_returns_same _ _ _ (λ a r next called. search rules) in
    by_falling_weight-sort (λ at. (found_at (map found_seen c.args.list.now) at).1) _ _ (c.in_ok-sort_by_key.ensures.sorted (λ at. record { 0 = (found_at (map found_seen c.args.list.now) at).1 }) keys)
    (c.in_ok-sort_by_key.ensures.stable (λ at. record { 0 = (found_at (map found_seen c.args.list.now) at).1 }) keys)
