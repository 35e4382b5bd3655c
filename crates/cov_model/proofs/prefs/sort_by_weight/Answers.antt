use Rattle.std.proofs.Common.{rules}
use Rattle.std.proofs.lemmas.Fn.{always_returns_same}
use Rattle.cov_model.specs.believed.Preference.{weight_in}
use Rattle.cov_model.proofs.SortLemmas.{by_falling_weight-sort}
use Rattle.cov_model.proofs.prefs.sort_by_weight.Goals as goal

pub returns : goal.returns
returns c =
    let keys = always_returns_same _ _ _ (λ a r next called. search rules) in
    by_falling_weight-sort (weight_in c.args.values.now) _ _ (c.in_ok-sort_by_key.ensures.sorted (λ v. record { 0 = weight_in c.args.values.now v }) keys)
    (c.in_ok-sort_by_key.ensures.stable (λ v. record { 0 = weight_in c.args.values.now v }) keys)
