use Rattle.std.proofs.Common.{◌≡◌, map, subst, sym, arith}
use Rattle.std.proofs.lemmas.Grind.{common_steps}
use Rattle.cov_model.specs.Preference.{OrdersValues}
use Rattle.cov_model.specs.believed.Preference.{preference}
use Rattle.cov_model.proofs.PreferenceLemmas.{OrdersValues-preference}
use Rattle.cov_model.proofs.prefs.Prefs.new.Goals as goal

pub returns-clause-complete : goal.returns-clause-complete
returns-clause-complete c =
    let whole : map (λ order. order.items) c.loop-param.orders.items ≡ preference c.args.model.now c.args.shuffle = grind (arith, common_steps) in
    subst (OrdersValues c.args.model.now) (sym whole) (OrdersValues-preference c.args.model.now c.args.shuffle)
