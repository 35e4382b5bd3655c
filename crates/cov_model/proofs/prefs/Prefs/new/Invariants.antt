use Rattle.std.proofs.Common.{◌≡◌, ◌++◌, drop, map}
use Rattle.cov_model.specs.believed.Preference.{preference, preferences}
use Rattle.cov_model.proofs.prefs.Prefs.new.Given as goal

-- the orders so far, and those of the parameters that are left
abbrev pub invariant-loop-param : goal.invariant-loop-param
invariant-loop-param l =
    preference l.model l.fn.shuffle ≡ map (λ order. order.items) l.orders.items ++ preferences (drop l.param-index l.model.params) l.generator
