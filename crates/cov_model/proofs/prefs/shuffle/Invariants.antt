use Rattle.std.proofs.Common.{◌≡◌, ◌-◌}
use Rattle.cov_model.specs.believed.Preference.{shuffled, shuffled_to}
use Rattle.cov_model.proofs.prefs.shuffle.Given as goal

abbrev pub invariant-loop-i : goal.invariant-loop-i
invariant-loop-i l = shuffled_to (l.i - 1) l.order l.generator ≡ shuffled l.initial.order l.initial.generator
