use Rattle.std.proofs.Common.{◌≡◌, ◌-◌, length}
use Rattle.std.specs.List.{list_any, range_with_len}
use Rattle.cov_model.specs.believed.Sound.{param_at}
use Rattle.model_lint.specs.Seeking.{in_negative, in_slice_of}
use Rattle.model_lint.proofs.seeking.Seeker.seek_negative.Given as goal

-- the answer is that of the values from here on
abbrev pub invariant-loop-v : goal.invariant-loop-v
invariant-loop-v g l =
    (l.count ≡ length (param_at l.self.model.now.params l.p).values) × (length l.into ≡ length l.self.model.now.params)
    × (in_negative l.self.model.now l.cells l.p ≡ list_any (in_slice_of l.self.model.now l.cells l.p) (range_with_len l.v (l.count - l.v)))
