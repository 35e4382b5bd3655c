use Rattle.std.proofs.Common.{◌≡◌, ◌-◌, length}
use Rattle.std.specs.List.{list_any, range_with_len}
use Rattle.model_lint.specs.Seeking.{in_negative, in_some_negative}
use Rattle.model_lint.proofs.seeking.Seeker.seek_negatives.Given as goal

-- the answer is that of the parameters from here on
abbrev pub invariant-loop-p : goal.invariant-loop-p
invariant-loop-p g l =
    (l.count ≡ length l.self.model.now.params) × (length l.into ≡ length l.self.model.now.params)
    × (in_some_negative l.self.model.now l.cells ≡ list_any (in_negative l.self.model.now l.cells) (range_with_len l.p (l.count - l.p)))
