use Rattle.std.proofs.Common.{◌≡◌, ℕ, ◌<◌, [], false, get_or, length}
use Rattle.std.specs.Prelude.{◌==◌}
use Rattle.command_line.specs.believed.Words.{texts}
use Rattle.command_line.proofs.words.missing_name.Given as goal

abbrev pub invariant-loop-place : goal.invariant-loop-place
invariant-loop-place l = (k : ℕ) → k < l.place → (length (get_or (texts l.words) k []) == 0) ≡ false
