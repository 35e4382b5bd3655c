-- How `lint` ends.
use Rattle.std.proofs.Common.{◌≡◌, ◌⊎◌, ℕ, ◌≤◌, List, Option, inl, inr, arith}
use Rattle.outside_io.specs.believed.Seen.{SinkSeen}
use Rattle.jeldroft_args.specs.declared.lint.Lint.{Lint}
use Rattle.jeldroft_files.specs.believed.Failures.{status_of}
use Rattle.jeldroft_files.specs.believed.Models.{StopsModel}
use Rattle.jeldroft_files.specs.declared.failure.Cause.{Cause}
use Rattle.jeldroft_files.proofs.Statuses.{cause_known}
use Rattle.jeldroft_lint.specs.believed.Linting.{LintsAs, Prints, lint_opts}

not_below : (status : ℕ) → (status ≡ 2) ⊎ (status ≡ 3) → 2 ≤ status
not_below status (inl two) = omega (arith, two)
not_below status (inr three) = omega (arith, three)

-- so where the reading stops neither 0 nor 1 is the status
pub stopped : (args : Lint) (held : Option (List ℕ)) (cause : Cause) → StopsModel (lint_opts args) held cause → LintsAs args held (status_of cause)
stopped args held cause stops = let least = not_below (status_of cause) (cause_known cause) in record {
  clean = λ zero. absurd (omega (arith, least, zero));
  untold = λ zero. absurd (omega (arith, least, zero));
  found = λ one. absurd (omega (arith, least, one));
  refused = λ two. (cause, two, stops);
}

-- and nothing is printed then
pub unprinted : (args : Lint) (held : Option (List ℕ)) (cause : Cause) (before after : SinkSeen) → Prints args held before after (status_of cause)
unprinted args held cause before after few = let least = not_below (status_of cause) (cause_known cause) in absurd (omega (arith, least, few))
