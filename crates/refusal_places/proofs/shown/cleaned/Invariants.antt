use Rattle.std.proofs.Common.{◌≡◌, true}
use Rattle.std.specs.String.{string_bytes}
use Rattle.refusal_places.specs.Told.{is_clean}
use Rattle.refusal_places.proofs.shown.cleaned.Given as goal

abbrev pub invariant-loop-character : goal.invariant-loop-character
invariant-loop-character l = is_clean (string_bytes l.clean) ≡ true
