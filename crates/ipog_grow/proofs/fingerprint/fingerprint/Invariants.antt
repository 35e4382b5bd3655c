use Rattle.std.proofs.Common.{◌≡◌, take}
use Rattle.ipog_grow.specs.Fingerprints.{fingerprint}
use Rattle.ipog_grow.proofs.fingerprint.fingerprint.Given as goal

abbrev pub invariant-loop-place : goal.invariant-loop-place
invariant-loop-place l = l.number ≡ fingerprint (take l.place-index l.row)
