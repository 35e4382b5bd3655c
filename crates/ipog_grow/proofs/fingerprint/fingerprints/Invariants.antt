use Rattle.std.proofs.Common.{◌≡◌, map, take}
use Rattle.ipog_grow.specs.Fingerprints.{fingerprint}
use Rattle.ipog_grow.proofs.fingerprint.fingerprints.Given as goal

abbrev pub invariant-loop-i : goal.invariant-loop-i
invariant-loop-i l = l.numbers.items ≡ map fingerprint (take l.i l.rows)
