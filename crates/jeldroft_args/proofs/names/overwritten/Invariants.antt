use Rattle.std.proofs.Common.{◌≡◌, drop}
use Rattle.jeldroft_args.specs.believed.Names.{overwritten}
use Rattle.jeldroft_args.proofs.NameLemmas.{texts_in}
use Rattle.jeldroft_args.proofs.names.overwritten.Given as goal

abbrev pub invariant-loop-place : goal.invariant-loop-place
invariant-loop-place l = overwritten (texts_in l.inputs) (texts_in (drop l.place l.outputs)) ≡ overwritten (texts_in l.inputs) (texts_in l.outputs)
