use Rattle.std.proofs.Common.{◌≡◌, take}
use Rattle.outside_io.specs.declared.answers.WriteAnswer.TheVariants.{Done}
use Rattle.outside_io.specs.believed.Puts.{Puts}
use Rattle.definitions.specs.believed.Pairs.{pairs_text}
use Rattle.command_line.proofs.put.put_pairs.Given as goal

abbrev pub invariant-loop-place : goal.invariant-loop-place
invariant-loop-place g l =
    Puts Done (g.E.Sink.seen l.fn.sink) (g.E.Sink.seen l.sink) (pairs_text (take l.place l.pairs))
