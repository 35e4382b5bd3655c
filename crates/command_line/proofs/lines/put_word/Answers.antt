use Rattle.std.proofs.Common.{◌++◌, ap, subst}
use Rattle.std.specs.Prelude.{codes}
use Rattle.outside_io.specs.believed.Puts.{Puts}
use Rattle.command_line.proofs.lines.put_word.Goals as goal

pub returns : goal.returns
returns g c =
    subst (Puts c.put_pieces.result (g.E.Sink.seen c.args.sink.now) (g.E.Sink.seen c.put_pieces.new.sink))
    (ap (λ number. codes "error: word " ++ number ++ codes " is not understood\n") c.format-number.ensures.text) c.put_pieces.ensures
