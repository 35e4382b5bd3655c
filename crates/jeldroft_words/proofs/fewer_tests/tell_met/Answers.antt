use Rattle.std.proofs.Common.{◌++◌, ap, ◌∙◌, subst}
use Rattle.std.specs.Prelude.{codes, decimal}
use Rattle.outside_io.specs.believed.Puts.{Puts}
use Rattle.jeldroft_words.proofs.fewer_tests.tell_met.Goals as goal

pub returns : goal.returns
returns g c =
    subst (Puts c.put_pieces.result (g.E.Sink.seen c.args.diag.now) (g.E.Sink.seen c.put_pieces.new.sink))
    (ap (λ number. number ++ (codes " tests in place of " ++ (c.format-2.result.now ++ codes "; no suite with this coverage is shorter\n"))) c.format.ensures.text
    ∙ ap (λ number. decimal c.args.tests ++ (codes " tests in place of " ++ (number ++ codes "; no suite with this coverage is shorter\n"))) c.format-2.ensures.text)
    c.put_pieces.ensures
