use Rattle.std.proofs.Common.{◌++◌, ap, ◌∙◌, subst}
use Rattle.std.specs.Prelude.{codes, decimal}
use Rattle.outside_io.specs.believed.Puts.{Puts}
use Rattle.jeldroft_words.proofs.fewer_tests.tell_open.Goals as goal

pub returns : goal.returns
returns g c =
    subst (Puts c.put_pieces.result (g.E.Sink.seen c.args.diag.now) (g.E.Sink.seen c.put_pieces.new.sink))
    (ap (λ number. number ++ (codes " tests in place of " ++ (c.format-2.result.now ++ (codes "; at least " ++ (c.format-3.result.now ++ codes " are needed for this coverage\n"))))) c.format.ensures.text
    ∙ ap (λ number. decimal c.args.tests ++ (codes " tests in place of " ++ (number ++ (codes "; at least " ++ (c.format-3.result.now ++ codes " are needed for this coverage\n"))))) c.format-2.ensures.text
    ∙ ap (λ number. decimal c.args.tests ++ (codes " tests in place of " ++ (decimal c.args.given ++ (codes "; at least " ++ (number ++ codes " are needed for this coverage\n"))))) c.format-3.ensures.text)
    c.put_pieces.ensures
