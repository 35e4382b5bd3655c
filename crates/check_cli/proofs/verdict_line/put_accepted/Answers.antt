use Rattle.std.proofs.Common.{◌++◌, sym, ap, ◌∙◌, subst, append_assoc}
use Rattle.std.specs.Prelude.{codes, decimal}
use Rattle.outside_io.specs.believed.Puts.{Puts}
use Rattle.check_cli.proofs.verdict_line.put_accepted.Goals as goal

pub returns : goal.returns
returns g c =
    subst (Puts c.put_pieces.result (g.O.Sink.seen c.args.out.now) (g.O.Sink.seen c.put_pieces.new.sink))
    (ap (λ number. codes "accepted: " ++ (number ++ (codes " rows, " ++ (c.format-omissions.result.now ++ codes " omissions\n")))) c.format-rows.ensures.text
    ∙ ap (λ number. codes "accepted: " ++ (decimal c.args.rows ++ (codes " rows, " ++ (number ++ codes " omissions\n")))) c.format-omissions.ensures.text
    ∙ ap (λ rest. codes "accepted: " ++ rest)
    (sym (append_assoc (decimal c.args.rows) (codes " rows, ") (decimal c.args.omissions ++ codes " omissions\n"))
    ∙ sym (append_assoc (decimal c.args.rows ++ codes " rows, ") (decimal c.args.omissions) (codes " omissions\n"))))
    c.put_pieces.ensures
