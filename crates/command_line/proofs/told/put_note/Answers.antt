use Rattle.std.proofs.Common.{◌++◌, ◌∙◌, ap, subst}
use Rattle.std.specs.Prelude.{codes, decimal}
use Rattle.outside_io.specs.believed.Puts.{Puts}
use Rattle.model_lex.specs.believed.Codes.{note_code, note_text}
use Rattle.command_line.proofs.PieceSums.{seven_pieces}
use Rattle.command_line.proofs.told.put_note.Goals as goal

pub returns : goal.returns
returns g c =
    let note = c.args.note.now in
    let opening = c.args.opening.now in
    subst (Puts c.put_pieces.result (g.E.Sink.seen c.args.sink.now) (g.E.Sink.seen c.put_pieces.new.sink))
    (ap (λ line. opening ++ (line ++ (codes ": " ++ (c.code-code.result.now ++ (codes " " ++ (c.text-text.result.now ++ codes "\n")))))) c.format-line.ensures.text
    ∙ ap (λ code. opening ++ (decimal note.line ++ (codes ": " ++ (code ++ (codes " " ++ (c.text-text.result.now ++ codes "\n")))))) c.code-code.ensures
    ∙ ap (λ text. opening ++ (decimal note.line ++ (codes ": " ++ (note_code note.code ++ (codes " " ++ (text ++ codes "\n")))))) c.text-text.ensures
    ∙ seven_pieces opening (decimal note.line) (codes ": ") (note_code note.code) (codes " ") (note_text note.code) (codes "\n"))
    c.put_pieces.ensures
