use Rattle.std.proofs.Common.{◌∙◌, ◌∷◌, ap, map, sym}
use Rattle.model_lex.specs.believed.Lines.{file_lines, without_return}
use Rattle.model_lex.proofs.lines.cut_line.Goals as goal

pub returns-clause-lines : goal.returns-clause-lines
returns-clause-lines c =
    ap (map without_return) c.cut_at_line_feed.ensures.lines ∙ ap (λ line. line ∷ file_lines c.cut_at_line_feed.result.1.now) (sym c.without_return.ensures)
