use Rattle.std.proofs.Common.{◌∷◌, sym, ap, subst, ◌∙◌}
use Rattle.definitions.specs.believed.RowReading.{read_numbered}
use Rattle.row_text.specs.Readings.{Reads, mode_seen}
use Rattle.row_text.specs.RowLines.{line_seen}
use Rattle.row_text.proofs.reading.read_rows.Goals as goal

pub returns-clause-reads : goal.returns-clause-reads
returns-clause-reads c =
    let mode = mode_seen c.args.mode in
    let lines = ap (read_numbered c.args.model.now mode) (sym c.in-Some.ensures ∙ c.new-lines.ensures) in
    subst (λ reading. Reads reading c.read_under.result) (ap (λ m. read_numbered m mode (line_seen c.in-Some.first ∷ c.take_line.new.self)) c.in_ok-names.ensures ∙ lines)
    c.read_under.ensures.reads
