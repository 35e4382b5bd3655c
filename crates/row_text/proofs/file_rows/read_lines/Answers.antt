use Rattle.std.proofs.Common.{map, ◌++◌, refl, sym, ◌∙◌, ap, subst}
use Rattle.definitions.specs.believed.RowFile.{named_param, row_of_line}
use Rattle.definitions.specs.believed.RowReading.{value_notes}
use Rattle.row_text.specs.believed.Readings.{note_told}
use Rattle.row_text.specs.RowLines.{AreOnce, line_seen}
use Rattle.row_text.proofs.ReadingSteps.{line_goes_on}
use Rattle.row_text.proofs.file_rows.read_lines.Goals as goal

pub loop-line-preserved : goal.loop-line-preserved
loop-line-preserved c =
    let same = c.loop-line.invariant.same in
    let line = c.in-Some.line in
    record {
      so_far = line_goes_on c.args.names.now c.args.header.columns c.args.header.notes c.args.lines c.loop-line.lines c.take_line.new.self (line_seen line) c.loop-line.rows c.loop-line.notes
          c.loop-line.invariant.so_far c.in-Some.ensures (record { line = line.number; cells = c.in_ok-cells.cells }) c.push.new.self c.read_row.new.notes refl
          (λ header columns once.
          c.in_ok-cells.ensures.row header (c.as_slice.ensures ∙ columns ∙ ap (λ m. map (named_param m) header) (sym same)) (subst (λ m. AreOnce m header) (sym same) once)
          ∙ ap (λ m. row_of_line m header line.text.now) same)
          (λ header columns.
          c.in_ok-cells.ensures.notes header (c.as_slice.ensures ∙ columns ∙ ap (λ m. map (named_param m) header) (sym same))
          ∙ ap (λ m. c.loop-line.notes ++ map note_told (value_notes m header (line_seen line))) same)
          c.in_ok-push.ensures.ok;
      same = c.in_ok-cells.ensures.same ∙ same;
    }
