use Rattle.std.proofs.Common.{◌∙◌, sym}
use Rattle.command_line.specs.believed.Words.{texts}
use Rattle.acts_cli.proofs.RunEnds as ends
use Rattle.acts_cli.proofs.RunEnds.{unasked, written_faithful, zero_is_end}
use Rattle.acts_cli.proofs.run.run_acts.Goals as goal

pub returns : goal.returns
returns g c =
    let asks = c.in-Ok.ensures in
    let ran = c.run-end.ensures in
    let is = c.status_of.ensures in
    let translated = ends.whole asks ran is in
    record {
      translated = translated;
      meaning = λ zero asked held also told.
          written_faithful asked.fold held ((g.F.Folder.seen c.run-end.new.files).files asked.output) (translated zero asked held also told);
      run = ends.run_is asks ran is (c.tell.result, c.tell.ensures.puts);
      words = λ index fault. absurd (unasked (texts c.args.words.now) index _ fault asks);
      read_words = λ asked also. ends.not_words asks ran is;
      complete = ends.complete asks ran is;
      refused = ends.refused asks ran is;
      too_long = ends.too_long asks ran is;
      missing = ends.missing asks ran is;
      silent = λ zero. c.tell.ensures.silent (zero_is_end c.run-end.result (sym is ∙ zero));
      read = ends.read asks ran is;
      write = ends.write asks ran is;
      statuses = ends.statuses asks ran is;
      others = ends.others asks ran is;
      nothing = ends.nothing asks ran is;
      no_read_fault = ends.no_read_fault asks ran is;
      no_write_fault = ends.no_write_fault asks ran is;
    }
