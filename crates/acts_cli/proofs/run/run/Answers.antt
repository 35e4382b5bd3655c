use Rattle.std.proofs.Common.{◌≡◌, ◌∙◌, Some, refl, subst}
use Rattle.std.specs.Prelude.{IfSome}
use Rattle.outside_io.specs.believed.Faults.{Rose}
use Rattle.outside_io.specs.believed.Files.{HoldsOldOrPrefix}
use Rattle.acts_cli.specs.Runs.{asked_seen}
use Rattle.acts_cli.proofs.Loading.{loaded, stopped}
use Rattle.acts_cli.proofs.run.run.Goals as goal

pub returns-in_err-text : goal.returns-in_err-text
returns-in_err-text g c =
    stopped (asked_seen c.args.asked.now) (g.F.Folder.seen c.args.files.now) (g.F.Folder.seen c.load.new.files)
    c.from_residual.result c.in_err-text.field-0.0 c.from_residual.ensures.1
    c.in_err-text.ensures.loads c.in_err-text.ensures.cannot_read c.in_err-text.ensures.no_fault c.in_err-text.ensures.other c.load.ensures.files c.load.ensures.write_faults

pub returns-in-Done : goal.returns-in-Done
returns-in-Done g c =
    let asked = asked_seen c.args.asked.now in
    let after = (g.F.Folder.seen c.write_file.new.self).files asked.output in
    record {
      ends = loaded asked.fold ((g.F.Folder.seen c.args.files.now).files asked.input) c.in_ok-text.text (λ t. IfSome after (λ file. file ≡ Some t)) c.in_ok-text.ensures.loads
          (subst (λ t. IfSome after (λ file. file ≡ Some t)) c.as_slice.ensures.value (c.in-Done.ensures.done refl));
      read = λ e. absurd (cc);
      write = λ e. absurd (cc);
      others = λ name differs. c.write_file.ensures.others name differs ∙ c.load.ensures.files name;
      nothing = λ some other. absurd (some refl);
      no_read_fault = λ other name. c.write_file.ensures.no_read_fault name ∙ c.in_ok-text.ensures.no_fault (λ e. cc) name;
      no_write_fault = λ other name. c.in-Done.ensures.no_fault (λ e. cc) name ∙ c.load.ensures.write_faults name;
    }

pub returns : goal.returns
returns g c =
    let asked = asked_seen c.args.asked.now in
    let files = (g.F.Folder.seen c.args.files.now).files in
    let after = (g.F.Folder.seen c.write_file.new.self).files asked.output in
    record {
      ends = loaded asked.fold (files asked.input) c.in_ok-text.text (λ t. IfSome after (λ file. HoldsOldOrPrefix (files asked.output) file t)) c.in_ok-text.ensures.loads
          (subst (λ t. IfSome after (λ file. HoldsOldOrPrefix (files asked.output) file t)) c.as_slice.ensures.value
          (subst (λ before. IfSome after (λ file. HoldsOldOrPrefix before file c.as_slice.result.now)) (c.load.ensures.files asked.output) (c.in-Failed.ensures.partial refl)));
      read = λ e. absurd (cc);
      write = λ e. subst (λ count. Rose count ((g.F.Folder.seen c.write_file.new.self).write_faults asked.output)) (c.load.ensures.write_faults asked.output) (c.in-Failed.ensures.rose refl);
      others = λ name differs. c.write_file.ensures.others name differs ∙ c.load.ensures.files name;
      nothing = λ some other. absurd (other refl);
      no_read_fault = λ other name. c.write_file.ensures.no_read_fault name ∙ c.in_ok-text.ensures.no_fault (λ e. cc) name;
      no_write_fault = λ other. absurd (other refl);
    }
