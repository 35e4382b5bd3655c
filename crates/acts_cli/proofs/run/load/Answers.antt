use Rattle.std.proofs.Common.{◌≡◌, ◌<◌, ◌≤◌, Err, Ok, length, refl, subst}
use Rattle.std.specs.Prelude.{IfSome, IsSomeAnd}
use Rattle.acts_front.specs.Reading.{Translates}
use Rattle.acts_front.specs.believed.Translation.{translation}
use Rattle.acts_cli.proofs.Loading.{refused, translated, unread}
use Rattle.acts_cli.proofs.run.load.Goals as goal

pub returns-in_err-translate-in-Whole : goal.returns-in_err-translate-in-Whole
returns-in_err-translate-in-Whole g c =
    let fault = c.in_err-translate-in-Whole.field-0.0 in
    let ends = refused c.args.fold ((g.F.Folder.seen c.args.files.now).files c.args.name.now) c.read_file.new.into.items c.from_residual.result fault
    c.from_residual.ensures.1 (c.in-Whole.ensures.whole refl) (subst (λ most. length c.read_file.new.into.items ≤ most) c.most_bytes.ensures (c.in-Whole.ensures.within refl))
    (subst (λ bytes. Translates (translation c.args.fold bytes) (Err fault)) c.as_slice.ensures.value c.in_err-translate-in-Whole.ensures.translated) in
    record {
      loads = ends.loads;
      cannot_read = λ e. absurd (ends.read e);
      no_fault = λ other. c.in-Whole.ensures.no_fault (λ e. cc);
      other = ends.other;
      files = c.in-Whole.ensures.files;
      write_faults = c.in-Whole.ensures.no_write_fault;
    }

pub returns-in-Whole : goal.returns-in-Whole
returns-in-Whole g c =
    let text = c.in_ok-translate-in-Whole.field-0 in
    record {
      loads = translated c.args.fold ((g.F.Folder.seen c.args.files.now).files c.args.name.now) c.read_file.new.into.items text
          (c.in-Whole.ensures.whole refl) (subst (λ most. length c.read_file.new.into.items ≤ most) c.most_bytes.ensures (c.in-Whole.ensures.within refl))
          (subst (λ bytes. translation c.args.fold bytes ≡ Ok text.items) c.as_slice.ensures.value c.in_ok-translate-in-Whole.ensures.translated);
      cannot_read = λ e. absurd (cc);
      no_fault = λ other. c.in-Whole.ensures.no_fault (λ e. cc);
      other = tt;
      files = c.in-Whole.ensures.files;
      write_faults = c.in-Whole.ensures.no_write_fault;
    }

pub returns-in-TooLong : goal.returns-in-TooLong
returns-in-TooLong g c = record {
  loads = subst (λ most. IfSome ((g.F.Folder.seen c.args.files.now).files c.args.name.now) (λ held. IsSomeAnd held (λ bytes. most < length bytes)))
      c.most_bytes.ensures (c.in-TooLong.ensures.too_long refl);
  cannot_read = λ e. absurd (cc);
  no_fault = λ other. c.in-TooLong.ensures.no_fault (λ e. cc);
  other = λ e. cc;
  files = c.in-TooLong.ensures.files;
  write_faults = c.in-TooLong.ensures.no_write_fault;
}

pub returns-in-Failed : goal.returns-in-Failed
returns-in-Failed g c = record {
  loads = unread ((g.F.Folder.seen c.args.files.now).files c.args.name.now);
  cannot_read = λ e. c.in-Failed.ensures.rose refl;
  no_fault = λ other. absurd (other refl);
  other = λ e. cc;
  files = c.in-Failed.ensures.files;
  write_faults = c.in-Failed.ensures.no_write_fault;
}

pub returns : goal.returns
returns g c = record {
  loads = unread ((g.F.Folder.seen c.args.files.now).files c.args.name.now);
  cannot_read = λ e. absurd (cc);
  no_fault = λ other. c.in-NoMemory.ensures.no_fault (λ e. cc);
  other = λ e. cc;
  files = c.in-NoMemory.ensures.files;
  write_faults = c.in-NoMemory.ensures.no_write_fault;
}
