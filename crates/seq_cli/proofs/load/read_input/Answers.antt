use Rattle.std.proofs.Common.{◌<◌, ◌≤◌, inl, inr, length, refl, subst}
use Rattle.std.specs.Prelude.{IfSome, IsSomeAnd}
use Rattle.seq_cli.specs.believed.Runs.{cannot_read, too_long}
use Rattle.seq_cli.proofs.load.read_input.Goals as goal

pub returns-in-TooLong : goal.returns-in-TooLong
returns-in-TooLong g c = record {
  bytes = tt;
  stops = inr (too_long refl (subst (λ most. IfSome ((g.F.Folder.seen c.args.files.now).files c.args.name.now) (λ held. IsSomeAnd held (λ bytes. most < length bytes)))
      c.most.ensures (c.in-TooLong.ensures.too_long refl)));
  rose = λ e. absurd (cc);
  no_fault = λ other. c.in-TooLong.ensures.no_fault (λ e. cc);
  files = c.in-TooLong.ensures.files;
  write_faults = c.in-TooLong.ensures.no_write_fault;
}

pub returns-in-Failed : goal.returns-in-Failed
returns-in-Failed g c = record {
  bytes = tt;
  stops = inr (cannot_read refl);
  rose = λ e. c.in-Failed.ensures.rose refl;
  no_fault = λ other. absurd (other refl);
  files = c.in-Failed.ensures.files;
  write_faults = c.in-Failed.ensures.no_write_fault;
}

pub returns-in-NoMemory : goal.returns-in-NoMemory
returns-in-NoMemory g c = record {
  bytes = tt;
  stops = inl refl;
  rose = λ e. absurd (cc);
  no_fault = λ other. c.in-NoMemory.ensures.no_fault (λ e. cc);
  files = c.in-NoMemory.ensures.files;
  write_faults = c.in-NoMemory.ensures.no_write_fault;
}

pub returns-in-Whole : goal.returns-in-Whole
returns-in-Whole g c = record {
  bytes = record {
    held = c.in-Whole.ensures.whole refl;
    within = subst (λ most. length c.read_file.new.into.items ≤ most) c.most.ensures (c.in-Whole.ensures.within refl);
  };
  stops = tt;
  rose = λ e. absurd (cc);
  no_fault = λ other. c.in-Whole.ensures.no_fault (λ e. cc);
  files = c.in-Whole.ensures.files;
  write_faults = c.in-Whole.ensures.no_write_fault;
}
