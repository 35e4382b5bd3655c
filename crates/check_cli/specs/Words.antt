-- The words of the checker behind the program's name, and what they ask for. (This project's rules.)
use Rattle.std.specs.Prelude.{[], ◌∷◌}
use Rattle.definitions.specs.believed.Settings.{Settings, defaults}
use Rattle.definitions.specs.believed.Words.{Command}
use Rattle.command_line.specs.believed.Stops.{NamesView}
use Rattle.command_line.specs.Settings.{order_seen}
use Rattle.check_cli.specs.declared.words.CheckOpts.{CheckOpts}

-- a command as the program has it: the checker's options are set, and what else words may set is as it is without them
abbrev pub settings_seen : CheckOpts → Settings
settings_seen o = record defaults {
  order = order_seen o.opts.order;
  separator = o.opts.marks.separator;
  alias = o.opts.marks.alias;
  prefix = o.opts.marks.prefix;
  fold_case = o.opts.fold;
  workers = o.workers;
}

abbrev pub names_seen : CheckOpts → NamesView
names_seen o = record { model = o.model.now; rows = o.report.now; proof = o.proof.now }

abbrev pub command_seen : CheckOpts → Command
command_seen o = record { names = o.model.now ∷ o.report.now ∷ o.proof.now ∷ []; settings = settings_seen o }
