-- The settings of a command as the program has them, and as definitions name them.
use Rattle.std.specs.Prelude.{◌≡◌, ℕ, ◌+◌, Bool, true, false, ◌&&◌, ◌||◌, List, [], ◌∷◌, filter_map, take, drop, slice_index_or}
use Rattle.std.specs.List.{list_any}
use Rattle.std.specs.Option.{option_map}
use Rattle.definitions.specs.believed.Settings as defined
use Rattle.definitions.specs.believed.Words.{Command, is_generating, is_measuring, is_of_a_file, is_faulty, set_by}
use Rattle.pict_cli.specs.believed.Modes as modes
use Rattle.pict_cli.specs.declared.kinds.Kinds.{Kinds}
use Rattle.pict_cli.specs.declared.modes.Mode.{Mode}
use Rattle.pict_cli.specs.declared.modes.Mode.TheVariants as kinds
use Rattle.pict_cli.specs.declared.modes.Output.{Output}
use Rattle.pict_cli.specs.declared.modes.Output.TheVariants as outputs
use Rattle.pict_cli.specs.declared.options.Opts.{Opts}
use Rattle.refutation.specs.believed.Proofs.{format_of}
use Rattle.command_line.specs.Settings.{order_seen, shuffle_seen}

-- all that is set
abbrev pub settings_seen : Opts → defined.Settings
settings_seen o = record {
  order = order_seen o.opts.order;
  separator = o.opts.marks.separator;
  alias = o.opts.marks.alias;
  prefix = o.opts.marks.prefix;
  fold_case = o.opts.fold;
  seeds = option_map (λ name. name.now) o.seeds;
  shuffle = shuffle_seen o.shuffle;
  stats = o.stats;
  workers = o.workers;
  effort = o.effort;
  proof = option_map (λ name. name.now) o.proof;
  form = format_of o.form;
  measure = option_map (λ name. name.now) o.measure;
  make = o.make;
  suspect = option_map (λ name. name.now) o.suspect;
}

-- what the run does, and prints of a suite
abbrev pub output_seen : Output → modes.Output
output_seen outputs.Report = modes.Report
output_seen outputs.Statistics = modes.Statistics

abbrev pub mode_seen : Mode → modes.Mode
mode_seen (kinds.Generate output) = modes.Generate (output_seen output)
mode_seen (kinds.Measure name) = modes.Measure name.now
mode_seen (kinds.Suspect name) = modes.Suspect name.now

-- the whole command
abbrev pub command_seen : Opts → Command
command_seen o = record { names = o.model.now ∷ []; settings = settings_seen o }

-- what a setting is about, and what several are about together
abbrev pub is_suspecting : defined.Setting → Bool
is_suspecting (defined.SuspectFile name) = true
is_suspecting setting = false

abbrev pub is_making : defined.Setting → Bool
is_making (defined.Make n) = true
is_making setting = false

abbrev pub kind_of : defined.Setting → Kinds
kind_of s =
    record { generating = is_generating s; measuring = is_measuring s; suspecting = is_suspecting s; making = is_making s; of_a_file = is_of_a_file s }

abbrev pub kinds_of : List defined.Setting → Kinds
kinds_of settings = record {
  generating = list_any is_generating settings;
  measuring = list_any is_measuring settings;
  suspecting = list_any is_suspecting settings;
  making = list_any is_making settings;
  of_a_file = list_any is_of_a_file settings;
}

abbrev pub joined_kinds : Kinds → Kinds → Kinds
joined_kinds a b = record {
  generating = a.generating || b.generating;
  measuring = a.measuring || b.measuring;
  suspecting = a.suspecting || b.suspecting;
  making = a.making || b.making;
  of_a_file = a.of_a_file || b.of_a_file;
}

-- settings about the first leave no place for settings about the second
abbrev pub excludes_by_kinds : Kinds → Kinds → Bool
excludes_by_kinds a b = a.measuring && b.generating || a.suspecting && (b.generating || b.measuring) || a.making && b.of_a_file

-- these words were taken: the settings are what they set, and the kinds what they are about
pub record IsReading (opts : Opts) (about : Kinds) (words : List (List ℕ)) : Type 0 where
  pub settings : settings_seen opts ≡ set_by words
  pub kinds : about ≡ kinds_of (filter_map defined.setting_of words)

-- the word of this place, from 0, has no reading between the others
abbrev pub is_faulty_at : List (List ℕ) → ℕ → Bool
is_faulty_at words place = is_faulty (take place words) (slice_index_or words place []) (drop (place + 1) words)
