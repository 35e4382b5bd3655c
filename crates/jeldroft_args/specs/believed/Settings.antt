-- What the words behind the program's name ask for.
use Rattle.std.specs.Prelude.{ℕ, List, [], Option, Some, None, option_map}
use Rattle.std.specs.Prelude.{option_and_then, unwrap_or, find, if◌then◌else◌}
use Rattle.std.specs.Str.{bytes_eq}
use Rattle.clap.specs.Words.{Row, Text, fault_of, subcommand_of}
use Rattle.clap.specs.Walk.{is_empty}
use Rattle.jeldroft_args.specs.believed.Programs.{name_of_command, program_of}
use Rattle.jeldroft_args.specs.believed.Readings.{budget_of, delimiter_of, finding_format_of, format_of}
use Rattle.jeldroft_args.specs.believed.Readings.{is_on, length_of, marks_in, number_of, proof_format_of}
use Rattle.jeldroft_args.specs.believed.Readings.{read_or, rounds_of, strength_of, table_format_of}
use Rattle.jeldroft_args.specs.believed.Readings.{threads_of, value_of}
use Rattle.jeldroft_args.specs.believed.Rules.{is_allowed}
use Rattle.jeldroft_args.specs.declared.argument.Argument.{Argument}
use Rattle.jeldroft_args.specs.declared.argument.Argument.TheVariants as a
use Rattle.jeldroft_args.specs.declared.command_name.CommandName.{CommandName}
use Rattle.jeldroft_args.specs.declared.command_name.CommandName.TheVariants.{Generate, Check}
use Rattle.jeldroft_args.specs.declared.command_name.CommandName.TheVariants.{Shrink, Show}
use Rattle.jeldroft_args.specs.declared.command_name.CommandName.TheVariants.{Lint, Measure}
use Rattle.jeldroft_args.specs.declared.command_name.CommandName.TheVariants.{Suspect}
use Rattle.jeldroft_args.specs.declared.command_name.CommandName.TheVariants.{Sequence, Import}
use Rattle.jeldroft_args.specs.declared.command.Command.{Command}
use Rattle.jeldroft_args.specs.declared.command.Command.TheVariants as asks
use Rattle.jeldroft_args.specs.declared.delimiter.Delimiter.{Delimiter}
use Rattle.jeldroft_args.specs.declared.format.Format.{Format}
use Rattle.jeldroft_args.specs.declared.format.Format.TheVariants.{Tsv, Text as PlainText}
use Rattle.jeldroft_args.specs.declared.format.FindingFormat.{FindingFormat}
use Rattle.jeldroft_args.specs.declared.format.FindingFormat.TheVariants as finding
use Rattle.jeldroft_args.specs.declared.model_file.ModelFile.{ModelFile}
use Rattle.jeldroft_args.specs.declared.proof_output.ProofOutput.{ProofOutput}
use Rattle.jeldroft_args.specs.declared.shrinking.Shrinking.{Shrinking}
use Rattle.jeldroft_args.specs.declared.strength.Strength.{Strength}
use Rattle.jeldroft_args.specs.declared.strength.Strength.TheVariants.{Number}
use Rattle.jeldroft_args.specs.declared.generate.Generate.{Generate as GenerateArgs}
use Rattle.jeldroft_args.specs.declared.check.Check.{Check as CheckArgs}
use Rattle.jeldroft_args.specs.declared.shrink.Shrink.{Shrink as ShrinkArgs}
use Rattle.jeldroft_args.specs.declared.show.Show.{Show as ShowArgs}
use Rattle.jeldroft_args.specs.declared.lint.Lint.{Lint as LintArgs}
use Rattle.jeldroft_args.specs.declared.measure.Measure.{Measure as MeasureArgs}
use Rattle.jeldroft_args.specs.declared.suspect.Suspect.{Suspect as SuspectArgs}
use Rattle.jeldroft_args.specs.declared.sequence.Sequence.{Sequence as SequenceArgs}
use Rattle.jeldroft_args.specs.declared.import.Import.{Import as ImportArgs}

-- ---- parts

-- the name of a file that has to be named
abbrev pub file_in : Argument → List Row → Text
file_in argument rows = unwrap_or (value_of argument rows) []

abbrev pub model_in : List Row → ModelFile
model_in rows = record {
  name = file_in a.Model rows;
  case_sensitive = is_on a.CaseSensitive rows;
  marks = marks_in rows;
}

-- the strength is 2 where no word says it
abbrev pub strength_in : List Row → Strength
strength_in rows = read_or strength_of (Number 2) (value_of a.Strength rows)

abbrev pub delimiter_in : List Row → Option Delimiter
delimiter_in rows = option_and_then delimiter_of (value_of a.Delimiter rows)

-- the format of the proof file is 1 where no word says it
abbrev pub proof_format_in : List Row → ℕ
proof_format_in rows = read_or proof_format_of 1 (value_of a.ProofFormat rows)

abbrev pub proof_in : List Row → Option ProofOutput
proof_in rows = option_map (λ name. record { name = name; format = proof_format_in rows })
    (value_of a.Proof rows)

-- a table has tabs between its cells, and a suite is shown in words, where no word says the form
abbrev pub table_format_in : List Row → Format
table_format_in rows = read_or table_format_of Tsv (value_of a.TableFormat rows)

abbrev pub format_in : List Row → Format
format_in rows = read_or format_of PlainText (value_of a.Format rows)

abbrev pub finding_format_in : List Row → FindingFormat
finding_format_in rows = read_or finding_format_of finding.Text (value_of a.FindingFormat rows)

-- 10,000 moves and the number 0 where no word says them
abbrev pub rounds_in : List Row → ℕ
rounds_in rows = read_or rounds_of 10000 (value_of a.Rounds rows)

abbrev pub random_in : List Row → ℕ
random_in rows = read_or number_of 0 (value_of a.Random rows)

abbrev pub shrinking_in : List Row → Shrinking
shrinking_in rows = record {
  spread = is_on a.Spread rows;
  rounds = rounds_in rows;
  random = random_in rows;
}

abbrev pub shuffle_in : List Row → Option ℕ
shuffle_in rows = option_and_then number_of (value_of a.Shuffle rows)

abbrev pub threads_in : List Row → ℕ
threads_in rows = read_or threads_of 1 (value_of a.Threads rows)

abbrev pub budget_in : List Row → Option ℕ
budget_in rows = option_and_then budget_of (value_of a.Budget rows)

-- a sequence has 2 events where no word says it
abbrev pub length_in : List Row → ℕ
length_in rows = read_or length_of 2 (value_of a.SequenceLength rows)

-- ---- commands

abbrev pub generate_in : List Row → GenerateArgs
generate_in rows = record {
  model = model_in rows;
  strength = strength_in rows;
  seeds = value_of a.Seeds rows;
  delimiter = delimiter_in rows;
  proof = proof_in rows;
  format = table_format_in rows;
  output = value_of a.Output rows;
  shrinking = if is_on a.Shrink rows then Some (shrinking_in rows) else None;
  shuffle = shuffle_in rows;
  budget = budget_in rows;
  threads = threads_in rows;
  no_warnings = is_on a.NoWarnings rows;
  quiet = is_on a.Quiet rows;
}

abbrev pub check_in : List Row → CheckArgs
check_in rows = record {
  model = model_in rows;
  table = file_in a.Table rows;
  proof = value_of a.TableProof rows;
  strength = strength_in rows;
  delimiter = delimiter_in rows;
  threads = threads_in rows;
}

abbrev pub shrink_in : List Row → ShrinkArgs
shrink_in rows = record {
  model = model_in rows;
  table = file_in a.Table rows;
  strength = strength_in rows;
  seeds = value_of a.Seeds rows;
  delimiter = delimiter_in rows;
  format = table_format_in rows;
  output = value_of a.Output rows;
  shrinking = shrinking_in rows;
  budget = budget_in rows;
  no_warnings = is_on a.NoWarnings rows;
  quiet = is_on a.Quiet rows;
}

abbrev pub show_in : List Row → ShowArgs
show_in rows = record {
  model = model_in rows;
  table = file_in a.Table rows;
  proof = value_of a.TableProof rows;
  strength = strength_in rows;
  delimiter = delimiter_in rows;
  format = format_in rows;
  output = value_of a.Output rows;
  threads = threads_in rows;
  no_warnings = is_on a.NoWarnings rows;
}

abbrev pub lint_in : List Row → LintArgs
lint_in rows = record {
  model = model_in rows;
  all = is_on a.All rows;
  format = finding_format_in rows;
}

abbrev pub measure_in : List Row → MeasureArgs
measure_in rows = record {
  model = model_in rows;
  table = file_in a.Table rows;
  strength = strength_in rows;
  delimiter = delimiter_in rows;
  output = value_of a.Output rows;
  budget = budget_in rows;
  threads = threads_in rows;
}

abbrev pub suspect_in : List Row → SuspectArgs
suspect_in rows = record {
  model = model_in rows;
  results = file_in a.Results rows;
  strength = strength_in rows;
  result = value_of a.ResultColumn rows;
  delimiter = delimiter_in rows;
  output = value_of a.Output rows;
}

abbrev pub sequence_in : List Row → SequenceArgs
sequence_in rows = record {
  events = file_in a.Events rows;
  length = length_in rows;
  report = value_of a.Report rows;
  output = value_of a.Output rows;
}

abbrev pub import_in : List Row → ImportArgs
import_in rows = record {
  file = file_in a.ActsFile rows;
  case_sensitive = is_on a.CaseSensitive rows;
  output = value_of a.Output rows;
}

-- what is asked of a command with these matches
abbrev pub asked_of : CommandName → List Row → Command
asked_of Generate rows = asks.Generate (generate_in rows)
asked_of Check rows = asks.Check (check_in rows)
asked_of Shrink rows = asks.Shrink (shrink_in rows)
asked_of Show rows = asks.Show (show_in rows)
asked_of Lint rows = asks.Lint (lint_in rows)
asked_of Measure rows = asks.Measure (measure_in rows)
asked_of Suspect rows = asks.Suspect (suspect_in rows)
asked_of Sequence rows = asks.Sequence (sequence_in rows)
asked_of Import rows = asks.Import (import_in rows)

-- ---- the words

-- the command that a word names
abbrev pub command_named : List CommandName → Text → Option CommandName
command_named commands word = find (λ command. bytes_eq (name_of_command command) word) commands

abbrev pub command_in : CommandName → List Row → Option Command
command_in command rows = if is_allowed command rows then Some (asked_of command rows) else None

-- what is asked for, where clap's definitions give this command with its matches
abbrev pub asked_in : List CommandName → Option (Text × List Row) → Option Command
asked_in commands met = option_and_then (λ pair.
    option_and_then (λ command. command_in command pair.1) (command_named commands pair.0)) met

-- what a program with these commands is asked for, where clap's definitions take the words; nothing
-- where they don't, a value has no reading, or options don't go together
abbrev pub settings_of : List CommandName → List Text → Option Command
settings_of commands words =
    if is_empty (fault_of (program_of commands) words)
    then asked_in commands (subcommand_of (program_of commands) words) else None
