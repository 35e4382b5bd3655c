-- Which values and options go together. (This project's rules.)
use Rattle.std.specs.Prelude.{◌&&◌, ◌||◌, not, Bool, true, false, List, [], ◌∷◌, Option}
use Rattle.std.specs.Prelude.{is_some, is_none, find, filter_map}
use Rattle.std.specs.Option.{option_map_or}
use Rattle.clap.specs.Words.{Row, Text}
use Rattle.jeldroft_args.specs.believed.Arguments.{kind_of}
use Rattle.jeldroft_args.specs.believed.Names.{overwritten}
use Rattle.jeldroft_args.specs.believed.Programs.{arguments_of}
use Rattle.jeldroft_args.specs.believed.Readings.{has_equal_marks, has_reading, is_dash, is_on, marks_in}
use Rattle.jeldroft_args.specs.believed.Readings.{value_of}
use Rattle.jeldroft_args.specs.declared.argument.Argument.{Argument}
use Rattle.jeldroft_args.specs.declared.argument.Argument.TheVariants as a
use Rattle.jeldroft_args.specs.declared.argument.ArgumentKind.{ArgumentKind}
use Rattle.jeldroft_args.specs.declared.argument.ArgumentKind.TheVariants.{Flag}
use Rattle.jeldroft_args.specs.declared.command_name.CommandName.{CommandName}
use Rattle.jeldroft_args.specs.declared.command_name.CommandName.TheVariants.{Generate, Sequence}

-- the value of an argument has a reading, if it got one
abbrev pub is_read : List Row → Argument → Bool
is_read rows argument = option_map_or (has_reading argument) (value_of argument rows) true

-- the first argument whose value has none
abbrev pub unread : CommandName → List Row → Option Argument
unread command rows = find (λ argument. not (is_read rows argument)) (arguments_of command)

-- whether the words used an option
abbrev pub is_used_as : ArgumentKind → Argument → List Row → Bool
is_used_as Flag argument rows = is_on argument rows
is_used_as _ argument rows = is_some (value_of argument rows)

abbrev pub is_used : Argument → List Row → Bool
is_used argument rows = is_used_as (kind_of argument) argument rows

-- options that mean nothing without another one
abbrev pub needs_of : CommandName → List (Argument × Argument)
needs_of Generate = (a.Spread, a.Shrink) ∷ (a.Rounds, a.Shrink) ∷ (a.Random, a.Shrink)
    ∷ (a.ProofFormat, a.Proof) ∷ []
needs_of _ = []

abbrev pub is_unmet : List Row → Argument × Argument → Bool
is_unmet rows pair = is_used pair.0 rows && not (is_used pair.1 rows)

abbrev pub unmet_need : CommandName → List Row → Option (Argument × Argument)
unmet_need command rows = find (is_unmet rows) (needs_of command)

-- options that exclude each other
abbrev pub exclusions_of : CommandName → List (Argument × Argument)
exclusions_of Sequence = (a.Report, a.Output) ∷ []
exclusions_of _ = []

abbrev pub are_both_used : List Row → Argument × Argument → Bool
are_both_used rows pair = is_used pair.0 rows && is_used pair.1 rows

abbrev pub excluded_pair : CommandName → List Row → Option (Argument × Argument)
excluded_pair command rows = find (are_both_used rows) (exclusions_of command)

-- standard input is named twice
abbrev pub is_standard_input : Argument → List Row → Bool
is_standard_input argument rows = option_map_or is_dash (value_of argument rows) false

abbrev pub reads_input_twice : List Row → Bool
reads_input_twice rows = is_standard_input a.Model rows
    && (is_standard_input a.Table rows || is_standard_input a.Results rows)

-- the names of the files that the command reads, and of those that it writes
abbrev pub inputs : List Argument
inputs = a.Model ∷ a.Table ∷ a.TableProof ∷ a.Results ∷ a.Events ∷ a.ActsFile ∷ a.Seeds
    ∷ a.Report ∷ []

abbrev pub outputs : List Argument
outputs = a.Output ∷ a.Proof ∷ []

abbrev pub names_in : List Argument → List Row → List Text
names_in arguments rows = filter_map (λ argument. value_of argument rows) arguments

-- each value has a reading, and the options go together
abbrev pub is_allowed : CommandName → List Row → Bool
is_allowed command rows = is_none (unread command rows)
    && is_none (unmet_need command rows)
    && is_none (excluded_pair command rows)
    && not (reads_input_twice rows)
    && not (has_equal_marks (marks_in rows))
    && is_none (overwritten (names_in inputs rows) (names_in outputs rows))
