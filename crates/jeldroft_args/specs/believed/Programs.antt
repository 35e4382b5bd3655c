-- The commands of the program, with the files and options of each. (This project's rule.)
use Rattle.std.specs.Prelude.{Bool, true, false, List, [], ◌∷◌, codes, map}
use Rattle.clap.specs.Words.{App, Shape, Text}
use Rattle.clap.specs.Simple.{new_shape}
use Rattle.jeldroft_args.specs.believed.Arguments.{rule_of_argument}
use Rattle.jeldroft_args.specs.declared.argument.Argument.{Argument}
use Rattle.jeldroft_args.specs.declared.argument.Argument.TheVariants as a
use Rattle.jeldroft_args.specs.declared.command_name.CommandName.{CommandName}
use Rattle.jeldroft_args.specs.declared.command_name.CommandName.TheVariants.{Generate, Check}
use Rattle.jeldroft_args.specs.declared.command_name.CommandName.TheVariants.{Shrink, Show}
use Rattle.jeldroft_args.specs.declared.command_name.CommandName.TheVariants.{Lint, Measure}
use Rattle.jeldroft_args.specs.declared.command_name.CommandName.TheVariants.{Suspect}
use Rattle.jeldroft_args.specs.declared.command_name.CommandName.TheVariants.{Sequence, Import}

abbrev pub name_of_command : CommandName → Text
name_of_command Generate = codes "generate"
name_of_command Check = codes "check"
name_of_command Shrink = codes "shrink"
name_of_command Show = codes "show"
name_of_command Lint = codes "lint"
name_of_command Measure = codes "measure"
name_of_command Suspect = codes "suspect"
name_of_command Sequence = codes "sequence"
name_of_command Import = codes "import"

-- the arguments of a command, its files first
abbrev pub arguments_of : CommandName → List Argument
arguments_of Generate = a.Model ∷ a.Strength ∷ a.Seeds ∷ a.Proof ∷ a.ProofFormat ∷ a.TableFormat
    ∷ a.Output ∷ a.Shrink ∷ a.Spread ∷ a.Rounds ∷ a.Random ∷ a.Shuffle ∷ a.Budget ∷ a.Threads
    ∷ a.CaseSensitive ∷ a.Separator ∷ a.AliasSeparator ∷ a.InvalidMark ∷ a.Delimiter
    ∷ a.NoWarnings ∷ a.Quiet ∷ []
arguments_of Check = a.Model ∷ a.Table ∷ a.TableProof ∷ a.Strength ∷ a.Threads
    ∷ a.CaseSensitive ∷ a.Separator ∷ a.AliasSeparator ∷ a.InvalidMark ∷ a.Delimiter ∷ []
arguments_of Shrink = a.Model ∷ a.Table ∷ a.Strength ∷ a.Seeds ∷ a.TableFormat ∷ a.Output
    ∷ a.Spread ∷ a.Rounds ∷ a.Random ∷ a.Budget ∷ a.CaseSensitive ∷ a.Separator ∷ a.AliasSeparator
    ∷ a.InvalidMark ∷ a.Delimiter ∷ a.NoWarnings ∷ a.Quiet ∷ []
arguments_of Show = a.Model ∷ a.Table ∷ a.TableProof ∷ a.Strength ∷ a.Format ∷ a.Output
    ∷ a.Threads ∷ a.CaseSensitive ∷ a.Separator ∷ a.AliasSeparator ∷ a.InvalidMark ∷ a.Delimiter
    ∷ a.NoWarnings ∷ []
arguments_of Lint = a.Model ∷ a.All ∷ a.FindingFormat ∷ a.CaseSensitive ∷ a.Separator
    ∷ a.AliasSeparator ∷ a.InvalidMark ∷ []
arguments_of Measure = a.Model ∷ a.Table ∷ a.Strength ∷ a.Output ∷ a.Budget ∷ a.Threads
    ∷ a.CaseSensitive ∷ a.Separator ∷ a.AliasSeparator ∷ a.InvalidMark ∷ a.Delimiter ∷ []
arguments_of Suspect = a.Model ∷ a.Results ∷ a.Strength ∷ a.ResultColumn ∷ a.Output
    ∷ a.CaseSensitive ∷ a.Separator ∷ a.AliasSeparator ∷ a.InvalidMark ∷ a.Delimiter ∷ []
arguments_of Sequence = a.Events ∷ a.SequenceLength ∷ a.Report ∷ a.Output ∷ []
arguments_of Import = a.ActsFile ∷ a.Output ∷ a.CaseSensitive ∷ []

-- a command as clap's definitions take it, with `--help` besides
abbrev pub shape_with : Text → List Argument → Shape
shape_with name arguments = record (new_shape name) { rules = map rule_of_argument arguments }

abbrev pub shape_of_command : CommandName → Shape
shape_of_command command = shape_with (name_of_command command) (arguments_of command)

abbrev pub is_none : List CommandName → Bool
is_none [] = true
is_none (command ∷ rest) = false

-- the program with some commands, with `--help` and `--version` besides; its words begin behind
-- its name
abbrev pub top_of : List CommandName → Shape
top_of commands = record (new_shape (codes "jeldroft")) {
  is_leaf = is_none commands;
  no_binary_name = true;
  disable_help_subcommand = true;
  has_version = true;
  arg_required_else_help = true;
  subcommand_required = true;
}

abbrev pub program_of : List CommandName → App
program_of commands = record { top = top_of commands; subs = map shape_of_command commands }
