-- The files and options of the commands. (GNU's form of options; which there are is this project's
-- rule.)
use Rattle.std.specs.Prelude.{ℕ, Option, Some, None, true, codes}
use Rattle.clap.specs.Words.{Rule, Text, new_rule}
use Rattle.clap.specs.declared.builder.action.ArgAction.TheVariants.{SetTrue}
use Rattle.jeldroft_args.specs.declared.argument.Argument.{Argument}
use Rattle.jeldroft_args.specs.declared.argument.Argument.TheVariants as a
use Rattle.jeldroft_args.specs.declared.argument.ArgumentKind.{ArgumentKind}
use Rattle.jeldroft_args.specs.declared.argument.ArgumentKind.TheVariants as kind

-- the name of an option without its dashes, or of a file
abbrev pub name_of : Argument → Text
name_of a.Model = codes "MODEL"
name_of a.Table = codes "TABLE"
name_of a.TableProof = codes "PROOF"
name_of a.Results = codes "RESULTS"
name_of a.Events = codes "EVENTS"
name_of a.ActsFile = codes "FILE.acts"
name_of a.Strength = codes "strength"
name_of a.SequenceLength = codes "strength"
name_of a.Seeds = codes "seeds"
name_of a.Proof = codes "proof"
name_of a.ProofFormat = codes "proof-format"
name_of a.TableFormat = codes "format"
name_of a.Format = codes "format"
name_of a.FindingFormat = codes "format"
name_of a.Output = codes "output"
name_of a.Report = codes "check"
name_of a.Shrink = codes "shrink"
name_of a.Spread = codes "spread"
name_of a.Shuffle = codes "shuffle"
name_of a.Rounds = codes "rounds"
name_of a.Random = codes "random"
name_of a.Budget = codes "budget"
name_of a.Threads = codes "threads"
name_of a.All = codes "all"
name_of a.CaseSensitive = codes "case-sensitive"
name_of a.Separator = codes "separator"
name_of a.AliasSeparator = codes "alias-separator"
name_of a.InvalidMark = codes "invalid-mark"
name_of a.Delimiter = codes "delimiter"
name_of a.ResultColumn = codes "result"
name_of a.NoWarnings = codes "no-warnings"
name_of a.Quiet = codes "quiet"

-- the short letter of an option: -t, -p, -f, -o, -q
abbrev pub letter_of : Argument → Option ℕ
letter_of a.Strength = Some 116
letter_of a.SequenceLength = Some 116
letter_of a.Proof = Some 112
letter_of a.TableFormat = Some 102
letter_of a.Format = Some 102
letter_of a.FindingFormat = Some 102
letter_of a.Output = Some 111
letter_of a.Quiet = Some 113
letter_of _ = None

-- a file that has to be named or may be, an option with a value, or one without
abbrev pub kind_of : Argument → ArgumentKind
kind_of a.Model = kind.File
kind_of a.Table = kind.File
kind_of a.TableProof = kind.OptionalFile
kind_of a.Results = kind.File
kind_of a.Events = kind.File
kind_of a.ActsFile = kind.File
kind_of a.Shrink = kind.Flag
kind_of a.Spread = kind.Flag
kind_of a.All = kind.Flag
kind_of a.CaseSensitive = kind.Flag
kind_of a.NoWarnings = kind.Flag
kind_of a.Quiet = kind.Flag
kind_of _ = kind.Value

-- the argument as clap's definitions take it
abbrev pub rule_of_kind : ArgumentKind → Text → Option ℕ → Rule
rule_of_kind kind.File name letter = record (new_rule name) { required = true }
rule_of_kind kind.OptionalFile name letter = new_rule name
rule_of_kind kind.Value name letter =
    record (new_rule name) { long = Some name; short = letter; value_names = 1 }
rule_of_kind kind.Flag name letter =
    record (new_rule name) { long = Some name; short = letter; action = Some SetTrue }

abbrev pub rule_of_argument : Argument → Rule
rule_of_argument argument = rule_of_kind (kind_of argument) (name_of argument) (letter_of argument)
