use Rattle.std.proofs.Common.{◌≡◌, drop}
use Rattle.std.specs.Prelude.{find}
use Rattle.std.specs.Str.{bytes_eq}
use Rattle.jeldroft_args.specs.believed.Programs.{name_of_command}
use Rattle.jeldroft_args.specs.believed.Settings.{command_named}
use Rattle.jeldroft_args.proofs.read.command_named.Given as goal

abbrev pub invariant-loop-command : goal.invariant-loop-command
invariant-loop-command l = find (λ command. bytes_eq (name_of_command command) l.word) (drop l.command-index l.commands) ≡ command_named l.commands l.word
