use Rattle.std.proofs.Common.{◌≡◌, false, take}
use Rattle.clap.specs.Words.{app_of}
use Rattle.clap.specs.declared.builder.command.Command.TheViews.{out-Command as fields_of}
use Rattle.jeldroft_args.specs.believed.Programs.{arguments_of, name_of_command}
use Rattle.jeldroft_args.proofs.ProgramLemmas.{app_with}
use Rattle.jeldroft_args.proofs.program.subcommand.Given as goal

abbrev pub invariant-loop-argument : goal.invariant-loop-argument
invariant-loop-argument l = (app_of l.command ≡ app_with (name_of_command l.fn.name) (take l.argument-index (arguments_of l.fn.name)))
    × ((fields_of l.command).has_globals ≡ false) × (l.argument-items ≡ arguments_of l.fn.name)
