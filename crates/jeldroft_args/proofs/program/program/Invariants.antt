use Rattle.std.proofs.Common.{◌≡◌, take}
use Rattle.clap.specs.Words.{app_of}
use Rattle.jeldroft_args.specs.believed.Programs.{program_of}
use Rattle.jeldroft_args.proofs.program.program.Given as goal

abbrev pub invariant-loop-name : goal.invariant-loop-name
invariant-loop-name l = app_of l.program ≡ program_of (take l.name-index l.commands)
