use Rattle.std.proofs.Common.{rules, ap, ◌∙◌}
use Rattle.clap.specs.Words.{App}
use Rattle.jeldroft_args.specs.declared.command_name.CommandName.TheVariants.{Generate}
use Rattle.jeldroft_args.specs.believed.Programs.{shape_of_command}
use Rattle.jeldroft_args.proofs.program.program.Goals as goal
use Rattle.jeldroft_args.proofs.ProgramLemmas.{with_command}

pub loop-name-preserved : goal.loop-name-preserved
loop-name-preserved c =
    with_command _ _ _ c.args.commands.now c.loop-name.name-index Generate (search rules) c.loop-name.invariant
    (ap (λ (a : App). a.top) c.in_ok-subcommand.ensures.shape ∙ ap shape_of_command (search rules))
    (c.in_ok-program-2.ensures.shape c.in_ok-subcommand.ensures.local)
