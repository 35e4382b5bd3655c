use Rattle.std.proofs.Common.{rules, ap, ◌∙◌}
use Rattle.jeldroft_args.specs.believed.Arguments.{rule_of_argument}
use Rattle.jeldroft_args.specs.believed.Programs.{arguments_of, name_of_command}
use Rattle.jeldroft_args.specs.declared.argument.Argument.TheVariants.{Model}
use Rattle.jeldroft_args.proofs.program.subcommand.Goals as goal
use Rattle.jeldroft_args.proofs.ProgramLemmas.{with_argument}

pub loop-argument-preserved : goal.loop-argument-preserved
loop-argument-preserved c = (
  with_argument _ _ _ (name_of_command c.args.name) (arguments_of c.args.name) c.loop-argument.argument-index Model (search rules)
      c.loop-argument.invariant.0 (c.arg.ensures.rule ∙ ap rule_of_argument (search rules)) (c.in_ok-command.ensures.shape c.arg.ensures.local),
  search rules,
  search rules,
)
