-- The commands of the program. (This project's rule.)
use Rattle.std.specs.Prelude.{List, [], ◌∷◌}
use Rattle.jeldroft_args.specs.declared.command_name.CommandName.{CommandName}
use Rattle.jeldroft_args.specs.declared.command_name.CommandName.TheVariants.{Generate, Check, Shrink, Show, Lint, Measure, Suspect, Sequence, Import}

abbrev pub commands : List CommandName
commands = Generate ∷ Check ∷ Shrink ∷ Show ∷ Lint ∷ Measure ∷ Suspect ∷ Sequence ∷ Import ∷ []
