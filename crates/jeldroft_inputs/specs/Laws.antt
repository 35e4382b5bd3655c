-- A model file gives one model, or ends a command by one cause.
use Rattle.std.specs.Prelude.{◌≡◌, ℕ, List, Option, Result}
use Rattle.cov_model.specs.believed.Sound.{ModelView}
use Rattle.model_lex.specs.declared.options.ModelOpts.{ModelOpts}
use Rattle.jeldroft_files.specs.declared.failure.Cause.{Cause}
use Rattle.jeldroft_inputs.specs.believed.Inputs.{GivesModel}

abbrev pub ModelFilesGiveOneAnswer : Type 0
ModelFilesGiveOneAnswer = (opts : ModelOpts) (held : Option (List ℕ)) (given other : Result ModelView Cause) → GivesModel opts held given → GivesModel opts held other → given ≡ other
