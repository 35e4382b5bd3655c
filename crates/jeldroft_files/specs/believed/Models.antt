-- How the model file of a command is read. (PICT's guide.)
use Rattle.std.specs.Prelude.{◌≡◌, ℕ, not, List, Option}
use Rattle.command_line.specs.believed.Loading.{StopsReading}
use Rattle.command_line.specs.declared.stop.Stop.{Stop}
use Rattle.jeldroft_args.specs.declared.model_file.ModelFile.{ModelFile}
use Rattle.jeldroft_args.specs.declared.strength.Strength.{Strength}
use Rattle.jeldroft_args.specs.declared.strength.Strength.TheVariants as strengths
use Rattle.jeldroft_files.specs.declared.failure.Cause.{Cause}
use Rattle.jeldroft_files.specs.declared.failure.Cause.TheVariants as causes
use Rattle.model_lex.specs.declared.options.OrderWord.{OrderWord}
use Rattle.model_lex.specs.declared.options.OrderWord.TheVariants as orders
use Rattle.model_lex.specs.declared.options.ModelOpts.{ModelOpts}

abbrev pub order_of : Strength → OrderWord
order_of (strengths.Number n) = orders.Number n
order_of strengths.Max = orders.Max

-- the options by which a model file is read at a strength
abbrev pub opts_of : ModelFile → Strength → ModelOpts
opts_of file strength = record {
  order = order_of strength;
  marks = record { separator = file.marks.separator; alias = file.marks.alias; prefix = file.marks.invalid };
  fold = not file.case_sensitive;
}

-- the reading of a model file may end by this cause
abbrev pub StopsModel : ModelOpts → Option (List ℕ) → Cause → Type 0
StopsModel opts held cause = (stop : Stop) × (cause ≡ causes.Stop stop) × StopsReading opts held stop
