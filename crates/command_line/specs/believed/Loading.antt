-- Why the reading of a file may stop. (This project's rules.)
use Rattle.std.specs.Prelude.{◌≡◌, ℕ, ◌<◌, ◌≤◌, List, length, Option, IsSomeAnd}
use Rattle.cov_model.specs.believed.Sound.{ModelView}
use Rattle.definitions.specs.believed.Limits.{ModelFile, most_bytes}
use Rattle.model_lex.specs.declared.note.Note.{Note}
use Rattle.model_lex.specs.declared.options.ModelOpts.{ModelOpts}
use Rattle.model_lex.specs.declared.fault.ModelFault.{ModelFault}
use Rattle.type_check.specs.believed.ModelOf.{IsModelOf, IsRefusalOf}
use Rattle.command_line.specs.declared.files.FileKind.TheVariants as kinds
use Rattle.command_line.specs.declared.stop.Stop.{Stop}
use Rattle.command_line.specs.declared.stop.Stop.TheVariants.{OutOfMemory, CannotRead, TooLong}
use Rattle.command_line.specs.believed.Stops.{stop_of_model}

-- the bytes of a model file are no more than they may be, and this is their first refusal
abbrev pub IsRefused : ModelOpts → ModelFault → List ℕ → Type 0
IsRefused opts fault bytes = (length bytes ≤ most_bytes ModelFile) × IsRefusalOf opts bytes fault

-- why the reading of a model file may stop: for want of memory, where the folder failed, where the file has more
-- bytes than it may, and by its first refusal
pub data StopsReading (opts : ModelOpts) (held : Option (List ℕ)) (stop : Stop) : Type 0 where
  out_of_memory : stop ≡ OutOfMemory → StopsReading opts held stop
  cannot_read : stop ≡ CannotRead kinds.Model → StopsReading opts held stop
  too_long : stop ≡ TooLong kinds.Model → IsSomeAnd held (λ bytes. most_bytes ModelFile < length bytes) → StopsReading opts held stop
  is_refused : (fault : ModelFault) → stop ≡ stop_of_model fault → IsSomeAnd held (IsRefused opts fault) → StopsReading opts held stop

-- the model file is there, has no more bytes than it may, and spells this model with these notes
abbrev pub IsLoaded : ModelOpts → Option (List ℕ) → ModelView → List Note → Type 0
IsLoaded opts held m notes = IsSomeAnd held (λ bytes. (length bytes ≤ most_bytes ModelFile) × IsModelOf opts bytes m notes)
