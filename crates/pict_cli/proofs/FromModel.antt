-- What follows of a run whose model may be made first.
use Rattle.std.proofs.Common.{◌≡◌, ℕ, List, Option, None, Some, Err, Result, refl}
use Rattle.model_lex.specs.declared.note.Note.{Note}
use Rattle.command_line.specs.declared.files.FileKind.TheVariants as kinds
use Rattle.command_line.specs.declared.stop.Stop.{Stop}
use Rattle.command_line.specs.declared.stop.Stop.TheVariants.{OutOfMemory, CannotWrite}
use Rattle.pict_cli.specs.believed.Ends.{Moment}
use Rattle.pict_cli.specs.believed.Making.{EndsFrom, cannot_write_model, goes_on, no_room}

-- from the moment at which it goes on, for want of memory, or since the made model can't be written
pub from_model : (make : Option ℕ) (name : List ℕ) (GoesOn : Moment → Type 0) (notes row_notes : List Note) (before after : Moment) (end : Result (Unit {0}) Stop) (P : Type 0)
    → ((start : Moment) → start.out ≡ before.out → GoesOn start → P) → (end ≡ Err OutOfMemory → P) → (end ≡ Err (CannotWrite kinds.Model) → P)
    → EndsFrom make name GoesOn notes row_notes before after end → P
from_model None name GoesOn notes row_notes before after end P says memory fault goes = says before refl goes
from_model (Some n) name GoesOn notes row_notes before after end P says memory fault (no_room e told told_rows quiet keeps) = memory e
from_model (Some n) name GoesOn notes row_notes before after end P says memory fault (cannot_write_model e told told_rows quiet others held) = fault e
from_model (Some n) name GoesOn notes row_notes before after end P says memory fault (goes_on start written goes) = says start written.out goes
