-- A run that makes its model: it writes the made model to the model file, and goes on with these bytes. (This project's
-- rules.)
use Rattle.std.specs.Prelude.{◌≡◌, ℕ, List, [], Option, Some, None, Result, Err, IfSome}
use Rattle.outside_io.specs.believed.Files.{HoldsOldOrPrefix}
use Rattle.outside_io.specs.believed.Seen.{KeepsFiles, KeepsOtherFiles, KeepsReadFaults, KeepsWriteFaults}
use Rattle.made_models.specs.believed.MadeModel.{made_text}
use Rattle.model_lex.specs.declared.note.Note.{Note}
use Rattle.command_line.specs.declared.files.FileKind.TheVariants as kinds
use Rattle.command_line.specs.declared.stop.Stop.{Stop}
use Rattle.command_line.specs.declared.stop.Stop.TheVariants.{OutOfMemory, CannotWrite}
use Rattle.pict_cli.specs.believed.Ends.{Moment}

-- the folder wrote these bytes to this name from one moment to another, and nothing else changed
pub record Writes (name bytes : List ℕ) (before after : Moment) : Type 0 where
  pub held : IfSome (after.folder.files name) (λ held. held ≡ Some bytes)
  pub others : KeepsOtherFiles name before.folder after.folder
  pub reads : KeepsReadFaults before.folder after.folder
  pub writes : KeepsWriteFaults before.folder after.folder
  pub out : after.out ≡ before.out

-- how a run may end that makes its model: memory is wanting before anything is written; the folder can't write the made
-- model, and then the file holds what it held or a prefix of it, and no other file changes; or the made model is written,
-- and from that moment on the run goes on with it as it does on the bytes of a model file
pub data EndsMaking (name made : List ℕ) (GoesOn : Moment → Type 0) (notes row_notes : List Note) (before after : Moment) (end : Result (Unit {0}) Stop) : Type 0 where
  no_room : end ≡ Err OutOfMemory → notes ≡ [] → row_notes ≡ [] → after.out ≡ before.out → KeepsFiles before.folder after.folder
      → EndsMaking name made GoesOn notes row_notes before after end
  cannot_write_model : end ≡ Err (CannotWrite kinds.Model) → notes ≡ [] → row_notes ≡ [] → after.out ≡ before.out → KeepsOtherFiles name before.folder after.folder
      → IfSome (after.folder.files name) (λ held. HoldsOldOrPrefix (before.folder.files name) held made) → EndsMaking name made GoesOn notes row_notes before after end
  goes_on : (start : Moment) → Writes name made before start → GoesOn start → EndsMaking name made GoesOn notes row_notes before after end

-- how a run may end, with the number of the model that it makes, if it makes one: else it goes on from its beginning
abbrev pub EndsFrom : Option ℕ → List ℕ → (Moment → Type 0) → List Note → List Note → Moment → Moment → Result (Unit {0}) Stop → Type 0
EndsFrom None name GoesOn notes row_notes before after end = GoesOn before
EndsFrom (Some n) name GoesOn notes row_notes before after end = EndsMaking name (made_text n) GoesOn notes row_notes before after end
