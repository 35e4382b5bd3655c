-- What the words behind the program's name ask for, and which files they name. (PICT's guide.)
use Rattle.std.specs.Prelude.{◌≡◌, ◌≤◌, length, IsSomeAnd, ℕ, List, Option, Some, None, Result, Ok, Err, slice_index_or, []}
use Rattle.std.specs.declared.string.String.{String}
use Rattle.std.specs.declared.alloc.Global.{Global}
use Rattle.definitions.specs.believed.Settings.{Settings}
use Rattle.definitions.specs.believed.Limits.{ModelFile, most_bytes}
use Rattle.definitions.specs.believed.Words.{read_words}
use Rattle.cov_model.specs.believed.Sound.{ModelView}
use Rattle.model_lex.specs.declared.note.Note.{Note}
use Rattle.outside_io.specs.believed.Files.{Files}
use Rattle.outside_io.specs.believed.Seen.{FolderSeen, ReadFaultsRose, WriteFaultsRose}
use Rattle.type_check.specs.believed.ModelOf.{IsModelOf}
use Rattle.command_line.specs.believed.Words.{TellsFault, opts_of, settings_in, texts}
use Rattle.command_line.specs.declared.files.FileKind.{FileKind}
use Rattle.command_line.specs.declared.files.FileKind.TheVariants as kinds
use Rattle.pict_cli.specs.believed.Ends.{file_read, file_written}
use Rattle.pict_cli.specs.believed.Modes.{RowSource, model_source, row_source}

abbrev pub asked_by : List (List ℕ) → Result Settings ℕ
asked_by words = settings_in (read_words words)

abbrev pub IsWordFault : List (List ℕ) → ℕ → Type 0
IsWordFault words index = TellsFault (asked_by words) index

-- the name of the model file
abbrev pub model_name : List (List ℕ) → List ℕ
model_name words = slice_index_or words 0 []

abbrev pub model_file : List (String Global) → List ℕ
model_file words = model_name (texts words)

-- the names of the files that the words give a run to read, and to write, where they have a reading
abbrev pub read_of_asked : List ℕ → Result Settings ℕ → FileKind → Option (List ℕ)
read_of_asked name (Ok s) kind = file_read s name kind
read_of_asked name (Err index) kind = None

abbrev pub written_of_asked : List ℕ → Result Settings ℕ → FileKind → Option (List ℕ)
written_of_asked name (Ok s) kind = file_written s name kind
written_of_asked name (Err index) kind = None

abbrev pub file_to_read : List (List ℕ) → FileKind → Option (List ℕ)
file_to_read words kind = read_of_asked (model_name words) (asked_by words) kind

abbrev pub file_to_write : List (List ℕ) → FileKind → Option (List ℕ)
file_to_write words kind = written_of_asked (model_name words) (asked_by words) kind

-- what a run is given: what the words ask for, the bytes of the model, those of the made model or those that the folder
-- tells of the model file, and what the folder tells of the row file
pub record IsGiven (words : List (List ℕ)) (files : Files) (s : Settings) (held : Option (List ℕ)) (source : RowSource) : Type 0 where
  pub asked : asked_by words ≡ Ok s
  pub model : model_source s (model_name words) files ≡ Some held
  pub rows : row_source s files ≡ Some source

-- and the model's bytes are there, are no more than a model file may have, and spell this model
pub record IsSpelled (words : List (List ℕ)) (files : Files) (s : Settings) (source : RowSource) (m : ModelView) : Type 0 where
  pub bytes : List ℕ
  pub notes : List Note
  pub given : IsGiven words files s (Some bytes) source
  pub within : length bytes ≤ most_bytes ModelFile
  pub spelled : IsModelOf (opts_of s) bytes m notes

-- no count of faults of reading rose, of the files that the run is given to read; and none of writing
abbrev pub ReadsCalmly : Settings → List ℕ → FolderSeen → FolderSeen → Type 0
ReadsCalmly s name before after = (kind : FileKind) → ¬ IsSomeAnd (file_read s name kind) (λ file. ReadFaultsRose file before after)

abbrev pub WritesCalmly : Settings → List ℕ → FolderSeen → FolderSeen → Type 0
WritesCalmly s name before after = (kind : FileKind) → ¬ IsSomeAnd (file_written s name kind) (λ file. WriteFaultsRose file before after)

-- neither the count of faults of reading the model file rose, where the run is given to read it, nor that of writing it,
-- where the run is given to write the made model to it
abbrev pub GetsModelCalmly : Settings → List ℕ → FolderSeen → FolderSeen → Type 0
GetsModelCalmly s name before after =
    (¬ IsSomeAnd (file_read s name kinds.Model) (λ file. ReadFaultsRose file before after))
    × (¬ IsSomeAnd (file_written s name kinds.Model) (λ file. WriteFaultsRose file before after))
