-- What is promised of a run of `pict`, by what the folder, the output and the messages tell before and after. (This
-- project's rules; what is printed follows PICT's guide.)
use Rattle.std.specs.Prelude.{◌≡◌, ◌≢◌, ◌⊎◌, ℕ, ◌<◌, ◌≤◌, List, length, Option, Some, None, Ok, IsSomeAnd, true}
use Rattle.outside_io.specs.believed.Seen.{FolderSeen, SinkSeen, KeepsReadFaults, KeepsWriteFaults, ReadFaultsRose, WriteFaultsRose, PutFaultsRose}
use Rattle.cov_model.specs.believed.Sound.{ModelView}
use Rattle.definitions.specs.declared.effort.Effort.TheVariants.{Full}
use Rattle.definitions.specs.believed.Limits.{ModelFile, most_bytes}
use Rattle.definitions.specs.believed.Settings.{Settings}
use Rattle.model_lex.specs.declared.fault.ModelFault.{ModelFault}
use Rattle.type_check.specs.believed.ModelOf.{IsRefusalOf}
use Rattle.command_line.specs.believed.Stops.{status_of}
use Rattle.command_line.specs.believed.Words.{opts_of}
use Rattle.command_line.specs.declared.files.FileKind.{FileKind}
use Rattle.command_line.specs.declared.files.FileKind.TheVariants as kinds
use Rattle.command_line.specs.declared.stop.Stop.{Stop}
use Rattle.pict_cli.specs.believed.Ends.{KeepsOthers, KeepsUnwritten}
use Rattle.pict_cli.specs.believed.Modes.{RowSource, RowsHeld, model_source, prints_rows}
use Rattle.pict_cli.specs.believed.Runs.{HasModel, HoldsWholeProof, IsStatus, PrintsSuite, fault_status, limit_due, rows_of_run, stop_due, told_proof}
use Rattle.pict_cli.specs.believed.Words.{GetsModelCalmly, IsGiven, IsSpelled, ReadsCalmly, WritesCalmly, asked_by, file_to_read, file_to_write, model_name}

-- what the folder, the output and the messages tell at one moment
pub record World : Type 0 where
  pub folder : FolderSeen
  pub out : SinkSeen
  pub diag : SinkSeen

abbrev pub world : FolderSeen → SinkSeen → SinkSeen → World
world folder out diag = record { folder = folder; out = out; diag = diag }

-- what is printed is the suite of the model that the model file spells. Premises: the run is given s and prints rows;
-- the folder tells what its files held, and the output what it held before
abbrev pub Covers : List (List ℕ) → World → World → Type 0
Covers words before after = (s : Settings) (held : Option (List ℕ)) (source : RowSource) → IsGiven words before.folder.files s held source → prints_rows s ≡ true
    → HasModel (opts_of s) held (λ m notes. (old : List ℕ) → before.out.written ≡ Some old
    → IsSomeAnd after.out.written (PrintsSuite s m source (told_proof s after.folder.files) old))

-- the proof file holds the proof of the suite: the omitted tuples in their order, each with an eager tree; and these are
-- exactly the demanded tuples that no row serves, each once. Premises: the run is given s; the folder tells what its
-- files held, and the proof file's name at the end
abbrev pub Proves : List (List ℕ) → ℕ → World → World → Type 0
Proves words seed before after = (s : Settings) (held proof : Option (List ℕ)) (source : RowSource) → IsGiven words before.folder.files s held source
    → told_proof s after.folder.files ≡ Some proof → HasModel (opts_of s) held (λ m notes. HoldsWholeProof s seed m (rows_of_run s m source) proof)

-- which status a run ends with. Premises of the fields from `complete` to `missing`: the words ask for s; the folder
-- tells what the model file held, unless the run makes its model, and, of `complete`, `stopped` and `missing_rows`, what
-- the row file held; and of all but `missing`: no count of faults of reading rose, of the files that the run reads (of
-- `missing_rows`, `refused` and `too_long`: of the model file), nor that of writing the made model
pub record HasStatus (words : List (List ℕ)) (seed : ℕ) (before after : World) (status : ℕ) : Type 0 where
  -- none but the known ones; 3 only where the words have no reading, and 2 only where there is a budget
  pub known : IsStatus status
  pub worded : (s : Settings) → asked_by words ≡ Ok s → status ≢ 3
  pub answered : (s : Settings) → asked_by words ≡ Ok s → s.effort ≡ Full → status ≢ 2
  -- 0 or 1 where a model is spelled, the run needn't stop, and nothing is written with a fault
  pub complete : (s : Settings) (source : RowSource) (m : ModelView) → IsSpelled words before.folder.files s source m → stop_due s seed m source ≡ None
      → ReadsCalmly s (model_name words) before.folder after.folder → WritesCalmly s (model_name words) before.folder after.folder
      → ¬ PutFaultsRose before.out after.out → (status ≡ 0) ⊎ (status ≡ 1)
  -- that of the stop where it must stop: by the first limit that is passed, else at the row file that is refused or has
  -- too many bytes, else at the first question above the budget or by too many candidates
  pub stopped : (s : Settings) (source : RowSource) (m : ModelView) (stop : Stop) → IsSpelled words before.folder.files s source m → stop_due s seed m source ≡ Some stop
      → ReadsCalmly s (model_name words) before.folder after.folder → GetsModelCalmly s (model_name words) before.folder after.folder
      → (status ≡ status_of stop) ⊎ (status ≡ 1)
  -- 7 where the row file is missing, and no limit is passed
  pub missing_rows : (s : Settings) (m : ModelView) → IsSpelled words before.folder.files s (RowsHeld None) m → limit_due s m ≡ None
      → GetsModelCalmly s (model_name words) before.folder after.folder → (status ≡ 7) ⊎ (status ≡ 1)
  -- that of the refusal where a model within the bytes of a model file is refused
  pub refused : (s : Settings) (bytes : List ℕ) (fault : ModelFault) → asked_by words ≡ Ok s → model_source s (model_name words) before.folder.files ≡ Some (Some bytes)
      → length bytes ≤ most_bytes ModelFile → IsRefusalOf (opts_of s) bytes fault
      → GetsModelCalmly s (model_name words) before.folder after.folder → (status ≡ fault_status fault) ⊎ (status ≡ 1)
  -- 9 where a model file has more bytes than it may have, and 7 where there is none
  pub too_long : (s : Settings) (bytes : List ℕ) → asked_by words ≡ Ok s → model_source s (model_name words) before.folder.files ≡ Some (Some bytes) → most_bytes ModelFile < length bytes
      → GetsModelCalmly s (model_name words) before.folder after.folder → (status ≡ 9) ⊎ (status ≡ 1)
  pub missing : (s : Settings) → asked_by words ≡ Ok s → model_source s (model_name words) before.folder.files ≡ Some None → (status ≡ 7) ⊎ (status ≡ 1)
  -- 7 comes only where the count of faults of reading a file rose that the words give the run to read
  pub read : status ≡ 7 → (kind : FileKind) × IsSomeAnd (file_to_read words kind) (λ name. ReadFaultsRose name before.folder after.folder)
  -- 8 comes only where that of the output rose, or that of writing a file that they give it to write, and then the
  -- output got nothing
  pub write : status ≡ 8 → PutFaultsRose before.out after.out
      ⊎ ((after.out ≡ before.out) × ((kind : FileKind) × IsSomeAnd (file_to_write words kind) (λ name. WriteFaultsRose name before.folder after.folder)))

-- what a run leaves as it was, whatever is told
pub record Unchanged (words : List (List ℕ)) (before after : World) (status : ℕ) : Type 0 where
  -- with a status but 0 and 8 the output got nothing
  pub out : status ≢ 0 → status ≢ 8 → after.out ≡ before.out
  -- no name changes but those of the files that the words give the run to write, and with a status but 0 and 8 none but
  -- that of the made model: the proof file is written once there is a suite
  pub files : KeepsUnwritten (file_to_write words) before.folder after.folder
  pub unwritten : status ≢ 0 → status ≢ 8 → KeepsOthers (file_to_write words kinds.Model) before.folder after.folder
  -- 7 alone changes the counts of faults of reading, and 8 alone those of writing and that of the output
  pub read_faults : status ≢ 7 → KeepsReadFaults before.folder after.folder
  pub write_faults : status ≢ 8 → KeepsWriteFaults before.folder after.folder
  pub put_faults : status ≢ 8 → after.out.faults ≡ before.out.faults
