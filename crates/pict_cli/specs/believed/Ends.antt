-- How a run ends, as far as files and output tell: whole, by a file that couldn't be read or written, by the output
-- that couldn't, by its words, by a question above the budget, or by any other stop. (This project's rules.)
use Rattle.std.specs.Prelude.{◌≡◌, ◌≢◌, ℕ, List, Option, Some, None, Result, Ok, Err, IsSomeAnd, option_map}
use Rattle.outside_io.specs.declared.answers.WriteAnswer.TheVariants.{Done, Failed}
use Rattle.outside_io.specs.believed.Seen.{FolderSeen, SinkSeen, KeepsReadFaults, KeepsWriteFaults, ReadFaultsRose, WriteFaultsRose, PutFaultsRose}
use Rattle.outside_io.specs.believed.Puts.{Puts}
use Rattle.definitions.specs.believed.Settings.{Settings}
use Rattle.command_line.specs.declared.files.FileKind.{FileKind}
use Rattle.command_line.specs.declared.files.FileKind.TheVariants as kinds
use Rattle.command_line.specs.declared.stop.Stop.{Stop}
use Rattle.command_line.specs.declared.stop.Stop.TheVariants.{BadWord, CannotRead, CannotWrite, CannotWriteReport, Spent}
use Rattle.pict_cli.specs.believed.Modes.{row_file}

pub data End : Type 0 where
  Whole : End
  Unread : FileKind → End
  Unwritten : FileKind → End
  Unprinted : End
  Misworded : End
  Unanswered : End
  Stopped : End

abbrev pub end_of : Result (Unit {0}) Stop → End
end_of (Ok done) = Whole
end_of (Err (CannotRead kind)) = Unread kind
end_of (Err (CannotWrite kind)) = Unwritten kind
end_of (Err CannotWriteReport) = Unprinted
end_of (Err (BadWord index)) = Misworded
end_of (Err (Spent budget question)) = Unanswered
end_of (Err stop) = Stopped

-- the name of the model file, where it is read: a run that makes its model writes it
abbrev pub read_unless_made : Option ℕ → List ℕ → Option (List ℕ)
read_unless_made None name = Some name
read_unless_made (Some n) name = None

-- the names of the files that a run on the model file of this name is given to read, and to write
abbrev pub file_read : Settings → List ℕ → FileKind → Option (List ℕ)
file_read s name kinds.Model = read_unless_made s.make name
file_read s name kinds.Rows = row_file s
file_read s name kinds.Proof = None

abbrev pub file_written : Settings → List ℕ → FileKind → Option (List ℕ)
file_written s name kinds.Model = option_map (λ n. name) s.make
file_written s name kinds.Rows = None
file_written s name kinds.Proof = s.proof

-- what the output got by such an end: all of the text, or up to a fault, or nothing
abbrev pub Prints : List ℕ → SinkSeen → SinkSeen → End → Type 0
Prints text before after Whole = Puts Done before after text
Prints text before after Unprinted = Puts Failed before after text
Prints text before after end = after ≡ before

-- the count of faults of the output: it rose where the output couldn't be written, and else it stays
abbrev pub CountsOut : End → SinkSeen → SinkSeen → Type 0
CountsOut Unprinted before after = PutFaultsRose before after
CountsOut end before after = after.faults ≡ before.faults

-- the counts of faults of reading files: that of a file of the run rose where it couldn't be read, and else all stay
abbrev pub CountsReads : Settings → List ℕ → End → FolderSeen → FolderSeen → Type 0
CountsReads s name (Unread kind) before after = IsSomeAnd (file_read s name kind) (λ file. ReadFaultsRose file before after)
CountsReads s name end before after = KeepsReadFaults before after

-- the counts of faults of writing files, in the same way
abbrev pub CountsWrites : Settings → List ℕ → End → FolderSeen → FolderSeen → Type 0
CountsWrites s name (Unwritten kind) before after = IsSomeAnd (file_written s name kind) (λ file. WriteFaultsRose file before after)
CountsWrites s name end before after = KeepsWriteFaults before after

-- every name but these keeps what it holds, and stays told or untold
abbrev pub KeepsOthers : Option (List ℕ) → FolderSeen → FolderSeen → Type 0
KeepsOthers written before after = (name : List ℕ) → written ≢ Some name → after.files name ≡ before.files name

-- every name but those of the files that are written keeps what it holds, and stays told or untold
abbrev pub KeepsUnwritten : (FileKind → Option (List ℕ)) → FolderSeen → FolderSeen → Type 0
KeepsUnwritten written before after = (name : List ℕ) → ((kind : FileKind) → written kind ≢ Some name) → after.files name ≡ before.files name

-- the folder and the output at one moment
pub record Moment : Type 0 where
  pub folder : FolderSeen
  pub out : SinkSeen

abbrev pub moment : FolderSeen → SinkSeen → Moment
moment folder out = record { folder = folder; out = out }
