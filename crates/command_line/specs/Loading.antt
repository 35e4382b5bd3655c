-- Why the reading of a file may stop. (This project's rules.)
use Rattle.std.specs.Prelude.{◌≡◌, ◌≢◌, ℕ, ◌<◌, List, length, Option, IsSomeAnd}
use Rattle.definitions.specs.believed.Limits.{most_bytes}
use Rattle.row_text.specs.declared.rows_fault.RowsFault.{RowsFault}
use Rattle.command_line.specs.declared.files.FileKind.{FileKind}
use Rattle.command_line.specs.declared.stop.Stop.{Stop}
use Rattle.command_line.specs.declared.stop.Stop.TheVariants.{OutOfMemory, Spent, BadWord, BadRows, NoResult, BadResult, CannotRead, CannotWrite, CannotWriteReport, TooLong}
use Rattle.command_line.specs.believed.Stops.{measured}

-- a file of this kind isn't read: for want of memory, where the folder failed, and where it has more bytes than it may
pub data IsUnread (kind : FileKind) (held : Option (List ℕ)) (stop : Stop) : Type 0 where
  no_room : stop ≡ OutOfMemory → IsUnread kind held stop
  folder_failed : stop ≡ CannotRead kind → IsUnread kind held stop
  has_more : stop ≡ TooLong kind → IsSomeAnd held (λ bytes. most_bytes (measured kind) < length bytes) → IsUnread kind held stop

-- a stop of the reading of a file of this kind: none of the words, of rows or of results, none of a question that is
-- asked, none of what is written, and no other file is read
pub record IsOfReading (kind : FileKind) (stop : Stop) : Type 0 where
  pub words : (index : ℕ) → stop ≢ BadWord index
  pub rows : (fault : RowsFault) → stop ≢ BadRows fault
  pub results : (stop ≢ NoResult) × ((line : ℕ) → stop ≢ BadResult line)
  pub questions : (budget : ℕ) (question : List (ℕ × ℕ)) → stop ≢ Spent budget question
  pub read : (other : FileKind) → stop ≡ CannotRead other → other ≡ kind
  pub writes : (other : FileKind) → stop ≢ CannotWrite other
  pub report : stop ≢ CannotWriteReport
