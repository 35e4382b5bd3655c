-- Which model file a file in the form of ACTS calls for, or which cause for none. (The ACTS guide and PICT's guide; the
-- limit of bytes and the exit statuses are this project's rule.)
use Rattle.std.specs.Prelude.{◌≡◌, ℕ, Bool, List, length, Option, Some, None, Result, Ok, Err, nat_lt, if◌then◌else◌}
use Rattle.definitions.specs.believed.Limits.{ModelFile, most_bytes}
use Rattle.acts_front.specs.believed.Translation.{translation}
use Rattle.acts_front.specs.declared.code.ActsCode.{ActsCode}
use Rattle.jeldroft_import.specs.declared.cause.ImportCause.{ImportCause}
use Rattle.jeldroft_import.specs.declared.cause.ImportCause.TheVariants.{OutOfMemory, CannotRead, TooLong, BadLine, CannotWrite}

-- 3 where memory, the read or the write failed; 2 where the file is wrong
abbrev pub status_of : ImportCause → ℕ
status_of OutOfMemory = 3
status_of CannotRead = 3
status_of TooLong = 2
status_of (BadLine line code) = 2
status_of CannotWrite = 3

-- the bytes that are read where a name holds this, or nothing
abbrev pub bytes_held : Option (List ℕ) → Result (List ℕ) ImportCause
bytes_held None = Err CannotRead
bytes_held (Some bytes) = if nat_lt (most_bytes ModelFile) (length bytes) then Err TooLong else Ok bytes

-- the model file of a translation, or its first refusal
abbrev pub text_of : Result (List ℕ) (ℕ × ActsCode) → Result (List ℕ) ImportCause
text_of (Ok text) = Ok text
text_of (Err (line, code)) = Err (BadLine line code)

abbrev pub text_read : Bool → Result (List ℕ) ImportCause → Result (List ℕ) ImportCause
text_read fold (Ok bytes) = text_of (translation fold bytes)
text_read fold (Err cause) = Err cause

-- the model file that what a name holds calls for, or the cause for none
abbrev pub called_for : Bool → Option (List ℕ) → Result (List ℕ) ImportCause
called_for fold held = text_read fold (bytes_held held)

-- what is called for
abbrev pub Due : Bool → Option (List ℕ) → Result (List ℕ) ImportCause → Type 0
Due fold held called = called_for fold held ≡ called
