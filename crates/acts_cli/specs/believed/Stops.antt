-- Why a run may end before its file is written whole: its status, and its line on standard error.
-- (This project's rules.)
use Rattle.std.specs.Prelude.{◌≡◌, ℕ, true, List, [], ◌∷◌, ◌==◌, Result, Ok, Err}
use Rattle.std.specs.List.{list_any}
use Rattle.definitions.specs.believed.Limits.{ModelFile}
use Rattle.definitions.specs.believed.Diagnostics.{bytes_limit_line, cannot_read_line, cannot_write_line, memory_line, model_line}
use Rattle.acts_front.specs.believed.Codes.{acts_code, acts_text, refusal_status}
use Rattle.acts_cli.specs.declared.stop.Stop.{Stop}
use Rattle.acts_cli.specs.declared.stop.Stop.TheVariants.{OutOfMemory, Refused, CannotRead, CannotWrite, TooLong}

abbrev pub status_of : Stop → ℕ
status_of OutOfMemory = 1
status_of (Refused line code) = refusal_status code
status_of CannotRead = 7
status_of CannotWrite = 8
status_of TooLong = 9

-- the line, where the file that is read and the one that is written have these names
abbrev pub line_of : Stop → List ℕ → List ℕ → List ℕ
line_of OutOfMemory input output = memory_line
line_of (Refused line code) input output = model_line line (acts_code code) (acts_text code)
line_of CannotRead input output = cannot_read_line input
line_of CannotWrite input output = cannot_write_line output
line_of TooLong input output = bytes_limit_line ModelFile

-- the status of a run: 0 where it came to its end, else that of its stop
abbrev pub end_status : Result (Unit {0}) Stop → ℕ
end_status (Ok done) = 0
end_status (Err stop) = status_of stop

-- the line of the stop, if there is one
abbrev pub end_text : Result (Unit {0}) Stop → List ℕ → List ℕ → List ℕ
end_text (Ok done) input output = []
end_text (Err stop) input output = line_of stop input output

-- the statuses that a run may end with
abbrev pub IsStatus : ℕ → Type 0
IsStatus status = list_any (λ s. s == status) (0 ∷ 1 ∷ 3 ∷ 4 ∷ 5 ∷ 7 ∷ 8 ∷ 9 ∷ []) ≡ true
