-- What the steps of a run say of each other: each gives what is called for, unless memory or a device failed.
use Rattle.std.specs.Prelude.{◌≡◌, ℕ, ◌⊎◌, List, Result, Ok, Err}
use Rattle.std.specs.declared.vec.Vec.{Vec}
use Rattle.std.specs.declared.alloc.Global.{Global}
use Rattle.jeldroft_import.specs.believed.Imports.{status_of}
use Rattle.jeldroft_import.specs.declared.cause.ImportCause.{ImportCause}

-- a cause that is called for, or that memory or a device failed
abbrev pub IsDue : Result (List ℕ) ImportCause → ImportCause → Type 0
IsDue called cause = (called ≡ Err cause) ⊎ (status_of cause ≡ 3)

-- a text, or why there is none
abbrev pub Gives : Result (List ℕ) ImportCause → Result (Vec ℕ Global) ImportCause → Type 0
Gives called (Ok text) = called ≡ Ok text.items
Gives called (Err cause) = IsDue called cause

-- the same where the text stands in a buffer
abbrev pub Reads : Result (List ℕ) ImportCause → List ℕ → Result (Unit {0}) ImportCause → Type 0
Reads called bytes (Ok done) = called ≡ Ok bytes
Reads called bytes (Err cause) = IsDue called cause

-- an answer, and an end, by the status of its cause
abbrev pub answer_seen : Result (Vec ℕ Global) ImportCause → Result (List ℕ) ℕ
answer_seen (Ok text) = Ok text.items
answer_seen (Err cause) = Err (status_of cause)

abbrev pub end_status : Result (Unit {0}) ImportCause → ℕ
end_status (Ok done) = 0
end_status (Err cause) = status_of cause
