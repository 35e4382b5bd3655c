-- What a sink has done after it was asked for one text, or for several in a row that join to it.
-- The bytes written and the room left are None where the sink doesn't tell them.
-- (This project's rule.)
use Rattle.std.specs.Prelude.{ℕ, ◌-◌, Bool, Option, List}

-- a sink over a stream: what the stream says that it holds, None where it says nothing, the faults
-- so far, and whether the last was that the reader of the bytes had gone away
pub record StreamState : Type 0 where
  pub contents : Option (List ℕ)
  pub faults : ℕ
  pub gone : Bool
