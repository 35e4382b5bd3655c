-- Text that goes to a sink through a buffer. (This project's rule.)
use Rattle.std.specs.Prelude.{◌≡◌, ℕ, zero, suc, Bool, true, false, Option, List, [], ◌∷◌, ◌++◌}
use Rattle.outside_io.specs.declared.answers.WriteAnswer.{WriteAnswer}
use Rattle.outside_io.specs.declared.answers.WriteAnswer.TheVariants.{Done, Failed}
use Rattle.outside_io.specs.believed.Seen.{SinkSeen}
use Rattle.outside_io.specs.believed.Puts.{Puts}

-- a buffer: the bytes that are held back, and whether a fault came
pub record Buffered : Type 0 where
  pub held : List ℕ
  pub failed : Bool

abbrev pub empty_buffer : Buffered
empty_buffer = record { held = []; failed = false }

-- since the start this text was written to the buffer: the sink was asked for all of it but for what
-- is held, without a fault; or a fault came
abbrev pub HoldsRest : Bool → List ℕ → SinkSeen → SinkSeen → List ℕ → Type 0
HoldsRest false held start now text = (sent : List ℕ) × (text ≡ sent ++ held) × Puts Done start now sent
HoldsRest true held start now text = Puts Failed start now text

abbrev pub Holds : SinkSeen → Buffered → SinkSeen → List ℕ → Type 0
Holds start buffer now text = HoldsRest buffer.failed buffer.held start now text

-- from one state of buffer and sink to another this text was written, behind whatever was before
pub record Adds (buffer : Buffered) (now : SinkSeen) (buffer_after : Buffered) (after : SinkSeen) (text : List ℕ) : Type 0 where
  pub goes_on : (start : SinkSeen) (before : List ℕ) → Holds start buffer now before → Holds start buffer_after after (before ++ text)

-- what stands before a cell in its line: a tab, unless it is the first
abbrev pub separator : ℕ → List ℕ
separator zero = []
separator (suc place) = 9 ∷ []
