-- A sink in memory. (This project's rule.)
use Rattle.std.specs.Prelude.{ℕ, List}

-- the bytes written, how many more fit, and the faults so far
pub record SinkInMemory : Type 0 where
  pub bytes : List ℕ
  pub room : ℕ
  pub faults : ℕ
