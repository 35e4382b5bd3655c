-- The words behind a program's name, as texts, and what they ask for. (PICT's guide; how a fault is told is this project's rule.)
use Rattle.std.specs.Prelude.{◌≡◌, ℕ, ◌-◌, ◌^◌, min, Option, Some}

-- there is a fault, and it is told so
abbrev pub HasFault : Option ℕ → ℕ → Type 0
HasFault fault index = (n : ℕ) × (fault ≡ Some n) × (index ≡ min n (2 ^ 32 - 1))
