-- What the rules of the lines are said with: each item beside the items before it, and the first refusal.
use Rattle.std.specs.Prelude.{ℕ, List, [], ◌∷◌, ◌++◌, Option, Some, None, Result, Ok, Err, nat_lt, if◌then◌else◌}
use Rattle.std.specs.Option.{option_or}
use Rattle.model_lex.specs.believed.Codes.{most_of}
use Rattle.model_lex.specs.declared.diag.DiagCode.{DiagCode}
use Rattle.model_lex.specs.declared.fault.LimitName.{LimitName}
use Rattle.model_lex.specs.declared.fault.ModelFault.{ModelFault}
use Rattle.model_lex.specs.declared.fault.ModelFault.TheVariants.{Bad, Limit}

-- each item with the items before it, where these stand before all
abbrev pub with_earlier : {A : Type 0} → List A → List A → List (List A × A)
with_earlier before [] = []
with_earlier before (item ∷ items) = (before, item) ∷ with_earlier (before ++ item ∷ []) items

-- the first that there is
abbrev pub first_some : {A : Type 0} → List (Option A) → Option A
first_some [] = None
first_some (one ∷ more) = option_or one (first_some more)

-- a line is refused with a code
abbrev pub bad_line : ℕ → DiagCode → ModelFault
bad_line line code = Bad (record { line = line; code = code })

-- a count is above its limit
abbrev pub above : LimitName → ℕ → Option ModelFault
above limit count = if nat_lt (most_of limit) count then Some (Limit limit count) else None

-- what is read, unless it is refused
abbrev pub read_unless : {A : Type 0} → Option ModelFault → A → Result A ModelFault
read_unless (Some fault) read = Err fault
read_unless None read = Ok read
