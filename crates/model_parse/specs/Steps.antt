-- Working notions: reading in steps, where the first step that is refused refuses the whole.
use Rattle.std.specs.Prelude.{ℕ, List, [], ◌∷◌, Option, Some, None, Result, Ok, Err}
use Rattle.model_lex.specs.declared.diag.DiagCode.{DiagCode}
use Rattle.model_lex.specs.declared.fault.ModelFault.{ModelFault}
use Rattle.model_lex.specs.declared.fault.ModelFault.TheVariants.{Bad}

-- a line is refused
abbrev pub refused : {A : Type 0} → ℕ → DiagCode → Result A ModelFault
refused line code = Err (Bad (record { line = line; code = code }))

-- a line is refused where there is a code, else something follows
abbrev pub refused_or : {A : Type 0} → ℕ → Option DiagCode → Result A ModelFault → Result A ModelFault
refused_or line (Some code) otherwise = refused line code
refused_or line None otherwise = otherwise

-- a step behind one that may be refused
abbrev pub and_then : {A B : Type 0} → Result A ModelFault → (A → Result B ModelFault) → Result B ModelFault
and_then (Ok a) next = next a
and_then (Err fault) next = Err fault

-- a step for each item in order
abbrev pub and_each : {A X : Type 0} → (A → X → Result A ModelFault) → A → List X → Result A ModelFault
and_each step a [] = Ok a
and_each step a (x ∷ xs) = and_then (step a x) (λ next. and_each step next xs)
