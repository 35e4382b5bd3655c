-- The sections of a model file: parameter lines, then group lines, then constraint lines. (PICT's
-- guide for the sections, ACTS guide for relations; the details are this project's rules.)
use Rattle.std.specs.Prelude.{◌≡◌, ℕ, ◌-◌, ◌^◌, ◌≤◌, List, [], ◌∷◌, ◌++◌, map, length}
use Rattle.std.specs.Prelude.{Result, Ok, Err}
use Rattle.model_lex.specs.declared.diag.Diag.{Diag}
use Rattle.model_lex.specs.declared.fault.ModelFault.{ModelFault}
use Rattle.model_lex.specs.declared.fault.ModelFault.TheVariants.{Bad, BadRule, Limit, NoMemory}
use Rattle.model_lex.specs.declared.line_kind.LineKind.{LineKind}
use Rattle.model_lex.specs.declared.line_kind.LineKind.TheVariants.{Param, Group, Rule}
use Rattle.model_lex.specs.declared.sections.NumLine.{NumLine}
use Rattle.model_lex.specs.declared.sections.Sections.{Sections}
use Rattle.model_lex.specs.believed.Sections.{Split, sections_of}

-- a line behind the lines of its kind
abbrev pub put_behind : LineKind → ℕ × List ℕ → Split → Split
put_behind Param line split = record split { params = split.params ++ line ∷ [] }
put_behind Group line split = record split { groups = split.groups ++ line ∷ [] }
put_behind Rule line split = record split { rules = split.rules ++ line ∷ [] }

-- the numbers and texts that sections hold
abbrev pub line_seen : NumLine → ℕ × List ℕ
line_seen line = (line.line, line.text.now)

abbrev pub split_seen : Sections → Split
split_seen sections = record { params = map line_seen sections.params; groups = map line_seen sections.groups; rules = map line_seen sections.rules }

-- what an answer says of a file: its sections, or its first refusal
abbrev pub Splits : Result Split Diag → Result Sections ModelFault → Type 0
Splits split (Ok sections) = split ≡ Ok (split_seen sections)
Splits split (Err (Bad diag)) = split ≡ Err diag
Splits split (Err (BadRule diag)) = ⊥
Splits split (Err (Limit limit count)) = ⊥
Splits split (Err NoMemory) = Unit {0}

-- the sections are those of some model file
abbrev pub AreSections : Sections → Type 0
AreSections sections = (bytes : List ℕ) × (length bytes ≤ 2 ^ 28) × (sections_of bytes ≡ Ok (split_seen sections))
