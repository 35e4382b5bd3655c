-- The file of events: a line declares an event by its name, or gives a precedence as `name < name`.
-- (This project's rules.)
use Rattle.std.specs.Prelude.{ℕ, Bool, ◌&&◌, List, [], ◌∷◌, ◌++◌, drop, length, Option, Some, None, is_some}
use Rattle.std.specs.Prelude.{Result, Ok, Err, ◌==◌, nat_eq, nat_lt, codes, position, if◌then◌else◌}
use Rattle.std.specs.List.{flat_map, before_first, after_first, starts_with}
use Rattle.std.specs.Option.{option_map, option_or}
use Rattle.std.specs.Str.{bytes_eq}
use Rattle.model_lex.specs.believed.Lines.{numbered_lines}
use Rattle.model_lex.specs.believed.Sections.{is_ignored}
use Rattle.seq_check.specs.believed.Events.{EventsView, is_name}
use Rattle.seq_check.specs.declared.fault.EventCode.{EventCode}
use Rattle.seq_check.specs.declared.fault.EventCode.TheVariants.{Q1, Q2, Q3, Q4, Q5}
use Rattle.seq_check.specs.declared.fault.EventLimit.{EventLimit}
use Rattle.seq_check.specs.declared.fault.EventLimit.TheVariants as limits
use Rattle.seq_check.specs.declared.fault.EventsFault.{EventsFault}
use Rattle.seq_check.specs.declared.fault.EventsFault.TheVariants.{Bad, TooMany}

-- what a line is: blanks or a comment, the name of an event, the names of a precedence, or none of these
pub data Line : Type 0 where
  Ignored : Line
  Event : List ℕ → Line
  Precedence : List ℕ → List ℕ → Line
  Neither : Line

abbrev pub is_space : ℕ → Bool
is_space byte = byte == 32

-- a precedence: a name, ` < `, a name
abbrev pub precedence_in : List ℕ → Line
precedence_in text =
    let behind = after_first is_space text in
    if is_name (before_first is_space text) && starts_with nat_eq behind (codes "< ") && is_name (drop 2 behind)
    then Precedence (before_first is_space text) (drop 2 behind) else Neither

abbrev pub line_of : List ℕ → Line
line_of text = if is_ignored text then Ignored else if is_name text then Event text else precedence_in text

-- the number of the event with a name, where there is one
abbrev pub number_of : List (List ℕ) → List ℕ → Option ℕ
number_of names name = position (bytes_eq name) names

abbrev pub both : Option ℕ → Option ℕ → Option (ℕ × ℕ)
both (Some first) (Some second) = Some (first, second)
both (Some first) None = None
both None second = None

-- the names that a line declares
abbrev pub names_in : Line → List (List ℕ)
names_in Ignored = []
names_in (Event name) = name ∷ []
names_in (Precedence first second) = []
names_in Neither = []

-- the precedences that a line gives, behind lines that declare these names
abbrev pub pairs_in : List (List ℕ) → Line → List (ℕ × ℕ)
pairs_in names Ignored = []
pairs_in names (Event name) = []
pairs_in names (Precedence first second) = listed (both (number_of names first) (number_of names second))
  where
    listed : Option (ℕ × ℕ) → List (ℕ × ℕ)
    listed (Some pair) = pair ∷ []
    listed None = []
pairs_in names Neither = []

-- why a line is refused, behind lines that declare these names
abbrev pub refusal : List (List ℕ) → Line → Option EventCode
refusal names Ignored = None
refusal names (Event name) = if is_some (number_of names name) then Some Q2 else None
refusal names (Precedence first second) = if is_some (both (number_of names first) (number_of names second)) then None else Some Q3
refusal names Neither = Some Q1

-- the first line of a list that is refused, behind lines that declare these names
abbrev pub first_refusal : List (List ℕ) → List (ℕ × List ℕ) → Option (ℕ × EventCode)
first_refusal names [] = None
first_refusal names (line ∷ lines) =
    option_or (option_map (λ code. (line.0, code)) (refusal names (line_of line.1))) (first_refusal (names ++ names_in (line_of line.1)) lines)

-- all names that lines declare, and all precedences that they give
abbrev pub declared : List (ℕ × List ℕ) → List (List ℕ)
declared lines = flat_map (λ line. names_in (line_of line.1)) lines

abbrev pub precedences : List (List ℕ) → List (ℕ × List ℕ) → List (ℕ × ℕ)
precedences names [] = []
precedences names (line ∷ lines) = pairs_in names (line_of line.1) ++ precedences (names ++ names_in (line_of line.1)) lines

-- the number of the last line that declares an event; the first number where none does
abbrev pub last_declaring : ℕ → List (ℕ × List ℕ) → ℕ
last_declaring last [] = last
last_declaring last (line ∷ lines) = last_declaring (if length (names_in (line_of line.1)) == 0 then last else line.0) lines

-- the most events and precedences
abbrev pub most : EventLimit → ℕ
most limits.Events = 64
most limits.Precedences = 4096

-- what names, precedences and the last declaring line are, once no line is refused
abbrev pub events_with : ℕ → List (List ℕ) → List (ℕ × ℕ) → ℕ → Result EventsView EventsFault
events_with len names pairs last =
    if length names == 0 then Err (Bad 1 Q4)
    else if nat_lt (most limits.Events) (length names) then Err (TooMany limits.Events (length names))
    else if nat_lt (most limits.Precedences) (length pairs) then Err (TooMany limits.Precedences (length pairs))
    else if nat_lt (length names) len then Err (Bad last Q5)
    else Ok (record { names = names; precedences = pairs; len = len })

abbrev pub events_unless : Option (ℕ × EventCode) → Result EventsView EventsFault → Result EventsView EventsFault
events_unless (Some refused) events = Err (Bad refused.0 refused.1)
events_unless None events = events

-- the events of lines: the first line that is refused is told, and else what is refused of all together
abbrev pub events_in : ℕ → List (ℕ × List ℕ) → Result EventsView EventsFault
events_in len lines = events_unless (first_refusal [] lines) (events_with len (declared lines) (precedences [] lines) (last_declaring 0 lines))

-- the events of a file, for sequences of this length, or its first refusal
abbrev pub events_of : ℕ → List ℕ → Result EventsView EventsFault
events_of len bytes = events_in len (numbered_lines bytes)
