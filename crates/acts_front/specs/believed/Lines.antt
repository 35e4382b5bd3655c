-- The lines of a file in the form of ACTS: which bytes they may have, what is left of one without its comment,
-- and the headers of sections. (The ACTS guide for the sections; the rest is this project's rule.)
use Rattle.std.specs.Prelude.{ℕ, Bool, false, not, ◌&&◌, ◌||◌, List, [], ◌∷◌, Option, Some, None, ◌==◌, nat_le, nat_lt, if◌then◌else◌, codes}
use Rattle.std.specs.Str.{str_eq_ignore_ascii_case}
use Rattle.model_lex.specs.believed.Blanks.{trimmed}
use Rattle.model_parse.specs.believed.Pieces.{begins_with}
use Rattle.acts_front.specs.declared.section.Section.{Section}
use Rattle.acts_front.specs.declared.section.Section.TheVariants.{Outside, System, Parameters, Relations, Constraints}

-- a tab, or a character from the space to `~`
abbrev pub is_allowed : ℕ → Bool
is_allowed byte = (byte == 9) || (nat_le 32 byte && nat_le byte 126)

-- what stands before the first `--` outside double quotes; `quoted` is whether the first byte is inside them
abbrev pub before_comment : Bool → List ℕ → List ℕ
before_comment quoted [] = []
before_comment quoted (b ∷ []) = b ∷ []
before_comment quoted (b ∷ next ∷ rest) =
    if not quoted && (b == 45) && (next == 45) then []
    else b ∷ before_comment (if b == 34 then not quoted else quoted) (next ∷ rest)

-- the text of a line: it ends before the comment, and has no blanks at its ends
abbrev pub line_text : List ℕ → List ℕ
line_text line = trimmed (before_comment false line)

-- the sections in their order; the first is that of the lines before all headers
abbrev pub place_of : Section → ℕ
place_of Outside = 0
place_of System = 1
place_of Parameters = 2
place_of Relations = 3
place_of Constraints = 4

-- the section of a header, in any case
abbrev pub headed : List ℕ → Option Section
headed text =
    if str_eq_ignore_ascii_case text (codes "[System]") then Some System
    else if str_eq_ignore_ascii_case text (codes "[Parameter]") then Some Parameters
    else if str_eq_ignore_ascii_case text (codes "[Relation]") then Some Relations
    else if str_eq_ignore_ascii_case text (codes "[Constraint]") then Some Constraints
    else None

-- the section that a text begins behind lines of another: a header stands behind those of the sections before it
abbrev pub behind : Section → Option Section → Option Section
behind section (Some next) = if nat_lt (place_of section) (place_of next) then Some next else None
behind section None = None

abbrev pub begun : Section → List ℕ → Option Section
begun section text = behind section (headed text)

-- a text that begins with `[` has to be a header
abbrev pub is_heading : List ℕ → Bool
is_heading text = begins_with 91 text
