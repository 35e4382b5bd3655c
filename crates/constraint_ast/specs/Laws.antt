-- What holds of the definitions together. (This project's rules.)
use Rattle.std.specs.Prelude.{true, false, ◌≡◌, ◌⊎◌, ℕ, List, [], ◌∷◌, Ok, All}
use Rattle.std.specs.List.{list_any}
use Rattle.model_lex.specs.believed.Lines.{is_line_feed, without_return}
use Rattle.model_lex.specs.believed.Sections.{Split, opens_rule, sections_of}
use Rattle.model_lex.specs.declared.diag.Diag.{Diag}
use Rattle.constraint_ast.specs.believed.Trees.{RuleTree}
use Rattle.constraint_ast.specs.believed.Grammar.{AreRules, Refused}
use Rattle.constraint_ast.specs.believed.Lexing.{AreRefused, Spell}
use Rattle.constraint_ast.specs.RuleText.{rule_at}
use Rattle.constraint_ast.specs.believed.RuleText.{rule_text}
use Rattle.constraint_ast.specs.declared.token.LineToken.{LineToken}

-- tokens spell at most one list of constraints
abbrev pub OneReading : ℕ → List LineToken → Type 0
OneReading room tokens = (rules others : List RuleTree) → AreRules room tokens rules → AreRules room tokens others → rules ≡ others

-- what spells constraints is not refused
abbrev pub ReadOrRefused : ℕ → List LineToken → Type 0
ReadOrRefused room tokens = (rules : List RuleTree) (diag : Diag) → AreRules room tokens rules → ¬ (Refused room tokens diag)

-- tokens are refused at one place at most, with one code
abbrev pub OneRefusal : ℕ → List LineToken → Type 0
OneRefusal room tokens = (diag other : Diag) (one : Refused room tokens diag) (two : Refused room tokens other) → (one.front ≡ two.front) × (diag ≡ other)

-- tokens spell constraints, or they are refused
abbrev pub SomeReading : ℕ → List LineToken → Type 0
SomeReading room tokens = ((rules : List RuleTree) × AreRules room tokens rules) ⊎ ((diag : Diag) × Refused room tokens diag)

-- the grammar reads each list of tokens in exactly one way
abbrev pub GrammarHasOneReading : Type 0
GrammarHasOneReading = (room : ℕ) (tokens : List LineToken) → OneReading room tokens × ReadOrRefused room tokens × OneRefusal room tokens × SomeReading room tokens

-- so does it constraint lines, each a number and a text
pub record HaveOneReading (lines : List (ℕ × List ℕ)) : Type 0 where
  pub one_reading : (rules others : List RuleTree) → Spell lines rules → Spell lines others → rules ≡ others
  pub read_or_refused : (rules : List RuleTree) (diag : Diag) → Spell lines rules → ¬ (AreRefused lines diag)
  pub one_refusal : (diag other : Diag) → AreRefused lines diag → AreRefused lines other → diag ≡ other
  pub some_reading : ((rules : List RuleTree) × Spell lines rules) ⊎ ((diag : Diag) × AreRefused lines diag)

abbrev pub LinesHaveOneReading : Type 0
LinesHaveOneReading = (lines : List (ℕ × List ℕ)) → HaveOneReading lines

-- the line of a constraint that some lines spell, read as the only one, spells the constraint again, at this line
abbrev pub RuleTextReadsBack : Type 0
RuleTextReadsBack = (lines : List (ℕ × List ℕ)) (rules : List RuleTree) (line : ℕ)
    → Spell lines rules → All (λ rule. Spell ((line, rule_text rule) ∷ []) (rule_at line rule ∷ [])) rules

-- a text is one line of a file: no line feed stands in it, and no carriage return at its end, which would be left out
pub record IsOneLine (text : List ℕ) : Type 0 where
  pub unbroken : list_any is_line_feed text ≡ false
  pub whole : without_return text ≡ text

-- the line of a constraint that a model file spells is one line of a file
abbrev pub RuleTextIsOneLine : Type 0
RuleTextIsOneLine = (bytes : List ℕ) (split : Split) (rules : List RuleTree)
    → sections_of bytes ≡ Ok split → Spell split.rules rules → All (λ rule. IsOneLine (rule_text rule)) rules

-- and it opens the constraints of a file
abbrev pub RuleTextOpens : Type 0
RuleTextOpens = (lines : List (ℕ × List ℕ)) (rules : List RuleTree) → Spell lines rules → All (λ rule. opens_rule (rule_text rule) ≡ true) rules
