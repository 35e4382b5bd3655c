-- What the functions that write a line add to it.
use Rattle.std.specs.Prelude.{◌≡◌, ℕ, Bool, true, false, ◌||◌, List, [], ◌∷◌, ◌++◌, if◌then◌else◌}
use Rattle.std.specs.String.{string_bytes}
use Rattle.constraint_ast.specs.believed.RuleText.{spaced, tree_before}
use Rattle.constraint_ast.specs.believed.Trees.{Tree}
use Rattle.constraint_ast.specs.declared.token.RuleToken.{RuleToken}
use Rattle.constraint_ast.specs.declared.token.RuleToken.TheVariants.{If, Then, OpenParen, CloseParen}
use Rattle.constraint_ast.specs.declared.writer.Line.{Line}
use Rattle.constraint_ast.specs.declared.writer.Place.TheVariants.{Alone}

-- a line with these tokens behind what is written
abbrev pub line_with : Line → List RuleToken → List ℕ
line_with line rest = string_bytes line.text ++ spaced line.opened rest

-- what was written are these tokens, whatever is written behind them
abbrev pub Writes : Line → Line → (List RuleToken → List RuleToken) → Type 0
Writes old new tokens = (rest : List RuleToken) → line_with old (tokens rest) ≡ line_with new rest

-- what was written is a text, behind a blank if one stands before it
abbrev pub Puts : Line → Line → Bool → Bool → List ℕ → Type 0
Puts old new closing opening text =
    (rest : List RuleToken) → string_bytes old.text ++ ((if old.opened || closing then [] else 32 ∷ []) ++ (text ++ spaced opening rest)) ≡ line_with new rest

-- `(` and `)` where parentheses stand
abbrev pub opened_if : Bool → List RuleToken → List RuleToken
opened_if true rest = OpenParen ∷ rest
opened_if false rest = rest

abbrev pub closed_if : Bool → List RuleToken → List RuleToken
closed_if true rest = CloseParen ∷ rest
closed_if false rest = rest

-- IF, a predicate, THEN and a predicate
abbrev pub if_tokens : Tree → Tree → List RuleToken → List RuleToken
if_tokens premise pred rest = If ∷ tree_before Alone premise (Then ∷ tree_before Alone pred rest)
