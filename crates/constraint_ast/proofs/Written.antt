-- What is written of a line, token by token.
use Rattle.std.proofs.Common.{◌≡◌, ℕ, suc, ◌+◌, ◌<◌, Bool, true, false, List, [], ◌∷◌, length, drop, get_or, refl, ap, sym, ◌∙◌, drop-cons, add-one}
use Rattle.std.specs.Prelude.{Result, Ok, Err, OnOk}
use Rattle.constraint_ast.specs.believed.RuleText.{in_parens, more_literals}
use Rattle.constraint_ast.specs.Writing.{Writes, closed_if, line_with, opened_if}
use Rattle.constraint_ast.specs.declared.token.RuleToken.{RuleToken}
use Rattle.constraint_ast.specs.declared.token.RuleToken.TheVariants.{Literal, Comma}
use Rattle.constraint_ast.specs.declared.tree.RawLiteral.{RawLiteral}
use Rattle.constraint_ast.specs.declared.writer.Line.{Line}

-- of some tokens these are left to write, whatever is written behind them
abbrev pub Leaves : Line → (List RuleToken → List RuleToken) → Line → (List RuleToken → List RuleToken) → Type 0
Leaves old tokens now left = (rest : List RuleToken) → line_with old (tokens rest) ≡ line_with now (left rest)

-- the last tokens are written
pub ends :
    {E : Type 0} (result : Result (Unit {0}) E) (old now new : Line) (tokens left : List RuleToken → List RuleToken) → Leaves old tokens now left → OnOk result (Writes now new left)
    → OnOk result (Writes old new tokens)
ends (Ok done) old now new tokens left so_far last = λ rest. so_far rest ∙ last rest
ends (Err error) old now new tokens left so_far last = tt

pub ends_line :
    {E : Type 0} (result : Result (Unit {0}) E) (old now new : Line) (tokens : List RuleToken) (left : List RuleToken → List RuleToken) → line_with old tokens ≡ line_with now (left [])
    → OnOk result (Writes now new left) → OnOk result (line_with old tokens ≡ line_with new [])
ends_line (Ok done) old now new tokens left so_far last = so_far ∙ last []
ends_line (Err error) old now new tokens left so_far last = tt

-- the next literal of a list
pub literal_left : (more : List RawLiteral) (i : ℕ) (x : RawLiteral) (rest : List RuleToken) → i < length more → x ≡ get_or more i x
    → more_literals (drop i more) rest ≡ Comma ∷ Literal x ∷ more_literals (drop (i + 1) more) rest
literal_left more i x rest within is =
    ap (λ xs. more_literals xs rest) (drop-cons more i x within)
    ∙ (ap (λ y. Comma ∷ Literal y ∷ more_literals (drop (suc i) more) rest) (sym is) ∙ ap (λ n. Comma ∷ Literal x ∷ more_literals (drop n more) rest) (sym (add-one i)))

-- parentheses, from the first to the last
pub parens_are : (parens : Bool) (inner : List RuleToken → List RuleToken) (rest : List RuleToken) → in_parens parens inner rest ≡ opened_if parens (inner (closed_if parens rest))
parens_are true inner rest = refl
parens_are false inner rest = refl
