-- The grammar of the constraint lines of a file in the form of ACTS, and what is asked of their terms. (The ACTS
-- guide; the depth and the codes are this project's rules.)
--
--     cons := disj [ => disj ]
--     disj := conj (|| conj)*
--     conj := unit (&& unit)*
--     unit := ! unit | ( disj ) | name rel operand
--     rel  := = | != | > | >= | < | <=
--     operand := int | text | TRUE | FALSE | name
use Rattle.std.specs.Prelude.{ℕ, ◌-◌, List}
use Rattle.std.specs.Prelude.{Option, Some, None}
use Rattle.constraint_ast.specs.believed.Grammar.{most_open}
use Rattle.acts_front.specs.believed.Tokens.{Token}
use Rattle.acts_front.specs.believed.Constraints.{Pred, Constraint, conj_in, unit_of, cons_of}

abbrev pub conj_of : ℕ → List Token → Option Pred
conj_of room tokens = conj_in (unit_of room) tokens

-- the constraint that tokens spell
abbrev pub spelled_by : Option (List Token) → Option Constraint
spelled_by (Some tokens) = cons_of most_open tokens
spelled_by None = None
