-- The grammar of the constraint lines of a file in the form of ACTS, and what is asked of their terms. (The ACTS
-- guide; the depth and the codes are this project's rules.)
--
--     cons := disj [ => disj ]
--     disj := conj (|| conj)*
--     conj := unit (&& unit)*
--     unit := ! unit | ( disj ) | name rel operand
--     rel  := = | != | > | >= | < | <=
--     operand := int | text | TRUE | FALSE | name
use Rattle.std.specs.Prelude.{ℕ, zero, suc, ◌+◌, ◌-◌, Bool, true, false, not, ◌&&◌, ◌||◌, List, [], ◌∷◌, map}
use Rattle.std.specs.Prelude.{length, take, Option, Some, None, option_map, ◌==◌, slice_index_or, if◌then◌else◌}
use Rattle.std.specs.List.{list_any, before_first, after_first}
use Rattle.cov_model.specs.declared.constraint.Rel.{Rel}
use Rattle.cov_model.specs.declared.constraint.Rel.TheVariants.{Eq, Ne, Gt, Ge, Lt, Le}
use Rattle.acts_front.specs.believed.ParameterLines.{Scope, is_declared, kind_named}
use Rattle.acts_front.specs.believed.Tokens.{Token, Name, Whole, Words, Truth, Relation, Arrow, Or, And, Not, Open, Close}
use Rattle.acts_front.specs.declared.kind.Kind.{Kind}
use Rattle.acts_front.specs.declared.kind.Kind.TheVariants.{Int, Enum, Boolean}
use Rattle.acts_front.specs.declared.code.ActsCode.{ActsCode}
use Rattle.acts_front.specs.declared.code.ActsCode.TheVariants.{A10, A11}

-- what a parameter is compared with: a whole number, a text, a truth value, or another parameter
pub data Operand : Type 0 where
  OfWhole : List ℕ → Operand
  OfText : List ℕ → Operand
  OfTruth : Bool → Operand
  OfParameter : List ℕ → Operand

-- a predicate: a comparison of the parameter of a name, a negation, a conjunction or a disjunction
mutual
  pub data Pred : Type 0 where
    Compares : List ℕ → Rel → Operand → Pred
    Negated : Pred → Pred
    Each : Preds → Pred
    Either : Preds → Pred

  pub data Preds : Type 0 where
    End : Preds
    More : Pred → Preds → Preds

-- a constraint: a predicate, or one that follows from another
pub data Constraint : Type 0 where
  Plain : Pred → Constraint
  Implies : Pred → Pred → Constraint

-- ---- parts of a list of tokens

-- how many parentheses are open behind a token, where so many are before it
abbrev pub open_behind : Token → ℕ → ℕ
open_behind Open opened = opened + 1
open_behind Close opened = opened - 1
open_behind token opened = opened

abbrev pub put_first : Token → List (List Token) → List (List Token)
put_first token [] = (token ∷ []) ∷ []
put_first token (part ∷ parts) = (token ∷ part) ∷ parts

-- the parts of a list between the marks outside parentheses, where so many are open before it
abbrev pub parts_behind : (Token → Bool) → ℕ → List Token → List (List Token)
parts_behind mark opened [] = [] ∷ []
parts_behind mark opened (token ∷ tokens) =
    if (opened == 0) && mark token then [] ∷ parts_behind mark 0 tokens
    else put_first token (parts_behind mark (open_behind token opened) tokens)

abbrev pub parts : (Token → Bool) → List Token → List (List Token)
parts mark tokens = parts_behind mark 0 tokens

abbrev pub is_arrow : Token → Bool
is_arrow Arrow = true
is_arrow token = false

abbrev pub is_or : Token → Bool
is_or Or = true
is_or token = false

abbrev pub is_and : Token → Bool
is_and And = true
is_and token = false

abbrev pub is_close : Token → Bool
is_close Close = true
is_close token = false

-- ---- the grammar

-- the predicates that parts spell, where each spells one
abbrev pub more_preds : Option Pred → Option Preds → Option Preds
more_preds (Some pred) (Some preds) = Some (More pred preds)
more_preds (Some pred) None = None
more_preds None preds = None

abbrev pub preds_of : List (Option Pred) → Option Preds
preds_of [] = Some End
preds_of (pred ∷ preds) = more_preds pred (preds_of preds)

-- the conjunction and the disjunction of predicates: one is itself
abbrev pub each_of : Preds → Pred
each_of End = Each End
each_of (More pred End) = pred
each_of (More pred (More next preds)) = Each (More pred (More next preds))

abbrev pub either_of : Preds → Pred
either_of End = Either End
either_of (More pred End) = pred
either_of (More pred (More next preds)) = Either (More pred (More next preds))

-- operand := int | text | TRUE | FALSE | name
abbrev pub operand_in : Token → Option Operand
operand_in (Whole text) = Some (OfWhole text)
operand_in (Words text) = Some (OfText text)
operand_in (Truth truth) = Some (OfTruth truth)
operand_in (Name name) = Some (OfParameter name)
operand_in token = None

-- name rel operand
abbrev pub comparison_of : List Token → Option Pred
comparison_of (Name name ∷ Relation rel ∷ token ∷ []) = option_map (λ operand. Compares name rel operand) (operand_in token)
comparison_of tokens = None

-- ( disj ), behind its `(`
abbrev pub enclosed_of : (List Token → Option Pred) → List Token → Option Pred
enclosed_of disj tokens =
    if is_close (slice_index_or tokens (length tokens - 1) Open) then disj (take (length tokens - 1) tokens) else None

-- unit := ! unit | ( disj ) | name rel operand
abbrev pub unit_in : (List Token → Option Pred) → (List Token → Option Pred) → List Token → Option Pred
unit_in unit disj (Not ∷ tokens) = option_map Negated (unit tokens)
unit_in unit disj (Open ∷ tokens) = enclosed_of disj tokens
unit_in unit disj tokens = comparison_of tokens

-- conj := unit (&& unit)*
abbrev pub conj_in : (List Token → Option Pred) → List Token → Option Pred
conj_in unit tokens = option_map each_of (preds_of (map unit (parts is_and tokens)))

-- disj := conj (|| conj)*
abbrev pub disj_in : (List Token → Option Pred) → List Token → Option Pred
disj_in unit tokens = option_map either_of (preds_of (map (conj_in unit) (parts is_or tokens)))

-- with room for so many `(` and `!` inside one another
abbrev pub unit_of : ℕ → List Token → Option Pred
unit_of zero tokens = comparison_of tokens
unit_of (suc room) tokens = unit_in (unit_of room) (disj_in (unit_of room)) tokens

abbrev pub disj_of : ℕ → List Token → Option Pred
disj_of room tokens = disj_in (unit_of room) tokens

abbrev pub implied : Option Pred → Option Pred → Option Constraint
implied (Some premise) (Some pred) = Some (Implies premise pred)
implied (Some premise) None = None
implied None pred = None

-- cons := disj [ => disj ]
abbrev pub cons_of : ℕ → List Token → Option Constraint
cons_of room tokens =
    if list_any is_arrow tokens then implied (disj_of room (before_first is_arrow tokens)) (disj_of room (after_first is_arrow tokens))
    else option_map Plain (disj_of room tokens)

-- ---- what is asked of terms

-- each term of a predicate, or of a constraint, passes a test
abbrev mutual
  pub each_term : (List ℕ → Rel → Operand → Bool) → Pred → Bool
  each_term test (Compares name rel operand) = test name rel operand
  each_term test (Negated pred) = each_term test pred
  each_term test (Each preds) = every_term test preds
  each_term test (Either preds) = every_term test preds

  pub every_term : (List ℕ → Rel → Operand → Bool) → Preds → Bool
  every_term test End = true
  every_term test (More pred preds) = each_term test pred && every_term test preds

abbrev pub terms_pass : (List ℕ → Rel → Operand → Bool) → Constraint → Bool
terms_pass test (Plain pred) = each_term test pred
terms_pass test (Implies premise pred) = each_term test premise && each_term test pred

-- the parameters that a term names are declared
abbrev pub is_operand_known : Scope → Operand → Bool
is_operand_known scope (OfParameter name) = is_declared scope name
is_operand_known scope operand = true

abbrev pub is_known : Scope → List ℕ → Rel → Operand → Bool
is_known scope name rel operand = is_declared scope name && is_operand_known scope operand

-- the types of an operand and of a parameter are the same, and an order stands on an int alone
abbrev pub operand_kind : Scope → Operand → Option Kind
operand_kind scope (OfWhole text) = Some Int
operand_kind scope (OfText text) = Some Enum
operand_kind scope (OfTruth truth) = Some Boolean
operand_kind scope (OfParameter name) = kind_named scope name

abbrev pub is_same_kind : Option Kind → Option Kind → Bool
is_same_kind (Some Int) (Some Int) = true
is_same_kind (Some Enum) (Some Enum) = true
is_same_kind (Some Boolean) (Some Boolean) = true
is_same_kind kind other = false

abbrev pub is_order : Rel → Bool
is_order Eq = false
is_order Ne = false
is_order Gt = true
is_order Ge = true
is_order Lt = true
is_order Le = true

abbrev pub is_typed : Scope → List ℕ → Rel → Operand → Bool
is_typed scope name rel operand =
    is_same_kind (kind_named scope name) (operand_kind scope operand)
    && (not (is_order rel) || is_same_kind (kind_named scope name) (Some Int))

-- why a constraint is refused behind other lines
abbrev pub constraint_code : Scope → Constraint → Option ActsCode
constraint_code scope constraint =
    if not (terms_pass (is_known scope) constraint) then Some A10
    else if not (terms_pass (is_typed scope) constraint) then Some A11
    else None
