-- Whole files, with the models that they spell and their refusals, computed.
use Rattle.std.proofs.Common.{◌≡◌, ℕ, true, false, List, [], ◌∷◌, ◌++◌, inl, inr, refl}
use Rattle.std.specs.Prelude.{Ok, pos, codes}
use Rattle.std.specs.Str.{chars, is_utf8}
use Rattle.model_lex.specs.declared.diag.DiagCode.TheVariants.{TypeMismatch, NoColon, OrderTooLarge, StrayCharacter, MarkExpected}
use Rattle.model_lex.specs.declared.fault.ModelFault.TheVariants.{Bad, BadRule}
use Rattle.model_lex.specs.declared.note.NoteCode.TheVariants.{RepeatedValueName}
use Rattle.model_lex.specs.declared.options.ModelOpts.{ModelOpts}
use Rattle.model_lex.specs.declared.options.OrderWord.TheVariants as orders
use Rattle.cov_model.specs.believed.Sound.{ModelView}
use Rattle.cov_model.specs.declared.parameter.Param.{Param}
use Rattle.cov_model.specs.declared.parameter.Value.{Value}
use Rattle.cov_model.specs.declared.demand.Demand.{Demand}
use Rattle.cov_model.specs.believed.Views as views
use Rattle.cov_model.specs.declared.constraint.Literal.TheVariants as literal
use Rattle.cov_model.specs.declared.constraint.Rel.TheVariants as rel
use Rattle.cov_model.specs.declared.constraint.Term.TheVariants as term
use Rattle.constraint_ast.specs.believed.Grammar.{value_is, last_unit, last_conj, if_then, plain, no_rule, next_rule}
use Rattle.constraint_ast.specs.believed.Lexing.{Spell}
use Rattle.constraint_ast.specs.believed.Trees.{Leaf, IfThen, Plain, RuleTree}
use Rattle.constraint_ast.specs.declared.tree.RawRel.TheVariants.{Eq}
use Rattle.constraint_ast.specs.declared.tree.RawLiteral.TheVariants.{Number, Words}
use Rattle.constraint_ast.specs.declared.tree.RawTerm.TheVariants.{ValueIs}
use Rattle.constraint_ast.proofs.Refusal.{refused}
use Rattle.model_lex.specs.believed.Sections.{Split, sections_of}
use Rattle.model_parse.specs.believed.RawModels.{raw_model_of}
use Rattle.model_parse.specs.declared.raw_model.RawModel.{RawModel}
use Rattle.type_check.specs.believed.ModelOf.{IsModelOf, IsRefusalOf, by_grammar, by_model, by_params, by_rules, by_sections, in_sections}

-- the default marks and order
abbrev opts : ModelOpts
opts = record { order = orders.Number 2; marks = record { separator = 44; alias = 124; prefix = 126 }; fold = true }

-- two parameters, and a constraint on the third line
abbrev file : List ℕ → List ℕ
file rule = codes "A: 1, 2" ++ (10 ∷ codes "B: x" ++ (10 ∷ rule))

abbrev split_of : List ℕ → Split
split_of rule = record { params = (1, codes "A: 1, 2") ∷ (2, codes "B: x") ∷ []; groups = []; rules = (3, rule) ∷ [] }

abbrev plain_value : List ℕ → Value
plain_value name = record { names = name ∷ []; weight = 1; negative = false }

abbrev params : List Param
params =
    record { name = codes "A"; line = 1; numeric = true; values = plain_value (codes "1") ∷ plain_value (codes "2") ∷ [] }
    ∷ record { name = codes "B"; line = 2; numeric = false; values = plain_value (codes "x") ∷ [] } ∷ []

abbrev demand : Demand
demand = record { order = 2; subs = []; relations = [] }

abbrev raw : RawModel
raw = record { params = params; demand = demand; notes = [] }

-- IF [A] = 1 THEN [B] = "x";
abbrev rule : List ℕ
rule = codes "IF [A] = 1 THEN [b] = " ++ (34 ∷ 120 ∷ 34 ∷ 59 ∷ [])

abbrev tree : RuleTree
tree = record { line = 3; body = IfThen (Leaf 3 (ValueIs (codes "A") Eq (Number (pos 1000000000)))) (Leaf 3 (ValueIs (codes "b") Eq (Words (codes "x")))) }

abbrev model : ModelView
model = record {
  params = params;
  rules =
      record {
        number = 1;
        line = 3;
        body = views.IfThen (views.Leaf (term.ValueIs 0 rel.Eq (literal.Number (pos 1000000000)))) (views.Leaf (term.ValueIs 1 rel.Eq (literal.Words (codes "x"))));
      } ∷ [];
  demand = demand;
  prefix = 126;
  fold = true;
}

read : (text : List ℕ) → raw_model_of opts (split_of text) ≡ Ok raw
unfolding is_utf8 chars lib.Utf8.encode
read text = refl

sections : sections_of (file rule) ≡ Ok (split_of rule)
unfolding is_utf8 chars lib.Utf8.encode
sections = refl

spelled : Spell ((3, rule) ∷ []) (tree ∷ [])
spelled = (_, refl, next_rule (if_then (last_conj (last_unit value_is)) (last_conj (last_unit value_is))) no_rule)

whole : IsModelOf opts (file rule) model []
whole = in_sections (split_of rule) sections (by_model raw (tree ∷ []) (read rule) spelled refl)

-- [A] = "1";
abbrev text_rule : List ℕ
text_rule = codes "[A] = " ++ (34 ∷ 49 ∷ 34 ∷ 59 ∷ [])

text_sections : sections_of (file text_rule) ≡ Ok (split_of text_rule)
unfolding is_utf8 chars lib.Utf8.encode
text_sections = refl

types_differ : IsRefusalOf opts (file text_rule) (BadRule (record { line = 3; code = TypeMismatch }))
types_differ =
    in_sections (split_of text_rule) text_sections
    (by_rules raw (record { line = 3; body = Plain (Leaf 3 (ValueIs (codes "A") Eq (Words (codes "1")))) } ∷ []) (read text_rule)
    (_, refl, next_rule (plain (last_conj (last_unit value_is))) no_rule) refl)

-- a line without a colon comes before the order, which is above the number of parameters
no_colon : IsRefusalOf opts (codes "A: 1" ++ (10 ∷ codes "B")) (Bad (record { line = 2; code = NoColon }))
unfolding is_utf8 chars lib.Utf8.encode
no_colon = by_sections refl

order_too_large : IsRefusalOf opts (codes "A: 1" ++ (10 ∷ codes "[Z] = 1")) (Bad (record { line = 1; code = OrderTooLarge }))
unfolding is_utf8 chars lib.Utf8.encode
order_too_large = in_sections (record { params = (1, codes "A: 1") ∷ []; groups = []; rules = (2, codes "[Z] = 1") ∷ [] }) refl (by_params refl)

-- two parameter lines with a repeated value name, and no constraint: the model has the note
abbrev noted_file : List ℕ
noted_file = codes "A: 1, 1" ++ (10 ∷ codes "B: x")

abbrev noted_raw : RawModel
noted_raw = record {
  params =
      record { name = codes "A"; line = 1; numeric = true; values = plain_value (codes "1") ∷ [] }
      ∷ record { name = codes "B"; line = 2; numeric = false; values = plain_value (codes "x") ∷ [] } ∷ [];
  demand = demand;
  notes = record { line = 1; code = RepeatedValueName } ∷ [];
}

abbrev noted_split : Split
noted_split = record { params = (1, codes "A: 1, 1") ∷ (2, codes "B: x") ∷ []; groups = []; rules = [] }

noted_sections : sections_of noted_file ≡ Ok noted_split
unfolding is_utf8 chars lib.Utf8.encode
noted_sections = refl

noted_read : raw_model_of opts noted_split ≡ Ok noted_raw
unfolding is_utf8 chars lib.Utf8.encode
noted_read = refl

noted : IsModelOf opts noted_file (record { params = noted_raw.params; rules = []; demand = demand; prefix = 126; fold = true }) (record { line = 1; code = RepeatedValueName } ∷ [])
noted = in_sections noted_split noted_sections (by_model noted_raw [] noted_read ([], refl, no_rule) refl)

-- where case counts, `b` and `B` are two parameters, and a term is of the one that is spelled so
abbrev exact : ModelOpts
exact = record { order = orders.Number 2; marks = opts.marks; fold = false }

abbrev exact_rule : List ℕ
exact_rule = codes "[B] = " ++ (34 ∷ 120 ∷ 34 ∷ 59 ∷ [])

abbrev exact_file : List ℕ
exact_file = codes "b: 1" ++ (10 ∷ codes "B: x" ++ (10 ∷ exact_rule))

abbrev exact_raw : RawModel
exact_raw = record {
  params =
      record { name = codes "b"; line = 1; numeric = true; values = plain_value (codes "1") ∷ [] }
      ∷ record { name = codes "B"; line = 2; numeric = false; values = plain_value (codes "x") ∷ [] } ∷ [];
  demand = demand;
  notes = [];
}

abbrev exact_split : Split
exact_split = record { params = (1, codes "b: 1") ∷ (2, codes "B: x") ∷ []; groups = []; rules = (3, exact_rule) ∷ [] }

exact_sections : sections_of exact_file ≡ Ok exact_split
unfolding is_utf8 chars lib.Utf8.encode
exact_sections = refl

exact_read : raw_model_of exact exact_split ≡ Ok exact_raw
unfolding is_utf8 chars lib.Utf8.encode
exact_read = refl

case_counts :
    IsModelOf exact exact_file
    (record {
      params = exact_raw.params;
      rules = record { number = 1; line = 3; body = views.Plain (views.Leaf (term.ValueIs 1 rel.Eq (literal.Words (codes "x")))) } ∷ [];
      demand = demand;
      prefix = 126;
      fold = false;
    }) []
case_counts =
    in_sections exact_split exact_sections
    (by_model exact_raw (record { line = 3; body = Plain (Leaf 3 (ValueIs (codes "B") Eq (Words (codes "x")))) } ∷ []) exact_read
    (_, refl, next_rule (plain (last_conj (last_unit value_is))) no_rule) refl)

-- [A] = $, and [Z] = 1 without its end, which comes before the name
abbrev stray_rule : List ℕ
stray_rule = codes "[A] = $"

stray_sections : sections_of (file stray_rule) ≡ Ok (split_of stray_rule)
unfolding is_utf8 chars lib.Utf8.encode
stray_sections = refl

stray : IsRefusalOf opts (file stray_rule) (BadRule (record { line = 3; code = StrayCharacter }))
stray = in_sections (split_of stray_rule) stray_sections (by_grammar raw (read stray_rule) (inl refl))

abbrev open_rule : List ℕ
open_rule = codes "[Z] = 1"

open_sections : sections_of (file open_rule) ≡ Ok (split_of open_rule)
unfolding is_utf8 chars lib.Utf8.encode
open_sections = refl

not_ended : IsRefusalOf opts (file open_rule) (BadRule (record { line = 3; code = MarkExpected }))
not_ended = in_sections (split_of open_rule) open_sections (by_grammar raw (read open_rule) (inr (_, refl, refused 64 _ _ refl)))
