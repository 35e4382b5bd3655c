use Rattle.std.proofs.Common.{◌≡◌, ◌∙◌, sym, ap, true, false, Some, map, drop, rules}
use Rattle.std.proofs.lemmas.List.{take_rest}
use Rattle.std.proofs.lemmas.List.Folds.{list_all-map}
use Rattle.std.specs.List.{list_all}
use Rattle.model_parse.specs.believed.Pieces.{begins_with, pieces}
use Rattle.acts_front.specs.believed.ParameterLines.{behind_kind, is_name, is_value, kind_in, name_in, values_in}
use Rattle.acts_front.proofs.LineForms.{parameter_is}
use Rattle.acts_front.proofs.parameter.Parameter.read.Goals as goal

pub returns-then-not-has_values : goal.returns-then-not-has_values
returns-then-not-has_values c =
    let values = map (λ value. value.now) c.in_ok-values.values.items in
    let kind : kind_in c.args.text.now ≡ Some c.in-Some.kind = search rules in
    let named : is_name (name_in c.args.text.now) ≡ true = search rules in
    let colon : begins_with 58 (behind_kind c.args.text.now) ≡ true = search rules in
    let behind : c.without_first_blanks-behind.result.now ≡ behind_kind c.args.text.now = search rules in
    let same : values ≡ values_in c.args.text.now = c.in_ok-values.ensures ∙ ap (pieces 44) (take_rest c.without_first_blanks-behind.result.now 1 ∙ ap (drop 1) behind) in
    let none : list_all (is_value c.in-Some.kind) values ≡ false =
    list_all-map (is_value c.in-Some.kind) (λ value. value.now) c.in_ok-values.values.items
    ∙ (ap (list_all (λ value. is_value c.in-Some.kind value.now)) (sym c.as_slice.ensures.value) ∙ (sym c.has_values.ensures ∙ c.if-not-has_values.true)) in
    sym (parameter_is c.args.text.now c.in-Some.kind values kind named colon same false none)

pub returns : goal.returns
returns c =
    let values = map (λ value. value.now) c.in_ok-values.values.items in
    let kind : kind_in c.args.text.now ≡ Some c.in-Some.kind = search rules in
    let named : is_name (name_in c.args.text.now) ≡ true = search rules in
    let colon : begins_with 58 (behind_kind c.args.text.now) ≡ true = search rules in
    let name : c.trimmed-name.result.now ≡ name_in c.args.text.now = search rules in
    let behind : c.without_first_blanks-behind.result.now ≡ behind_kind c.args.text.now = search rules in
    let same : values ≡ values_in c.args.text.now = c.in_ok-values.ensures ∙ ap (pieces 44) (take_rest c.without_first_blanks-behind.result.now 1 ∙ ap (drop 1) behind) in
    let all : list_all (is_value c.in-Some.kind) values ≡ true =
    list_all-map (is_value c.in-Some.kind) (λ value. value.now) c.in_ok-values.values.items
    ∙ (ap (list_all (λ value. is_value c.in-Some.kind value.now)) (sym c.as_slice.ensures.value) ∙ (sym c.has_values.ensures ∙ c.if-not-has_values.false)) in
    ap (λ name. Some (record { name = name; kind = c.in-Some.kind; values = values })) name
    ∙ sym (parameter_is c.args.text.now c.in-Some.kind values kind named colon same true all)
