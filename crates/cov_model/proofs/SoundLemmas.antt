-- What a sound model says of one parameter, one value and one constraint.
use Rattle.std.proofs.Common.{◌≡◌, ℕ, ◌-◌, ◌<◌, ◌≤◌, true, List, map, length, get_or, ◌∙◌, sym, ap, subst, arith}
use Rattle.std.proofs.lemmas.List.{get_or-map, length-map}
use Rattle.std.proofs.lemmas.List.Elements.{All-get_or}
use Rattle.std.proofs.lemmas.List.Sums.{AllPass-from_list_all}
use Rattle.value_text.specs.believed.Numbers.{is_number}
use Rattle.cov_model.specs.declared.constraint.Rule.{Rule}
use Rattle.cov_model.specs.believed.Views.{RuleView}
use Rattle.cov_model.specs.Views.{body_view, rule_view}
use Rattle.cov_model.specs.believed.Sound.{ModelView, IsSound, IsSoundParam, IsSoundValue, IsSoundBody, param_at, first_name, no_param}
use Rattle.cov_model.specs.Sound.{rule_at, no_rule}
use Rattle.cov_model.specs.believed.Meaning.{value_at, no_value}

pub param_sound : (m : ModelView) (p : ℕ) → IsSound m → p < length m.params → IsSoundParam m.prefix m.fold (param_at m.params p)
param_sound m p sound within = All-get_or (IsSoundParam m.prefix m.fold) m.params p no_param within sound.params

pub value_sound : (m : ModelView) (p v : ℕ) → IsSound m → p < length m.params → v < length (param_at m.params p).values
    → IsSoundValue m.prefix (value_at m p v)
value_sound m p v sound within in_values =
    All-get_or (IsSoundValue m.prefix) (param_at m.params p).values v no_value in_values (param_sound m p sound within).values

-- the first name of a value of a numeric parameter is a number
pub value_number : (m : ModelView) (p v : ℕ) → IsSound m → p < length m.params → v < length (param_at m.params p).values
    → (param_at m.params p).numeric ≡ true → is_number (first_name (value_at m p v)) ≡ true
value_number m p v sound within in_values numeric =
    All-get_or (λ value. is_number (first_name value) ≡ true) (param_at m.params p).values v no_value in_values
    (AllPass-from_list_all (λ value. is_number (first_name value)) (param_at m.params p).values
    (sym (param_sound m p sound within).numeric ∙ numeric))

pub rule_sound : (m : ModelView) (n : ℕ) → IsSound m → 0 < n → n ≤ length m.rules → IsSoundBody m.params (rule_at m n).body
rule_sound m n sound positive within =
    let inside : n - 1 < length m.rules = omega arith in
    All-get_or (λ rule. IsSoundBody m.params rule.body) m.rules (n - 1) no_rule inside sound.rules

-- a constraint of the code is the model's of the same place
pub rule_seen : (views : List RuleView) (rules list : List Rule) (i : ℕ) (item other : Rule) (d : RuleView) → map rule_view rules ≡ views → list ≡ rules
    → i < length views → item ≡ get_or list i other → rule_view item ≡ get_or views i d
rule_seen views rules list i item other d same whole within is =
    let long : i < length rules = omega (arith, within, ap length same, length-map rules rule_view) in
    ap rule_view (is ∙ ap (λ (l : List Rule). get_or l i other) whole) ∙ sym (get_or-map rule_view rules i other d long)
    ∙ ap (λ (l : List RuleView). get_or l i d) same

pub seen_sound : (m : ModelView) (rules list : List Rule) (i : ℕ) (item other : Rule) → IsSound m → map rule_view rules ≡ m.rules → list ≡ rules
    → i < length m.rules → item ≡ get_or list i other → IsSoundBody m.params (body_view item.body)
seen_sound m rules list i item other sound same whole within is =
    subst (λ (rule : RuleView). IsSoundBody m.params rule.body) (sym (rule_seen m.rules rules list i item other no_rule same whole within is))
    (All-get_or (λ rule. IsSoundBody m.params rule.body) m.rules i no_rule within sound.rules)
