-- What stands at a place of a list, and what stands for it where nothing does.
use Rattle.std.proofs.Common.{◌≡◌, ◌∙◌, ℕ, List, Option, Some, None, ap, map, sym}
use Rattle.std.specs.Prelude.{option_map, slice_get, slice_index_or}
use Rattle.std.specs.Option.{unwrap_or}
use Rattle.std.proofs.lemmas.Option.{slice_get-map, unwrap_or-slice_get}
use Rattle.cov_model.specs.Views.{rule_view}
use Rattle.cov_model.specs.believed.Views.{RuleView}
use Rattle.cov_model.specs.declared.constraint.Rule.{Rule}

found : {X : Type 0} (xs : List X) (i : ℕ) (x d : X) → Some x ≡ slice_get xs i → x ≡ slice_index_or xs i d
found {X} xs i x d is = ap (λ (o : Option X). unwrap_or o d) is ∙ unwrap_or-slice_get xs i d

pub missing : {X : Type 0} (xs : List X) (i : ℕ) (d : X) → None ≡ slice_get xs i → d ≡ slice_index_or xs i d
missing {X} xs i d none = ap (λ (o : Option X). unwrap_or o d) none ∙ unwrap_or-slice_get xs i d

-- the lines of constraints
abbrev line_of : RuleView → ℕ
line_of rule = rule.line

lines_at : (m : List RuleView) (rules : List Rule) (i : ℕ) → map rule_view rules ≡ m
    → option_map line_of (option_map rule_view (slice_get rules i)) ≡ slice_get (map (λ (rule : RuleView). rule.line) m) i
lines_at m rules i views =
    sym (slice_get-map line_of (map rule_view rules) i ∙ ap (option_map line_of) (slice_get-map rule_view rules i))
    ∙ ap (λ (list : List RuleView). slice_get (map line_of list) i) views

pub line_found : (m : List RuleView) (rules : List Rule) (i : ℕ) (rule : Rule) → map rule_view rules ≡ m → Some rule ≡ slice_get rules i
    → rule.line ≡ slice_index_or (map (λ (r : RuleView). r.line) m) i 0
line_found m rules i rule views is =
    found (map line_of m) i rule.line 0 (ap (λ (o : Option Rule). option_map line_of (option_map rule_view o)) is ∙ lines_at m rules i views)

pub line_missing : (m : List RuleView) (rules : List Rule) (i : ℕ) → map rule_view rules ≡ m → None ≡ slice_get rules i
    → 0 ≡ slice_index_or (map (λ (r : RuleView). r.line) m) i 0
line_missing m rules i views none =
    missing (map line_of m) i 0 (ap (λ (o : Option Rule). option_map line_of (option_map rule_view o)) none ∙ lines_at m rules i views)
