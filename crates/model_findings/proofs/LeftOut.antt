-- Models some of whose constraints are left out.
use Rattle.std.proofs.Common.{◌≡◌, ℕ, ◌-◌, Bool, false, List, map, get_or, filter, Option, ap, sym, ◌∙◌, arith}
use Rattle.std.proofs.lemmas.List.{get_or-map}
use Rattle.cov_model.specs.believed.Sound.{ModelView, IsSound}
use Rattle.cov_model.specs.Sound.{no_rule}
use Rattle.cov_model.specs.believed.Views.{RuleView}
use Rattle.definitions.proofs.Members.{Has}
use Rattle.model_lint.specs.Changes.{is_marked}
use Rattle.model_lint.specs.believed.Tests.{has_test, part}
use Rattle.model_lint.proofs.Members.{filter_agree}
use Rattle.model_lint.proofs.ThinMarks.{numbered_rule}
use Rattle.model_findings.specs.Without.{is_free_of, without_comparisons}

-- the mark of a constraint says whether it is free of comparisons
mark_of : (m : ModelView) (p : ℕ) (rule : RuleView) → IsSound m → Has m.rules rule → is_marked (map (is_free_of p) m.rules) rule.number ≡ is_free_of p rule
mark_of m p rule sound has =
    let place = numbered_rule m rule sound has in
    get_or-map (is_free_of p) m.rules (rule.number - 1) no_rule false (omega (arith, place.least, place.most))
    ∙ ap (is_free_of p) place.own

pub test_without : (m : ModelView) (p : ℕ) (marks : List Bool) (cells : List (Option ℕ)) → IsSound m → marks ≡ map (is_free_of p) m.rules
    → has_test (part m (is_marked marks)) cells ≡ has_test (without_comparisons m p) cells
test_without m p marks cells sound are =
    ap (λ (ms : List Bool). has_test (part m (is_marked ms)) cells) are
    ∙ ap (λ (rules : List RuleView). has_test (record { params = m.params; rules = rules; demand = m.demand; prefix = m.prefix; fold = m.fold }) cells)
    (filter_agree (λ (rule : RuleView). is_marked (map (is_free_of p) m.rules) rule.number) (is_free_of p) m.rules (λ rule has. mark_of m p rule sound has))
