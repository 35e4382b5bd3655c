use Rattle.std.proofs.Common.{◌∙◌, ℕ, ap, map}
use Rattle.std.specs.Prelude.{slice_index_or}
use Rattle.cov_model.specs.believed.Views.{RuleView}
use Rattle.finding_words.proofs.Lookups.{line_found, line_missing}
use Rattle.finding_words.proofs.names.rule_line.Goals as goal

pub returns-in-Some : goal.returns-in-Some
returns-in-Some c =
    line_found c.args.model.now.rules c.rules.result.now c.saturating_sub.result c.in-Some.rule.now c.rules.ensures.value c.in-Some.ensures.value
    ∙ ap (λ (i : ℕ). slice_index_or (map (λ (r : RuleView). r.line) c.args.model.now.rules) i 0) c.saturating_sub.ensures

pub returns-in-None : goal.returns-in-None
returns-in-None c =
    line_missing c.args.model.now.rules c.rules.result.now c.saturating_sub.result c.rules.ensures.value c.in-None.ensures.value
    ∙ ap (λ (i : ℕ). slice_index_or (map (λ (r : RuleView). r.line) c.args.model.now.rules) i 0) c.saturating_sub.ensures
