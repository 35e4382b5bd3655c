use Rattle.std.proofs.Common.{◌≡◌, not, length, filter}
use Rattle.std.specs.List.{range_with_len}
use Rattle.compiled_rules.specs.Codes.{is_yes}
use Rattle.cov_model.specs.believed.Kleene.{body_truth}
use Rattle.cov_model.specs.believed.Sound.{param_at}
use Rattle.cov_model.specs.Sound.{rule_at}
use Rattle.cov_model.specs.believed.Rows.{with_value}
use Rattle.feasibility.specs.Tree.{no_values}
use Rattle.feasibility.proofs.doubtful.doubtful_values.Given as goal

-- the list has those of the values before this one
abbrev pub invariant-loop-w : goal.invariant-loop-w
invariant-loop-w l = record {
  count : l.count ≡ length (param_at l.rules.params l.q).values;
  cells : l.cells ≡ no_values l.rules;
  list : l.list.items
      ≡ filter (λ v. not (is_yes (body_truth l.rules (rule_at l.rules l.rule).body (with_value (no_values l.rules) l.q v)))) (range_with_len 0 l.w);
}
