use Rattle.std.proofs.Common.{◌≡◌, ℕ, ◌<◌, Bool, ◌++◌, ◌∷◌, ◌∙◌, [], true, false, not, sym, ap, rules, append-nil, length, subst, arith}
use Rattle.std.specs.List.{filter, range_with_len}
use Rattle.compiled_rules.specs.Codes.{is_yes}
use Rattle.cov_model.specs.believed.Kleene.{body_truth}
use Rattle.cov_model.specs.believed.Sound.{ModelView, param_at}
use Rattle.cov_model.specs.Sound.{rule_at}
use Rattle.cov_model.specs.believed.Rows.{with_value}
use Rattle.feasibility.specs.Tree.{no_values}
use Rattle.feasibility.proofs.Naming.{filter_range_more}
use Rattle.feasibility.proofs.doubtful.doubtful_values.Goals as goal
use Rattle.feasibility.proofs.doubtful.doubtful_values.Goals.{then-is_doubtful+in_ok-push, else-is_doubtful}

pub value_count-count-requires : goal.value_count-count-requires
value_count-count-requires c = subst (λ (m : ModelView). c.args.q < length m.params) (sym c.model.ensures.value) c.requires.parameter

pub loop-w-init : goal.loop-w-init
loop-w-init c = record {
  count = c.value_count-count.ensures ∙ ap (λ (m : ModelView). length (param_at m.params c.args.q).values) c.model.ensures.value;
  cells = c.requires.none;
  list = c.new-list.ensures.items;
}

pub is_doubtful-requires-clause-value : goal.is_doubtful-requires-clause-value
is_doubtful-requires-clause-value c = subst (λ (n : ℕ). c.loop-w.w < n) c.loop-w.invariant.count c.loop-w-test.true

pub loop-w-preserved : goal.loop-w-preserved
loop-w-preserved c =
    let m = c.args.rules.now in
    let test : ℕ → Bool = λ v. not (is_yes (body_truth m (rule_at m c.args.rule).body (with_value (no_values m) c.args.q v))) in
    record {
      count = c.loop-w.invariant.count;
      cells = c.is_doubtful.ensures.same ∙ c.loop-w.invariant.cells;
      list = elim c.if-is_doubtful.branch [
        | then-is_doubtful+in_ok-push w ↦
            let pushed : c.if-is_doubtful.list.items ≡ c.loop-w.list.items ++ c.loop-w.w ∷ [] = search rules in
            pushed ∙ ap (λ list. list ++ c.loop-w.w ∷ []) c.loop-w.invariant.list
            ∙ sym (filter_range_more test c.loop-w.w true (sym c.is_doubtful.ensures.doubtful ∙ w.if-is_doubtful.true))
        | else-is_doubtful w ↦
            ap (λ list. list.items) w.list-is ∙ c.loop-w.invariant.list ∙ sym (append-nil (filter test (range_with_len 0 c.loop-w.w)))
            ∙ sym (filter_range_more test c.loop-w.w false (sym c.is_doubtful.ensures.doubtful ∙ w.if-is_doubtful.false))
      ];
    }

pub returns-clause-list : goal.returns-clause-list
returns-clause-list c =
    let m = c.args.rules.now in
    let test : ℕ → Bool = λ v. not (is_yes (body_truth m (rule_at m c.args.rule).body (with_value (no_values m) c.args.q v))) in
    c.loop-w.invariant.list ∙ ap (λ (n : ℕ). filter test (range_with_len 0 n)) (omega (arith, c.loop-w.invariant.count))

pub returns-clause-same : goal.returns-clause-same
returns-clause-same c = c.loop-w.invariant.cells ∙ sym c.requires.none
