use Rattle.std.proofs.Common.{◌≡◌, ◌++◌, ◌∷◌, ◌∙◌, [], true, false, sym, ap, rules, append-nil}
use Rattle.std.specs.List.{filter, range_with_len}
use Rattle.cov_model.specs.Views.{body_view}
use Rattle.definitions.specs.believed.Demand.{is_among}
use Rattle.definitions.specs.believed.Search.{body_params}
use Rattle.feasibility.proofs.Naming.{filter_range_more}
use Rattle.feasibility.proofs.members.members.Goals as goal
use Rattle.feasibility.proofs.members.members.Goals.{then-body_names+in_ok-push, else-body_names}

pub loop-p-preserved : goal.loop-p-preserved
loop-p-preserved c =
    let names = is_among (body_params (body_view c.args.body.now)) in
    elim c.if-body_names.branch [
      | then-body_names+in_ok-push w ↦
          let pushed : c.if-body_names.list.items ≡ c.loop-p.list.items ++ c.loop-p.p ∷ [] = search rules in
          pushed ∙ ap (λ list. list ++ c.loop-p.p ∷ []) c.loop-p.invariant
          ∙ sym (filter_range_more names c.loop-p.p true (sym c.body_names.ensures ∙ w.if-body_names.true))
      | else-body_names w ↦
          ap (λ list. list.items) w.list-is ∙ c.loop-p.invariant ∙ sym (append-nil (filter names (range_with_len 0 c.loop-p.p)))
          ∙ sym (filter_range_more names c.loop-p.p false (sym c.body_names.ensures ∙ w.if-body_names.false))
    ]
