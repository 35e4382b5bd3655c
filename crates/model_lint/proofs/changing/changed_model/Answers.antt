use Rattle.std.proofs.Common.{ap, map, ◌∙◌}
use Rattle.model_lint.specs.Changes.{changed_rule}
use Rattle.model_lint.proofs.ChangedModels.{sound_from}
use Rattle.model_lint.proofs.changing.changed_model.Goals as goal

pub new-requires : goal.new-requires
new-requires c =
    sound_from c.args.model.now c.args.changes.now _ _ _ _ _ c.params.ensures.sound (c.in_ok-params.ensures ∙ c.params.ensures.value)
    (c.in_ok-rules.ensures ∙ ap (map (changed_rule c.args.changes.now)) c.rules.ensures.value) c.least_demand-demand.ensures c.prefix.ensures.value c.fold.ensures.value
