use Rattle.std.proofs.Common.{◌≡◌, ◌++◌, Some, ap, subst, ◌∙◌}
use Rattle.std.specs.Prelude.{OnOk}
use Rattle.tuple_index.specs.Plan.{PlanView, set_at}
use Rattle.jeldroft_show.specs.believed.Words.{set_words}
use Rattle.jeldroft_show.proofs.suite_words.add_set.Goals as goal

pub returns : goal.returns
returns c =
    subst (λ set. OnOk c.add_need.result (c.add_need.new.text.items ≡ c.args.text.now.items ++ set_words c.args.model.now (Some (set, c.args.found.covered))))
    (c.members-members.ensures ∙ ap (λ (p : PlanView). set_at p c.args.found.set) c.requires.plan) c.add_need.ensures
