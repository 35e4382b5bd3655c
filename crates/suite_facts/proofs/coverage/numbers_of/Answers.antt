use Rattle.std.proofs.Common.{length, ap, ◌∙◌}
use Rattle.suite_facts.proofs.CountLemmas.{numbers_are}
use Rattle.suite_facts.proofs.coverage.numbers_of.Goals as goal

pub returns : goal.returns
returns c =
    numbers_are c.args.model.now c.args.plan.now c.args.file.now.rows c.args.covered c.len.result c.len-2.result c.from.result c.from-2.result
    c.requires.plan c.requires.covered c.len.ensures (c.len-2.ensures ∙ ap length c.params.ensures.value) (c.from.ensures ∙ c.set_count.ensures.value)
    (c.from-2.ensures ∙ c.count_tuples.ensures)
