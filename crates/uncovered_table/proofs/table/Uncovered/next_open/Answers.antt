use Rattle.std.proofs.Common.{◌∙◌, ap}
use Rattle.uncovered_table.specs.Open.{next_open}
use Rattle.uncovered_table.proofs.NextLemmas.{next_open_of}
use Rattle.uncovered_table.proofs.table.Uncovered.next_open.Goals as goal

pub returns-clause-value : goal.returns-clause-value
returns-clause-value c =
    c.next_of.ensures.value ∙ next_open_of c.self.inside.sets.model c.self.inside.sets.slice c.self.inside.bits c.args.column c.args.from
    ∙ ap (λ table. next_open table c.args.column c.args.from) c.self.view_is
