use Rattle.std.proofs.Common.{◌∙◌, ap, length}
use Rattle.uncovered_table.proofs.OpenLemmas.{count_bits}
use Rattle.uncovered_table.proofs.table.Uncovered.open_count.Goals as goal

pub returns : goal.returns
returns c =
    c.count.ensures ∙ count_bits c.self.inside.sets.model c.self.inside.sets.slice c.self.inside.bits c.self.invariant.long
    ∙ ap (λ table. length table.places) c.self.view_is
