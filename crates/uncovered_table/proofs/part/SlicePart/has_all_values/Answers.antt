use Rattle.std.proofs.Common.{◌∙◌, sym}
use Rattle.std.proofs.lemmas.Bool.{eqb-true}
use Rattle.uncovered_table.proofs.ValueLemmas.{all_values}
use Rattle.uncovered_table.proofs.part.SlicePart.has_all_values.Goals as goal

pub returns : goal.returns
returns c =
    let v = c.args.self.now in
    λ equal.
    all_values v.model v.slice c.args.p c.assert_invariant.ensures.own c.requires
    (sym c.value_count.ensures ∙ eqb-true c.value_count.result c.from.result equal ∙ c.from.ensures ∙ c.all_values.ensures)
