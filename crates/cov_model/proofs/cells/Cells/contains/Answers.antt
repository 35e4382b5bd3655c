use Rattle.std.proofs.Common.{◌∷◌, [], ◌∙◌, length, sym, ap}
use Rattle.std.specs.List.{list_all}
use Rattle.cov_model.specs.believed.Rows.{contains}
use Rattle.cov_model.specs.believed.Tuples.{cells_of}
use Rattle.cov_model.proofs.TupleLemmas.{contains_each}
use Rattle.cov_model.proofs.cells.Cells.contains.Goals as goal

pub returns : goal.returns
returns c =
    let cells = c.args.self.now in
    c.gives_each.ensures
    ∙ ap (list_all (λ pair. contains cells (cells_of (length cells) (pair ∷ [])))) c.as_slice.ensures.value
    ∙ sym (contains_each (length cells) cells c.args.tuple.now c.as_slice.ensures.rising)
