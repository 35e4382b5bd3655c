use Rattle.std.proofs.Common.{◌∙◌, None, find, get_or, length, set, ap}
use Rattle.std.specs.List.{range_with_len}
use Rattle.definitions.specs.believed.Refutation.{is_omission_leaf}
use Rattle.feasibility.proofs.Nodes.{none_of, set_clear}
use Rattle.feasibility.proofs.refuter.Refuter.first_cited_with.Goals as goal

pub returns-clause-same : goal.returns-clause-same
returns-clause-same c =
    c.clear_cell.ensures ∙ ap (λ cells. set cells c.args.q None) c.set_cell.ensures
    ∙ set_clear c.args.cells.now c.args.q c.args.v (none_of (get_or c.args.cells.now c.args.q None) c.requires.free)

pub returns-clause-least : goal.returns-clause-least
returns-clause-least c =
    let r = c.args.self.now in
    c.first_cited-number.ensures
    ∙ ap (λ cells. find (is_omission_leaf r.model r.format r.earlier r.tuple cells) (range_with_len 1 (length r.earlier))) c.set_cell.ensures
