use Rattle.std.proofs.Common.{◌∙◌, length, ap, is_some, arith}
use Rattle.value_text.proofs.ListLemmas.{none_at}
use Rattle.cov_model.specs.believed.Rows.{is_assigned}
use Rattle.feasibility.proofs.Deciding.{empty_stops}
use Rattle.feasibility.proofs.tree.SearchTree.has_values.Goals as goal

pub returns-then-count-eq0-clause-stops : goal.returns-then-count-eq0-clause-stops
returns-then-count-eq0-clause-stops c e =
    empty_stops c.args.self.now.model c.args.cells.now c.args.sets.now c.loop-q.q c.requires.shape (omega (arith, c.loop-q.invariant.0))
    (ap (λ cells. is_assigned cells c.loop-q.q) c.requires.none ∙ ap is_some (none_at (length c.args.self.now.model.params) c.loop-q.q))
    (omega (arith, c.count.ensures))
