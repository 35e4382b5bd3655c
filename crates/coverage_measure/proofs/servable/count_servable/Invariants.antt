use Rattle.std.proofs.Common.{◌≡◌, All}
use Rattle.definitions.specs.believed.Figures.{all_rows, is_served}
use Rattle.feasibility.specs.Tree.{no_values}
use Rattle.tuple_index.specs.Plan.{set_at}
use Rattle.coverage_measure.specs.Asking.{IsFor}
use Rattle.coverage_measure.proofs.CountLemmas.{IsCounted, is_over, negative_tuples}
use Rattle.coverage_measure.proofs.servable.count_servable.Given as goal

-- the tuples with a negative value of a member before this one are counted
abbrev pub invariant-loop-q : goal.invariant-loop-q
invariant-loop-q l =
    (l.cells ≡ no_values l.asking.model.now) × All (IsFor l.asking.model.now l.asking.prefs.now l.asking.effort) l.kept.items
    × IsCounted (is_served l.asking.model.now (all_rows l.asking.model.now)) (is_over l.asking.model.now l.asking.prefs.now l.asking.effort)
    (negative_tuples l.asking.model.now (set_at l.plan l.set)) (set_at l.plan l.set) 1 l.q-index l.negative
