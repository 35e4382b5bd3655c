use Rattle.std.proofs.Common.{◌≡◌, All}
use Rattle.cov_model.specs.believed.Slices.{value_numbers}
use Rattle.definitions.specs.believed.Figures.{all_rows, is_served}
use Rattle.feasibility.specs.Tree.{no_values}
use Rattle.coverage_measure.specs.Asking.{IsFor}
use Rattle.coverage_measure.proofs.CountLemmas.{IsCounted, is_over, tuples_with}
use Rattle.coverage_measure.proofs.asking.Asking.count_negative.Given as goal

-- the tuples with the values before this one are counted
abbrev pub invariant-loop-v : goal.invariant-loop-v
invariant-loop-v l =
    (l.cells ≡ no_values l.self.model.now) × All (IsFor l.self.model.now l.self.prefs.now l.self.effort) l.kept.items
    × IsCounted (is_served l.self.model.now (all_rows l.self.model.now)) (is_over l.self.model.now l.self.prefs.now l.self.effort)
    (tuples_with l.self.model.now l.members l.q) (value_numbers l.self.model.now l.q) 1 l.v l.count
