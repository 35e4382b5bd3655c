use Rattle.std.proofs.Common.{◌≡◌, ℕ, List, Option, None, All, map, take}
use Rattle.std.specs.List.{flat_map}
use Rattle.definitions.specs.believed.Demand.{demanded_sets, demanded_tuples, tuples_of}
use Rattle.definitions.specs.believed.Figures.{is_served, tests_of}
use Rattle.definitions.specs.believed.Search.{first_over}
use Rattle.coverage_measure.specs.Asking.{IsFor}
use Rattle.coverage_measure.specs.SetFigures.{IsWithin, set_figures}
use Rattle.coverage_measure.proofs.measuring.measure_sets.Given as goal

-- the sets before this one are measured
abbrev pub invariant-loop-set : goal.invariant-loop-set
invariant-loop-set l =
    All (IsFor l.asking.model.now l.asking.prefs.now l.asking.effort) l.kept.items × IsWithin l.set l.figures
    × (first_over l.asking.model.now l.asking.prefs.now l.asking.effort (flat_map (tuples_of l.asking.model.now) (take l.set (demanded_sets l.asking.model.now))) ≡ None)
    × ((rows : List (List (Option ℕ)))
    → l.marks ≡ map (is_served l.asking.model.now (tests_of l.asking.model.now rows)) (demanded_tuples l.asking.model.now)
    → l.figures ≡ set_figures l.asking.model.now rows (take l.set (demanded_sets l.asking.model.now)))
