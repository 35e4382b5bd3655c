-- The text of the figures of a suite, a line for each. (NIST IR 7878 for the figures; the text is this project's rule.)
use Rattle.std.specs.Prelude.{ℕ, ◌-◌, List, ◌++◌, codes}
use Rattle.definitions.specs.believed.Figures.{Figures}
use Rattle.definitions.specs.believed.Statistics.{number_line}

-- of the rows of the table
abbrev pub tests_text : Figures → List ℕ
tests_text f = number_line (codes "tests: ") f.tests ++ number_line (codes "incomplete tests: ") f.incomplete ++ number_line (codes "invalid tests: ") f.invalid

-- of the combinations of parameters whose values are to be combined: how many there are, and of how many all the
-- combinations of values that a test can have are covered, or at least so many of a hundred
abbrev pub sets_text : Figures → List ℕ
sets_text f =
    number_line (codes "combinations of parameters: ") f.sets ++ number_line (codes "combinations of parameters covered whole: ") f.complete
    ++ number_line (codes "combinations of parameters covered to 75 percent: ") f.at75 ++ number_line (codes "combinations of parameters covered to 50 percent: ") f.at50
    ++ number_line (codes "combinations of parameters covered to 25 percent: ") f.at25

-- of the combinations of their values: how many there are, how many of them no test can have, and how many one can
abbrev pub tuples_text : Figures → List ℕ
tuples_text f =
    number_line (codes "combinations of values: ") f.tuples ++ number_line (codes "combinations of values that no test can have: ") (f.tuples - f.servable)
    ++ number_line (codes "combinations of values that a test can have: ") f.servable

-- and how many of these a test of the table has, and how many none
abbrev pub covered_text : Figures → List ℕ
covered_text f = number_line (codes "combinations of values covered: ") f.covered ++ number_line (codes "combinations of values not covered: ") (f.servable - f.covered)

abbrev pub measure_text : Figures → List ℕ
measure_text f = tests_text f ++ sets_text f ++ tuples_text f ++ covered_text f
