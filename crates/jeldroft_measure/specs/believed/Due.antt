-- Which text a model file and a table of tests call for when the coverage of the table is measured, or which cause for
-- none. (NIST IR 7878 for the figures; the causes and their order are this project's rules.)
use Rattle.std.specs.Prelude.{ℕ, Bool, List, map, Option, Some, None, Result, Ok, option_map}
use Rattle.cov_model.specs.believed.Sound.{ModelView}
use Rattle.definitions.specs.declared.effort.Effort.{Effort}
use Rattle.definitions.specs.declared.effort.Effort.TheVariants.{Within, Full}
use Rattle.definitions.specs.believed.Figures.{Figures, figures}
use Rattle.definitions.specs.believed.Pairs.{pairs_of}
use Rattle.definitions.specs.believed.Search.{first_measured_over}
use Rattle.tuple_index.specs.believed.PlanFault.{limit_passed}
use Rattle.command_line.specs.believed.Stops.{stop_of_plan}
use Rattle.command_line.specs.declared.stop.Stop.{Stop}
use Rattle.command_line.specs.declared.stop.Stop.TheVariants.{Spent}
use Rattle.jeldroft_args.specs.declared.measure.Measure.{Measure}
use Rattle.jeldroft_files.specs.believed.Models.{opts_of}
use Rattle.jeldroft_files.specs.believed.Tables.{is_comma}
use Rattle.jeldroft_files.specs.declared.failure.Cause.{Cause}
use Rattle.jeldroft_inputs.specs.believed.Inputs.{CallsFor, and_then, tests_of, unless}
use Rattle.jeldroft_measure.specs.believed.MeasureText.{measure_text}

-- what a query may cost: without a budget whatever it takes
abbrev pub effort_of : Option ℕ → Effort
effort_of None = Full
effort_of (Some budget) = Within budget

-- the stop of the first query that costs more
abbrev pub spent_at : Effort → Option (List (Option ℕ)) → Option Stop
spent_at Full over = None
spent_at (Within budget) over = option_map (λ query. Spent budget (pairs_of query)) over

-- the figures of the tests in a table; none where the model demands more combinations than it may, at a table that gives
-- no tests, and where a query costs too much
abbrev pub measured : Effort → ModelView → Bool → Option (List ℕ) → Result Figures Cause
measured effort m comma table =
    unless (option_map stop_of_plan (limit_passed m)) (and_then (tests_of m comma table) (λ reading.
    unless (spent_at effort (first_measured_over m effort)) (Ok (figures m (map (λ row. row.1) reading.rows)))))

abbrev pub text_of : Measure → ModelView → Option (List ℕ) → Result (List ℕ) Cause
text_of args m table = and_then (measured (effort_of args.budget) m (is_comma args.delimiter args.table) table) (λ figures. Ok (measure_text figures))

-- the two files, the model file and the table, call for this text or cause
abbrev pub Due : Measure → Option (List ℕ) → Option (List ℕ) → Result (List ℕ) Cause → Type 0
Due args model table = CallsFor (opts_of args.model args.strength) model (λ m. text_of args m table)
