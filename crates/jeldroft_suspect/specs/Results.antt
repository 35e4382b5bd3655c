-- How a table of results is read, step by step.
use Rattle.std.specs.Prelude.{List, [], ◌∷◌, ◌++◌, filter, map, Bool, if◌then◌else◌}
use Rattle.row_text.specs.RowFiles.{suite_seen}
use Rattle.suspect_tuples.specs.declared.result_file.ResultFile.{ResultFile}
use Rattle.jeldroft_suspect.specs.believed.Results.{Results, has_failed, has_run}
use Rattle.jeldroft_suspect.specs.declared.outcome.Outcome.{Outcome}

-- those of some items whose tests ran, by what became of each
abbrev pub that_ran : {X : Type 0} → List X → List Outcome → List X
that_ran [] outcomes = []
that_ran (x ∷ xs) [] = []
that_ran (x ∷ xs) (outcome ∷ outcomes) = (if has_run outcome then x ∷ [] else []) ++ that_ran xs outcomes

-- of each test that ran whether it failed
abbrev pub failures : List Outcome → List Bool
failures outcomes = map has_failed (filter has_run outcomes)

-- what a file of results holds
abbrev pub results_seen : ResultFile → Results
results_seen file = record { tests = suite_seen file.rows; failed = file.failed }
