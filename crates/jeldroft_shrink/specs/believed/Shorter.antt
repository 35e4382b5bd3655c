-- What a table is worth that `shrink` writes. (This project's rule.)
use Rattle.std.specs.Prelude.{◌≡◌, ℕ, List, [], Option, Ok}
use Rattle.std.specs.List.{enumerate_from}
use Rattle.cov_model.specs.believed.Sound.{ModelView}
use Rattle.definitions.specs.believed.RowReading.{Suite, read_rows}
use Rattle.definitions.specs.believed.Verdict.{IsAccepted}
use Rattle.row_forms.specs.declared.row_form.RowForm.{RowForm}
use Rattle.row_forms.specs.declared.row_form.RowForm.TheVariants.{Tsv}
use Rattle.shorter_suites.specs.believed.Laws.{rows_of}
use Rattle.shorter_suites.specs.believed.Shrinking.{IsShrunk}
use Rattle.suite_forms.specs.believed.Suites.{suite_text}
use Rattle.jeldroft_shrink.specs.believed.Reading.{Lines}

-- rows in place of given ones
pub record IsShorterTable (m : ModelView) (form : RowForm) (given seeds : Lines) (rows : List (List (Option ℕ))) : Type 0 where
  -- every row is valid, each demanded tuple that a given row serves is served by one of them, there are no more of them
  -- than given rows, no two are the same, and each seed row that a given row contains is contained in one of them
  pub shrunk : IsShrunk m (rows_of given) (rows_of seeds) rows
  -- a proof that is accepted with the given rows is accepted with these, whatever lines they stand on
  pub accepted : (lines : Lines) (proof : List ℕ) → rows_of lines ≡ rows → IsAccepted m given proof → IsAccepted m lines proof
  -- a table whose cells tabs part is read as a suite of these rows, from line 2 on
  pub read : form ≡ Tsv → read_rows m Suite (suite_text form m rows) ≡ Ok (record { rows = enumerate_from 2 rows; notes = [] })

-- a text is the table of rows that are a shorter suite
abbrev pub IsTextOf : RowForm → ModelView → Lines → Lines → List ℕ → Type 0
IsTextOf form m given seeds text =
    (rows : List (List (Option ℕ))) × IsShrunk m (rows_of given) (rows_of seeds) rows × (text ≡ suite_text form m rows)
