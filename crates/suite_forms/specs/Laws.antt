-- What holds of the text of a suite in each form.
use Rattle.std.specs.Prelude.{◌≡◌, ℕ, ◌<◌, true, List, [], Option, Some, Ok, All, length}
use Rattle.json.specs.Json.{document}
use Rattle.comma_rows.specs.Reading.{comma_texts}
use Rattle.cov_model.specs.believed.Sound.{ModelView}
use Rattle.cov_model.specs.believed.Valid.{is_row}
use Rattle.definitions.specs.believed.Report.{report_text}
use Rattle.row_forms.specs.declared.row_form.RowForm.TheVariants.{Tsv, Csv, Json, Markdown}
use Rattle.row_forms.specs.Json.{table_value}
use Rattle.row_forms.specs.Laws.{texts_of}
use Rattle.row_forms.specs.Markdown.{markdown_texts}
use Rattle.suite_forms.specs.believed.Suites.{param_names, spelled_rows, suite_text}

-- the tab-separated text of complete rows is their report
abbrev pub TsvIsReport : Type 0
TsvIsReport = (m : ModelView) (rows : List (List (Option ℕ))) → All (λ row. is_row m row ≡ true) rows → suite_text Tsv m rows ≡ report_text m rows

-- the csv, read by RFC 4180, has no fault and gives the names of the parameters and the cells, in order
abbrev pub CsvReadsBack : Type 0
CsvReadsBack = (m : ModelView) (rows : List (List (Option ℕ))) → 0 < length m.params
    → comma_texts (suite_text Csv m rows) ≡ Ok (texts_of (param_names m) (spelled_rows m [] rows))

-- the json, read by RFC 8259, is an array of objects with the names of the parameters and the cells, in order
abbrev pub JsonReadsBack : Type 0
JsonReadsBack = (m : ModelView) (rows : List (List (Option ℕ))) → document (suite_text Json m rows) ≡ Some (table_value (param_names m) (spelled_rows m [] rows))

-- the lines of the markdown give the names of the parameters and the cells, in order
abbrev pub MarkdownReadsBack : Type 0
MarkdownReadsBack = (m : ModelView) (rows : List (List (Option ℕ))) → 0 < length m.params
    → markdown_texts (suite_text Markdown m rows) ≡ texts_of (param_names m) (spelled_rows m [] rows)
