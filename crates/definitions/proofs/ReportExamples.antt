-- Reports and the rows that they hold, computed on small models.
use Rattle.std.specs.Prelude.{◌≡◌, ℕ, false, List, [], ◌∷◌, Option, Some, codes, refl}
use Rattle.cov_model.specs.believed.Sound.{ModelView}
use Rattle.definitions.specs.believed.Report.{report_text}
use Rattle.definitions.specs.believed.RowFile.{rows_of}
use Rattle.definitions.proofs.Examples.{model, two, param, value, negative_value}

-- a value with two names, which take turns
abbrev systems : ModelView
systems = model
    (param (codes "OS") (record { names = codes "Win8" ∷ codes "Win10" ∷ []; weight = 1; negative = false } ∷ value (codes "Linux") ∷ [])
    ∷ param (codes "B") (value (codes "1") ∷ value (codes "2") ∷ value (codes "3") ∷ []) ∷ []) 2 [] []

abbrev six_rows : List (List (Option ℕ))
six_rows = (Some 0 ∷ Some 0 ∷ []) ∷ (Some 0 ∷ Some 1 ∷ []) ∷ (Some 0 ∷ Some 2 ∷ []) ∷ (Some 1 ∷ Some 0 ∷ []) ∷ (Some 1 ∷ Some 1 ∷ []) ∷ (Some 1 ∷ Some 2 ∷ []) ∷ []

systems-text : report_text systems six_rows ≡ codes "OS\tB\nWin8\t1\nWin10\t2\nWin8\t3\nLinux\t1\nLinux\t2\nLinux\t3\n"
systems-text = refl

systems-rows : rows_of systems (report_text systems six_rows) ≡ six_rows
systems-rows = refl

-- a negative value is printed with the mark before its name
abbrev signed : ModelView
signed = model (param (codes "A") (negative_value (codes "-1") ∷ value (codes "0") ∷ []) ∷ two (codes "B") ∷ []) 2 [] []

signed-text : report_text signed ((Some 0 ∷ Some 1 ∷ []) ∷ []) ≡ codes "A\tB\n~-1\t1\n"
signed-text = refl

-- lines that end with a carriage return, a byte-order mark, columns in another order, a cell that names
-- no value, and no line feed at the end: the complete rows are read
signed-rows : rows_of signed (0xef ∷ 0xbb ∷ 0xbf ∷ codes "b\tOther\tA\r\n1\t\t0\r\n\r\n1\tx\t~-1\n1\t2\t3\n1\t2\t-1\n0 \t2\t 0")
    ≡ (Some 1 ∷ Some 1 ∷ []) ∷ (Some 0 ∷ Some 1 ∷ []) ∷ (Some 1 ∷ Some 0 ∷ []) ∷ []
signed-rows = refl

-- a header without a column for B, and a line with more cells than the header, give no rows
signed-missing : rows_of signed (codes "A\n0\n") ≡ []
signed-missing = refl

signed-wide : rows_of signed (codes "A\tB\n0\t1\t1\n") ≡ []
signed-wide = refl
