-- Files of results, their suspicious tuples and the text of these, computed on a small model.
use Rattle.std.specs.Prelude.{◌≡◌, ℕ, true, false, List, [], ◌∷◌, ◌++◌, Ok, Err, codes, refl}
use Rattle.std.specs.Fmt.{digits}
use Rattle.definitions.specs.believed.RowReading.{UnknownColumn, UnknownValue, Missing}
use Rattle.definitions.proofs.Models.{row, table, pair, triple}
use Rattle.suspect_tuples.specs.believed.ResultReading.{Rows, NoResult, BadResult, ResultReading, read_results}
use Rattle.suspect_tuples.specs.believed.Suspects.{candidate_count, failing_rows, suspects}
use Rattle.suspect_tuples.specs.believed.SuspectsText.{suspects_text}

-- four rows of which the second failed
abbrev four : List ℕ
four = codes "A\tB\tC\t:result\n1\tx\tu\tpass\n1\ty\tv\tfail\n2\tx\tv\tpass\n2\ty\tu\tpass\n"

abbrev four_rows : ResultReading
four_rows = record {
  rows = record { rows = (2, row (codes "000")) ∷ (3, row (codes "011")) ∷ (4, row (codes "101")) ∷ (5, row (codes "110")) ∷ []; notes = [] };
  failed = false ∷ true ∷ false ∷ false ∷ [];
}

four-read : read_results triple four ≡ Ok four_rows
four-read = refl

four-text : suspects_text (suspects triple (table (codes "000 011 101 110")) four_rows.failed)
    ≡ codes "Passing tests: 3\nFailing tests: 1\nIncomplete tests: 0\nSuspicious tuples: 3\nsuspect 0=0 1=1 : 1 failing\nsuspect 0=0 2=1 : 1 failing\nsuspect 1=1 2=1 : 1 failing\n"
unfolding digits
four-text = refl

-- one row more that passed takes the last tuple away
five-text : suspects_text (suspects triple (table (codes "000 011 101 110 111")) (four_rows.failed ++ false ∷ []))
    ≡ codes "Passing tests: 4\nFailing tests: 1\nIncomplete tests: 0\nSuspicious tuples: 2\nsuspect 0=0 1=1 : 1 failing\nsuspect 0=0 2=1 : 1 failing\n"
unfolding digits
five-text = refl

-- a value that no passing row has is listed, and no tuple with it; repeats count, and incomplete rows don't
alone : suspects triple (table (codes "000 010 111 111 1_1 01_")) (false ∷ false ∷ true ∷ true ∷ false ∷ true ∷ [])
    ≡ record { passing = 2; failing = 2; incomplete = 2; found = ((0, 1) ∷ [], 2) ∷ ((2, 1) ∷ [], 2) ∷ [] }
alone = refl

-- 2 failing rows, and 6 sets of one or two parameters
candidates : candidate_count triple (failing_rows (table (codes "000 111 1_1 111")) (false ∷ true ∷ true ∷ true ∷ [])) ≡ 12
candidates = refl

-- case doesn't count in results, nor do spaces; of two result columns the first counts, and the second is unknown
mixed-case : read_results pair (codes "B\t:Result\tA\t:RESULT\nx\tPass \t1\t\ny\t FAIL\t3\tpass\n")
    ≡ Ok (record {
      rows = record { rows = (2, row (codes "00")) ∷ (3, row (codes "_1")) ∷ []; notes = (1, UnknownColumn) ∷ (3, UnknownValue) ∷ [] };
      failed = false ∷ true ∷ [];
    })
mixed-case = refl

-- the faults in their order
no_column : read_results pair (codes "A\tB\n1\tx\n") ≡ Err NoResult
no_column = refl

no_parameter : read_results pair (codes "A\tresult\n1\tx\n") ≡ Err (Rows (Missing 1))
no_parameter = refl

neither : read_results pair (codes "A\tB\t:result\n1\tx\tpass\n1\ty\tmaybe\n2\tx\t\n") ≡ Err (BadResult 3)
neither = refl

empty : read_results pair (codes "A\tB\t:result\n\n1\tx\t\n") ≡ Err (BadResult 3)
empty = refl

missing : read_results pair (codes ":result\tA\tB\npass\t1\tx\n\npass\t1\ty\n \t2\tx\n") ≡ Err (BadResult 5)
missing = refl

cut : read_results pair (codes "A\tB\t:result\n1\tx\tpass\n1\ty\n") ≡ Err (BadResult 3)
cut = refl
