-- Row files and their readings, computed on small models.
use Rattle.std.specs.Prelude.{◌≡◌, ℕ, ◌+◌, ◌^◌, List, [], ◌∷◌, Some, None, Ok, Err, codes, refl}
use Rattle.definitions.specs.believed.RowReading.{Seed, Suite, UnknownColumn, UnknownValue, NoHeader, Twice, Missing, TooManyRows, Width, read_rows, count_fault}
use Rattle.definitions.specs.RowReading.{notes_of}
use Rattle.definitions.proofs.Models.{row, pair, bound, mixed}

-- seed rows with an unknown column, a repeated row, an empty line and an unknown value
abbrev seeds : List ℕ
seeds = codes "C\tZ\tA\tB\nv\tq\t2\t\nv\tq\t2\t\n\n~m\tq\t2\t\n~m\tq\t1\t~n\nk\tq\t1\t\n"

mixed-seeds : read_rows mixed Seed seeds
    ≡ Ok (record {
      rows = (2, row (codes "1_0")) ∷ (3, row (codes "1_0")) ∷ (5, row (codes "1_1")) ∷ (6, row (codes "011")) ∷ (7, row (codes "0__")) ∷ [];
      notes = (1, UnknownColumn) ∷ (7, UnknownValue) ∷ [];
    })
mixed-seeds = refl

-- a seed file may leave a parameter out, a suite may not
mixed-partial : read_rows mixed Seed (codes "C\nv\n") ≡ Ok (record { rows = (2, row (codes "__0")) ∷ []; notes = [] })
mixed-partial = refl

mixed-missing : read_rows mixed Suite (codes "C\nv\n") ≡ Err (Missing 0)
mixed-missing = refl

pair-missing : read_rows pair Suite (codes "A\n1\n") ≡ Err (Missing 1)
pair-missing = refl

-- a suite with a row that ends early; an empty cell of the header is an unknown column
bound-suite : read_rows bound Suite (codes "A\tB\n1\tx\n2\tx\n1\ty\n2\t\n")
    ≡ Ok (record { rows = (2, row (codes "00")) ∷ (3, row (codes "10")) ∷ (4, row (codes "01")) ∷ (5, row (codes "1_")) ∷ []; notes = [] })
bound-suite = refl

bound-columns : read_rows bound Suite (codes "\n\tB\t A \n7\tX\t1\n7\tz\tw\n\ty\n")
    ≡ Ok (record { rows = (3, row (codes "00")) ∷ (4, row (codes "__")) ∷ (5, row (codes "_1")) ∷ []; notes = (2, UnknownColumn) ∷ (4, UnknownValue) ∷ (4, UnknownValue) ∷ [] })
bound-columns = refl

-- the faults in their order
none : read_rows pair Suite [] ≡ Err NoHeader
none = refl

none-empty : read_rows pair Seed (codes "\n\r\n") ≡ Err NoHeader
none-empty = refl

pair-twice : read_rows pair Suite (codes "A\tB\tA\n1\tx\t1\n") ≡ Err (Twice 1)
pair-twice = refl

pair-twice_first : read_rows pair Suite (codes "\nA\ta\n1\tx\t1\n") ≡ Err (Twice 2)
pair-twice_first = refl

pair-seed_twice : read_rows pair Seed (codes "A\ta\n") ≡ Err (Twice 1)
pair-seed_twice = refl

pair-wide : read_rows pair Suite (codes "A\tB\n1\tx\ty\n") ≡ Err (Width 2)
pair-wide = refl

pair-wide_first : read_rows pair Seed (codes "A\n1\n\n1\tx\n1\tx\n") ≡ Err (Width 4)
pair-wide_first = refl

pair-missing_first : read_rows pair Suite (codes "B\n1\tx\n") ≡ Err (Missing 0)
pair-missing_first = refl

-- the notes alone, also where the file is refused
pair-notes : notes_of pair (codes "A\tA\tZ\n1\tw\n") ≡ (1, UnknownColumn) ∷ (2, UnknownValue) ∷ []
pair-notes = refl

none-notes : notes_of pair [] ≡ []
none-notes = refl

-- 2^20 rows are allowed, one more aren't
most : count_fault (2 ^ 20) ≡ None
most = refl

more : count_fault (2 ^ 20 + 1) ≡ Some (TooManyRows 1048577)
more = refl
