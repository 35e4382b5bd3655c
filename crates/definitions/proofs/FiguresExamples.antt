-- Figures, statistics and their texts, computed on small models.
use Rattle.std.specs.Prelude.{◌≡◌, [], ◌∷◌, ◌++◌, codes, refl}
use Rattle.std.specs.Fmt.{digits}
use Rattle.definitions.specs.believed.Figures.{figures}
use Rattle.definitions.specs.believed.Statistics.{statistics, statistics_text, figures_text}
use Rattle.definitions.proofs.Examples.{declared}
use Rattle.definitions.proofs.Models.{row, table, bound, negative, mixed, barred, triple}

-- two tests, a row without a value of B and one that isn't valid; the pair of 1 and y is served by no row
bound-text : figures_text (figures bound (table (codes "00 10 01 1_")))
    ≡ codes "Tests: 2\nIncomplete tests: 1\nInvalid tests: 1\nDemanded sets: 1\nDemanded tuples: 4\nCovered tuples: 2 of 3\n"
    ++ codes "Complete sets: 0 of 1\nSets at 75 percent: 0 of 1\nSets at 50 percent: 1 of 1\nSets at 25 percent: 1 of 1\n"
unfolding digits
bound-text = refl

-- repeats count as tests, and cover once
bound-repeats : figures bound (table (codes "00 00 11"))
    ≡ record { tests = 3; incomplete = 0; invalid = 0; sets = 1; tuples = 4; servable = 3; covered = 2; complete = 0; at75 = 0; at50 = 1; at25 = 1 }
bound-repeats = refl

-- an invalid row and an incomplete one cover nothing
bound-nothing : figures bound (table (codes "01 0_"))
    ≡ record { tests = 0; incomplete = 1; invalid = 1; sets = 1; tuples = 4; servable = 3; covered = 0; complete = 0; at75 = 0; at50 = 0; at25 = 0 }
bound-nothing = refl

-- a set of which no tuple is servable is complete; a row serves only tuples that hold its negative value
negative-figures : figures negative (table (codes "000 111"))
    ≡ record { tests = 2; incomplete = 0; invalid = 0; sets = 3; tuples = 12; servable = 8; covered = 4; complete = 1; at75 = 1; at50 = 3; at25 = 3 }
negative-figures = refl

-- two negative values make a row invalid
mixed-figures : figures mixed (table (codes "000 011"))
    ≡ record { tests = 1; incomplete = 0; invalid = 1; sets = 3; tuples = 11; servable = 10; covered = 3; complete = 0; at75 = 0; at50 = 0; at25 = 3 }
mixed-figures = refl

-- exactly at 75 percent
triple-figures : figures triple (table (codes "000 011 101"))
    ≡ record { tests = 3; incomplete = 0; invalid = 0; sets = 3; tuples = 12; servable = 12; covered = 9; complete = 0; at75 = 3; at50 = 3; at25 = 3 }
triple-figures = refl

barred-statistics : statistics_text (statistics barred (declared barred) [])
    ≡ codes "Demanded sets: 3\nDemanded tuples: 16\nOmitted tuples: 5\nKept seeds: 0\nGenerated tests: 6\n"
unfolding digits
barred-statistics = refl

mixed-statistics : statistics mixed (declared mixed) ((2, row (codes "1_0")) ∷ (3, row (codes "1_1")) ∷ (4, row (codes "1_0")) ∷ [])
    ≡ record { sets = 3; tuples = 11; omitted = 1; kept = 1; tests = 5 }
mixed-statistics = refl
