-- Suites, omission lists and questions, computed on small models.
use Rattle.std.specs.Prelude.{◌≡◌, ℕ, false, List, [], ◌∷◌, map, Option, codes, refl, Some, None}
use Rattle.cov_model.specs.declared.slice.Slice.TheVariants.{Positive}
use Rattle.cov_model.specs.believed.Sound.{ModelView}
use Rattle.definitions.specs.declared.effort.Effort.TheVariants.{Within, Full}
use Rattle.definitions.specs.believed.Search.{question_cost, first_over}
use Rattle.definitions.specs.believed.Seeds.{kept_seeds, dropped_lines, asked_seeds}
use Rattle.definitions.specs.believed.Growth.{growth, Grown, gain, values_by_gain, tuples_in_play}
use Rattle.cov_model.specs.believed.Views.{IfThen}
use Rattle.cov_model.specs.declared.constraint.Rel.TheVariants.{Eq, Ne}
use Rattle.definitions.proofs.Examples.{model, param, value, two, is, number, with_rules, declared}
use Rattle.definitions.proofs.Models.{row, table, pair, triple, bound, signed, negative, barred, mixed, impossible, twin, twin_and_one}

-- without seeds, with the values in declared order
abbrev plain : ModelView → Grown
plain m = growth m (declared m) []

-- the plain cost of each question
abbrev costs : ModelView → List (List (Option ℕ)) → List ℕ
costs m questions = map (question_cost m (declared m)) questions

pair-grown : plain pair ≡ record { rows = table (codes "00 01 10 11"); omitted = []; asked = table (codes "00 01 10 11 00 01 10 11") }
pair-grown = refl

-- with each parameter's second value first: the tuples still come by rank
pair-preferred : (growth pair ((1 ∷ 0 ∷ []) ∷ (1 ∷ 0 ∷ []) ∷ []) []).rows ≡ table (codes "00 01 10 11")
pair-preferred = refl

triple-grown : plain triple
    ≡ record { rows = table (codes "000 011 101 110"); omitted = []; asked = table (codes "00_ 01_ 10_ 11_ 000 011 101 110 000 011 101 110") }
triple-grown = refl

-- for equal gain the preferred value is taken
triple-preferred : (growth triple ((0 ∷ 1 ∷ []) ∷ (0 ∷ 1 ∷ []) ∷ (1 ∷ 0 ∷ []) ∷ []) []).rows ≡ table (codes "001 010 100 111")
triple-preferred = refl

-- on the third column, with the first row closed, the second row gains 1 with u and 2 with v
triple-gains : map (gain (tuples_in_play triple Positive 2) (table (codes "000 01_ 10_ 11_"))) (table (codes "010 011")) ≡ 1 ∷ 2 ∷ []
triple-gains = refl

bound-grown : plain bound ≡ record { rows = table (codes "00 10 11"); omitted = table (codes "01"); asked = table (codes "00 01 10 11 00 10 11") }
bound-grown = refl

signed-grown : plain signed
    ≡ record { rows = table (codes "10 11 20 21 00 01"); omitted = []; asked = table (codes "10 11 20 21 10 11 20 21 00 01 00 01") }
signed-grown = refl

negative-grown : plain negative
    ≡ record {
      rows = table (codes "000 011 100 111");
      omitted = table (codes "_00 _01 _10 _11");
      asked = table (codes "_00 _01 _10 _11 00_ 01_ 000 011 000 011 10_ 11_ 100 111 100 111");
    }
negative-grown = refl

barred-rows : (plain barred).rows ≡ table (codes "100 111 102 101 110 112")
barred-rows = refl

barred-omitted : (plain barred).omitted ≡ table (codes "0_0 0_1 0_2 00_ 01_")
barred-omitted = refl

barred-asked : (plain barred).asked
    ≡ table (codes "0_0 0_1 0_2 1_0 1_1 1_2 100 111 102 00_ 01_ _01 _10 _12 100 111 102 _01 _10 _12")
barred-asked = refl

barred-costs : costs barred (plain barred).asked
    ≡ 1 ∷ 1 ∷ 1 ∷ 1 ∷ 1 ∷ 1 ∷ 1 ∷ 1 ∷ 1 ∷ 1 ∷ 1 ∷ 3 ∷ 3 ∷ 3 ∷ 1 ∷ 1 ∷ 1 ∷ 3 ∷ 3 ∷ 3 ∷ []
barred-costs = refl

-- a seed takes the place of the first row
abbrev systems : ModelView
systems = model
    (param (codes "OS") (record { names = codes "Win8" ∷ codes "Win10" ∷ []; weight = 1; negative = false } ∷ value (codes "Linux") ∷ [])
    ∷ param (codes "B") (value (codes "1") ∷ value (codes "2") ∷ value (codes "3") ∷ []) ∷ []) 2 [] []

systems-rows : (plain systems).rows ≡ table (codes "00 01 02 10 11 12")
systems-rows = refl

systems-seeded : (growth systems (declared systems) ((2, row (codes "02")) ∷ [])).rows ≡ table (codes "02 00 01 10 11 12")
systems-seeded = refl

-- a seed file with a repeated row, an empty one, one that no constraint lets be, one with two negative
-- values, and a short one
abbrev seeds : List (ℕ × List (Option ℕ))
seeds = (2, row (codes "1_0")) ∷ (3, row (codes "1_0")) ∷ (4, row (codes "___")) ∷ (5, row (codes "1_1")) ∷ (6, row (codes "011")) ∷ (7, row (codes "0__")) ∷ []

mixed-kept : kept_seeds mixed seeds ≡ table (codes "1_0 0__")
mixed-kept = refl

mixed-dropped : dropped_lines mixed seeds ≡ 5 ∷ 6 ∷ []
mixed-dropped = refl

mixed-asked_seeds : asked_seeds mixed seeds ≡ table (codes "1_0 1_1 0__")
mixed-asked_seeds = refl

mixed-rows : (growth mixed (declared mixed) seeds).rows ≡ table (codes "100 000 010 110 001")
mixed-rows = refl

mixed-omitted : (growth mixed (declared mixed) seeds).omitted ≡ table (codes "1_1")
mixed-omitted = refl

mixed-asked : (growth mixed (declared mixed) seeds).asked
    ≡ table (codes "1_0 1_1 0__ 100 00_ 000 100 000 01_ 11_ 010 010 11_ 0_1 1_1 001 001")
mixed-asked = refl

twin-grown : plain twin
    ≡ record { rows = table (codes "100 111"); omitted = table (codes "0__"); asked = table (codes "0__ 1__ 10_ _1_ 100 _11 100 _11") }
twin-grown = refl

twin-costs : costs twin (plain twin).asked ≡ 3 ∷ 3 ∷ 2 ∷ 4 ∷ 1 ∷ 3 ∷ 1 ∷ 3 ∷ []
twin-costs = refl

-- the first question above a budget
abbrev spent : ModelView → ℕ → Option (List (Option ℕ))
spent m budget = first_over m (declared m) (Within budget) (plain m).asked

-- without one there is none
twin-answered : first_over twin (declared twin) Full (plain twin).asked ≡ None
twin-answered = refl

twin-spent : spent twin 2 ≡ Some (row (codes "0__"))
twin-spent = refl

twin-spent_later : spent twin 3 ≡ Some (row (codes "_1_"))
twin-spent_later = refl

twin-unspent : spent twin 4 ≡ None
twin-unspent = refl

barred-spent : spent barred 2 ≡ Some (row (codes "_01"))
barred-spent = refl

barred-unspent : spent barred 3 ≡ None
barred-unspent = refl

twin_and_one-rows : (plain twin_and_one).rows ≡ table (codes "1000 1111 1010 1100 1001")
twin_and_one-rows = refl

twin_and_one-omitted : (plain twin_and_one).omitted ≡ table (codes "00__ 01__ 0_0_ 0_1_ 0__0 0__1")
twin_and_one-omitted = refl

twin_and_one-asked : (plain twin_and_one).asked
    ≡ table (codes "00__ 01__ 10__ 11__ 100_ 111_ 0_0_ 0_1_ _01_ _10_ 1000 1111 _010 _100 0010 0100 0__0 0__1 _0_1 _001 1000 1111 _010 _100 _001")
twin_and_one-asked = refl

-- four parameters, where A is 0, B isn't 0, and where C is 1, D isn't 0: a value of greater gain and a row
-- that comes earlier are passed over where they leave no completion
abbrev forked : ModelView
forked = with_rules (model (two (codes "A") ∷ two (codes "B") ∷ two (codes "C") ∷ two (codes "D") ∷ []) 2 [] [])
    (IfThen (is 0 Eq (number 0)) (is 1 Ne (number 0)) ∷ IfThen (is 2 Eq (number 1)) (is 3 Ne (number 0)) ∷ [])

forked-rows : (plain forked).rows ≡ table (codes "0100 1001 1111 0111 1011 1000")
forked-rows = refl

forked-omitted : (plain forked).omitted ≡ table (codes "00__ __10")
forked-omitted = refl

forked-asked : (plain forked).asked
    ≡ table (codes "00__ 01__ 10__ 11__ 010_ 100_ 111_ 0_1_ 001_ _01_ 0100 1001 1110 1111 0_10 0_11 _010 1010 1__0 _010 10_0 _010 1010 __10 0100 1001 1111 0_11 _01_ 10_0")
forked-asked = refl

-- two partial rows with the same completion
abbrev single : ModelView
single = model (two (codes "A") ∷ two (codes "B") ∷ []) 1 [] []

single-grown : growth single (declared single) ((2, row (codes "00")) ∷ (3, row (codes "11")) ∷ (4, row (codes "0_")) ∷ [])
    ≡ record { rows = table (codes "00 11"); omitted = []; asked = table (codes "00 11 0_ 00 11 0_") }
single-grown = refl

-- a seed grows in its own slice alone
negative-seeded : growth negative (declared negative) ((2, row (codes "1__")) ∷ (3, row (codes "0__")) ∷ [])
    ≡ record {
      rows = table (codes "000 011 100 111");
      omitted = table (codes "_00 _01 _10 _11");
      asked = table (codes "1__ 0__ _00 _01 _10 _11 00_ 01_ 000 011 000 011 10_ 11_ 100 111 100 111");
    }
negative-seeded = refl

-- where no row is valid there is none, and every tuple is omitted
impossible-grown : plain impossible ≡ record { rows = []; omitted = table (codes "0 1"); asked = table (codes "0 1") }
impossible-grown = refl

-- a value that gains every tuple counts too; one that gains nothing doesn't
all-gained : values_by_gain (table (codes "00")) (table (codes "0_ 1_")) (row (codes "0_")) 1 (1 ∷ 0 ∷ []) ≡ 0 ∷ []
all-gained = refl

-- the greatest gain first, and for equal gain the order of the list
by-gain : values_by_gain (table (codes "_0 _1 _2 01 11")) [] (row (codes "0_")) 1 (2 ∷ 0 ∷ 3 ∷ 1 ∷ []) ≡ 1 ∷ 2 ∷ 0 ∷ []
by-gain = refl

-- a seed that is dropped is told once, at its first line, and an empty one isn't
impossible-dropped : dropped_lines impossible ((2, row (codes "_")) ∷ (3, row (codes "0")) ∷ (4, row (codes "0")) ∷ []) ≡ 3 ∷ []
impossible-dropped = refl
