-- In which order the values of each parameter are taken: as declared, shuffled if a number is given,
-- then stably sorted by falling weight. (PICT's guide has the weights; the shuffle is this project's
-- rule, and its words are those of PCG's XSH RR 64/32 with stream 1.)
use Rattle.std.specs.Prelude.{ℕ, zero, suc, ◌+◌, ◌-◌, ◌%◌, List, [], ◌∷◌, length, Option, Some, None, swap, nat_le, if◌then◌else◌, slice_index_or}
use Rattle.std.specs.List.{range_with_len}
use Rattle.rand_pcg.specs.Lcg.{Lcg, started, increment_of}
use Rattle.rand_pcg.specs.Pcg.{pcg32, multiplier_64}
use Rattle.cov_model.specs.declared.parameter.Param.{Param}
use Rattle.cov_model.specs.declared.parameter.Value.{Value}
use Rattle.cov_model.specs.believed.Sound.{ModelView}
use Rattle.cov_model.specs.believed.Meaning.{no_value}

-- a list and the generator after a shuffle of the places up to this one: from it down to place 1 a
-- word w is drawn for each place i, and places i and w mod (i + 1) swap
abbrev pub shuffled_to : ℕ → List ℕ → Lcg → List ℕ × Lcg
shuffled_to zero values generator = (values, generator)
shuffled_to (suc i) values generator =
    shuffled_to i (swap values (i + 1) ((pcg32 generator).0 % (i + 2))) (pcg32 generator).1

-- the same of all its places
abbrev pub shuffled : List ℕ → Lcg → List ℕ × Lcg
shuffled values generator = shuffled_to (length values - 1) values generator

-- a value goes before the first that isn't heavier
abbrev pub insert_by_weight : (ℕ → ℕ) → ℕ → List ℕ → List ℕ
insert_by_weight weight v [] = v ∷ []
insert_by_weight weight v (w ∷ rest) =
    if nat_le (weight w) (weight v) then v ∷ w ∷ rest else w ∷ insert_by_weight weight v rest

-- a list by falling weight, in which values of one weight keep their order
abbrev pub by_falling_weight : (ℕ → ℕ) → List ℕ → List ℕ
by_falling_weight weight [] = []
by_falling_weight weight (v ∷ rest) = insert_by_weight weight v (by_falling_weight weight rest)

-- the weight of the value of a number
abbrev pub weight_in : List Value → ℕ → ℕ
weight_in values v = (slice_index_or values v no_value).weight

-- the declared order
abbrev pub declared_order : List Value → List ℕ
declared_order values = range_with_len 0 (length values)

-- the order of one parameter's values, and the generator after it
abbrev pub preferred : List Value → Option Lcg → List ℕ × Option Lcg
preferred values None = (by_falling_weight (weight_in values) (declared_order values), None)
preferred values (Some generator) =
    let drawn = shuffled (declared_order values) generator in
    (by_falling_weight (weight_in values) drawn.0, Some drawn.1)

-- the orders of the parameters, one after another
abbrev pub preferences : List Param → Option Lcg → List (List ℕ)
preferences [] generator = []
preferences (param ∷ rest) generator =
    (preferred param.values generator).0 ∷ preferences rest (preferred param.values generator).1

-- the generator that a number starts
abbrev pub generator_of : Option ℕ → Option Lcg
generator_of None = None
generator_of (Some number) = Some (started 64 multiplier_64 number (increment_of 64 1))

-- the preference order of each parameter's values
abbrev pub preference : ModelView → Option ℕ → List (List ℕ)
preference m shuffle = preferences m.params (generator_of shuffle)
