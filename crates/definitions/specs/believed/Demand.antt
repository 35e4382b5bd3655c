-- Which sets of parameters, and which tuples of their values, are demanded. (Orders and sub-models
-- follow PICT's guide, relations of mixed strength the ACTS guide. That sub-models demand tuples, and
-- the order of sets and tuples, are this project's rules.)
use Rattle.std.specs.Prelude.{ℕ, zero, suc, ◌+◌, min, Bool, not, List, [], ◌∷◌, ◌++◌, map, length, Option, Some, None, ◌==◌, if◌then◌else◌}
use Rattle.std.specs.Ordering.{nat_cmp, is_lt, is_eq}
use Rattle.std.specs.List.{filter, flat_map, list_any}
use Rattle.std.specs.Cmp.Lexicographic.{slice_cmp}
use Rattle.cov_model.specs.declared.slice.Slice.{Slice}
use Rattle.cov_model.specs.declared.slice.Slice.TheVariants.{Positive, Negative}
use Rattle.cov_model.specs.believed.Sound.{ModelView}
use Rattle.cov_model.specs.believed.Valid.{param_numbers}
use Rattle.cov_model.specs.believed.Slices.{slices, slice_values}

-- the number is one of the list
abbrev pub is_among : List ℕ → ℕ → Bool
is_among numbers n = list_any (λ k. k == n) numbers

-- all ways to take k of the items, each in the order of the items
abbrev pub choose : {X : Type 0} → ℕ → List X → List (List X)
choose zero items = [] ∷ []
choose (suc k) [] = []
choose (suc k) (x ∷ items) = map (λ rest. x ∷ rest) (choose k items) ++ choose (suc k) items

-- the single parameters, those in no sub-model
abbrev pub singles : ModelView → List ℕ
singles m = filter (λ p. not (list_any (λ sub. is_among sub.members p) m.demand.subs)) (param_numbers m)

-- the units, each as all ways to take parameters of it: of a sub-model any as many as its order says,
-- of a single its parameter
abbrev pub units : ModelView → List (List (List ℕ))
units m =
    map (λ sub. choose sub.order sub.members) m.demand.subs ++ map (λ p. (p ∷ []) ∷ []) (singles m)

-- the unions of one way of each of these units
abbrev pub unions : List (List (List ℕ)) → List (List ℕ)
unions [] = [] ∷ []
unions (ways ∷ units) = flat_map (λ way. map (λ others. way ++ others) (unions units)) ways

-- the choices of demanded sets, before equal ones are joined: the unions over any as many units as the
-- order says, or over all where there are fewer, and the subsets of each relation
abbrev pub choices : ModelView → List (List ℕ)
choices m =
    flat_map unions (choose (min m.demand.order (length (units m))) (units m))
    ++ flat_map (λ relation. choose relation.order relation.members) m.demand.relations

-- the parameters of a choice, rising and each once
abbrev pub rising : ModelView → List ℕ → List ℕ
rising m choice = filter (is_among choice) (param_numbers m)

-- a set put into distinct sets in lexicographic order
abbrev pub with_set : List ℕ → List (List ℕ) → List (List ℕ)
with_set set [] = set ∷ []
with_set set (other ∷ sets) =
    let order = slice_cmp nat_cmp set other in
    if is_lt order then set ∷ other ∷ sets else if is_eq order then other ∷ sets else other ∷ with_set set sets

-- the distinct sets of a list, in lexicographic order
abbrev pub in_order : List (List ℕ) → List (List ℕ)
in_order [] = []
in_order (set ∷ sets) = with_set set (in_order sets)

-- the demanded sets
abbrev pub demanded_sets : ModelView → List (List ℕ)
demanded_sets m = in_order (map (rising m) (choices m))

-- the partial rows that give each parameter of a set one of its values and no other parameter any, in
-- lexicographic order; the lists are the values of the parameters from number p on
abbrev pub value_choices : List ℕ → ℕ → List (List ℕ) → List (List (Option ℕ))
value_choices set p [] = [] ∷ []
value_choices set p (values ∷ rest) =
    if is_among set p then flat_map (λ v. map (λ cells. Some v ∷ cells) (value_choices set (p + 1) rest)) values
    else map (λ cells. None ∷ cells) (value_choices set (p + 1) rest)

-- the tuples of a set in a slice; in a negative slice they have its negative value
abbrev pub tuples_in : ModelView → List ℕ → Slice → List (List (Option ℕ))
tuples_in m set Positive = value_choices set 0 (slice_values m Positive)
tuples_in m set (Negative q v) = if is_among set q then value_choices set 0 (slice_values m (Negative q v)) else []

-- the demanded tuples of a set, slice by slice: its value choices with at most one negative value
abbrev pub tuples_of : ModelView → List ℕ → List (List (Option ℕ))
tuples_of m set = flat_map (tuples_in m set) (slices m)

-- all demanded tuples
abbrev pub demanded_tuples : ModelView → List (List (Option ℕ))
demanded_tuples m = flat_map (tuples_of m) (demanded_sets m)
