-- In a model without sub-models each parameter is a unit.
use Rattle.std.proofs.Common.{◌≡◌, ℕ, ◌++◌, min, not, List, [], ◌∷◌, map, length, ◌∙◌, refl, ap}
use Rattle.std.specs.List.{filter, flat_map, list_any}
use Rattle.std.proofs.lemmas.List.{length-map}
use Rattle.std.proofs.lemmas.List.Folds.{flat_map-map}
use Rattle.cov_model.specs.declared.demand.Group.{Group}
use Rattle.cov_model.specs.believed.Sound.{ModelView}
use Rattle.cov_model.specs.believed.Valid.{param_numbers}
use Rattle.definitions.specs.believed.Demand.{choose, is_among, unions, units}
use Rattle.tuple_index.specs.Choices.{unit_choices}
use Rattle.tuple_index.proofs.ChoiceLemmas.{choose-map}

-- the unit of a parameter
abbrev alone : ℕ → List (List ℕ)
alone p = (p ∷ []) ∷ []

-- any is in no sub-model
all_single : (ps : List ℕ) → filter (λ p. not (list_any (λ (sub : Group). is_among sub.members p) [])) ps ≡ ps
all_single [] = refl
all_single (p ∷ ps) = ap (λ qs. p ∷ qs) (all_single ps)

units_plain : (m : ModelView) → m.demand.subs ≡ [] → units m ≡ map alone (param_numbers m)
units_plain m none =
    ap (λ (subs : List Group). map (λ sub. choose sub.order sub.members) subs ++ map alone (filter (λ p. not (list_any (λ sub. is_among sub.members p) subs)) (param_numbers m))) none
    ∙ ap (map alone) (all_single (param_numbers m))

-- the only union of the units of parameters
union_alone : (ps : List ℕ) → unions (map alone ps) ≡ ps ∷ []
union_alone [] = refl
union_alone (p ∷ ps) = ap (λ others. map (λ other. p ∷ other) others ++ []) (union_alone ps)

unions_alone : (picks : List (List ℕ)) → flat_map (λ pick. unions (map alone pick)) picks ≡ picks
unions_alone [] = refl
unions_alone (pick ∷ picks) = ap (λ sets. sets ++ flat_map (λ pick. unions (map alone pick)) picks) (union_alone pick) ∙ ap (λ sets. pick ∷ sets) (unions_alone picks)

pub choices_plain : (m : ModelView) → m.demand.subs ≡ [] → unit_choices m ≡ choose (min m.demand.order (length (param_numbers m))) (param_numbers m)
choices_plain m none =
    let as_many : length (units m) ≡ length (param_numbers m) = ap length (units_plain m none) ∙ length-map (param_numbers m) alone in
    let k = min m.demand.order (length (param_numbers m)) in
    ap (λ n. flat_map unions (choose (min m.demand.order n) (units m))) as_many
    ∙ ap (λ us. flat_map unions (choose k us)) (units_plain m none)
    ∙ ap (flat_map unions) (choose-map alone k (param_numbers m))
    ∙ flat_map-map unions (map alone) (choose k (param_numbers m))
    ∙ unions_alone (choose k (param_numbers m))
