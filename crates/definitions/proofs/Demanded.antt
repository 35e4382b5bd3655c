-- Every demanded set has a parameter of the model.
use Rattle.std.proofs.Common.{◌≡◌, ℕ, zero, suc, ◌<◌, min, true, not, List, [], ◌∷◌, ◌++◌, map, length, inl, inr, sym, subst, refl, arith}
use Rattle.std.specs.List.{flat_map, list_any}
use Rattle.std.proofs.lemmas.List.Elements.{All-from_recursion, recursion_from_All}
use Rattle.std.proofs.lemmas.Bool.{cases_Bool, not_from_false}
use Rattle.cov_model.specs.declared.demand.Group.{Group}
use Rattle.cov_model.specs.believed.Sound.{ModelView, IsSound, IsSoundGroup}
use Rattle.cov_model.specs.believed.Valid.{param_numbers}
use Rattle.definitions.specs.believed.Demand.{is_among, choose, singles, units, unions, choices, rising, in_order, demanded_sets}
use Rattle.definitions.proofs.SetOrder.{each_in_order}
use Rattle.definitions.proofs.Members.{Has, all_members, member_of_all, has_left, has_right, of_append, has_map, of_map, of_flat, has_filter, of_filter, of_any, among_has}
use Rattle.definitions.proofs.SliceLemmas.{of_params, has_params}

-- the sets in order are those of the list
pub of_in_order : (sets : List (List ℕ)) (x : List ℕ) → Has (in_order sets) x → Has sets x
of_in_order sets x has =
    member_of_all (Has sets) (in_order sets) x
    (All-from_recursion (Has sets) (in_order sets) (each_in_order (Has sets) sets (recursion_from_All (Has sets) sets (all_members (Has sets) sets (λ y own. own))))) has

-- the first of some items that are taken
record Taken {X : Type 0} (items pick : List X) : Type 0 where
  pub item : X
  pub listed : Has items item
  pub picked : Has pick item

first_taken : {X : Type 0} (k : ℕ) (items pick : List X) → 0 < k → Has (choose k items) pick → Taken items pick
first_taken zero items pick some has = absurd (omega arith)
first_taken (suc k) [] pick some has = absurd has
first_taken {X} (suc k) (x ∷ items) pick some has =
    elim (of_append (map (λ rest. x ∷ rest) (choose k items)) (choose (suc k) items) pick has) [
      | inl with_it ↦
          let rest = of_map (λ rest. x ∷ rest) (choose k items) pick with_it in
          record { item = x; listed = inl refl; picked = subst (λ p. Has p x) rest.2 (inl refl) }
      | inr without ↦
          let later = first_taken (suc k) items pick some without in
          record { item = later.item; listed = inr later.listed; picked = later.picked }
    ]

-- a union has the parameters of a way of each unit
record Within (ways : List (List ℕ)) (choice : List ℕ) : Type 0 where
  pub way : List ℕ
  pub listed : Has ways way
  pub inside : (q : ℕ) → Has way q → Has choice q

union_within : (taken : List (List (List ℕ))) (choice : List ℕ) (ways : List (List ℕ)) → Has (unions taken) choice → Has taken ways → Within ways choice
union_within [] choice ways has listed = absurd listed
union_within (first ∷ taken) choice ways has listed =
    let own = of_flat (λ way. map (λ others. way ++ others) (unions taken)) first choice has in
    let rest = of_map (λ others. own.0 ++ others) (unions taken) choice own.2 in
    at own.0 own.1 rest.0 rest.2 listed (union_within taken rest.0 ways rest.1)
  where
    at : (way : List ℕ) → Has first way → (others : List ℕ) → way ++ others ≡ choice → Has (first ∷ taken) ways → (Has taken ways → Within ways others)
        → Within ways choice
    at way in_first others joined (inl same) later = record {
      way = way;
      listed = subst (λ ws. Has ws way) same in_first;
      inside = λ q has. subst (λ c. Has c q) joined (has_left way others q has);
    }
    at way in_first others joined (inr there) later =
        let deeper = later there in
        record { way = deeper.way; listed = deeper.listed; inside = λ q has. subst (λ c. Has c q) joined (has_right way others q (deeper.inside q has)) }

-- a parameter of the model
record HasParam (m : ModelView) (set : List ℕ) : Type 0 where
  pub param : ℕ
  pub within : param < length m.params
  pub listed : Has set param

of_group : (m : ModelView) (group : Group) (pick : List ℕ) → IsSoundGroup (length m.params) group → Has (choose group.order group.members) pick
    → HasParam m pick
of_group m group pick sound has =
    let first = first_taken group.order group.members pick (omega (arith, sound.least)) has in
    record { param = first.item; within = member_of_all (λ p. p < length m.params) group.members first.item sound.exist first.listed; listed = first.picked }

-- each way of a unit has one
unit_has : (m : ModelView) (ways : List (List ℕ)) (way : List ℕ) → IsSound m → Has (units m) ways → Has ways way → HasParam m way
unit_has m ways way sound has own =
    elim (of_append (map (λ sub. choose sub.order sub.members) m.demand.subs) (map (λ p. (p ∷ []) ∷ []) (singles m)) ways has) [
      | inl of_sub ↦
          let found = of_map (λ sub. choose sub.order sub.members) m.demand.subs ways of_sub in
          of_group m found.0 way (member_of_all (IsSoundGroup (length m.params)) m.demand.subs found.0 sound.demand.subs found.1)
          (subst (λ ws. Has ws way) (sym found.2) own)
      | inr of_single ↦
          let found = of_map (λ p. (p ∷ []) ∷ []) (singles m) ways of_single in
          let alone = of_filter (λ p. not (list_any (λ sub. is_among sub.members p) m.demand.subs)) (param_numbers m) found.0 found.1 in
          single found.0 (of_params m found.0 alone.0) (subst (λ ws. Has ws way) (sym found.2) own)
    ]
  where
    single : (p : ℕ) → p < length m.params → Has ((p ∷ []) ∷ []) way → HasParam m way
    single p within (inl same) = record { param = p; within = within; listed = subst (λ w. Has w p) same (inl refl) }
    single p within (inr none) = absurd none

some_length : {X : Type 0} (xs : List X) (x : X) → Has xs x → 0 < length xs
some_length [] x has = absurd has
some_length (y ∷ xs) x has = omega arith

-- there is a unit
some_unit : (m : ModelView) → IsSound m → 0 < length (units m)
some_unit m sound =
    let subs : List (List (List ℕ)) = map (λ sub. choose sub.order sub.members) m.demand.subs in
    let alone : List (List (List ℕ)) = map (λ p. (p ∷ []) ∷ []) (singles m) in
    elim (cases_Bool (list_any (λ sub. is_among sub.members 0) m.demand.subs)) [
      | inl in_sub ↦
          let found = of_any (λ sub. is_among sub.members 0) m.demand.subs in_sub in
          let ways : List (List ℕ) = choose found.0.order found.0.members in
          some_length (units m) ways (has_left subs alone ways (has_map (λ sub. choose sub.order sub.members) m.demand.subs found.0 found.1))
      | inr free ↦
          let single = has_filter (λ p. not (list_any (λ sub. is_among sub.members p) m.demand.subs)) (param_numbers m) 0 (has_params m 0 sound.some)
          (not_from_false (list_any (λ sub. is_among sub.members 0) m.demand.subs) free) in
          some_length (units m) ((0 ∷ []) ∷ []) (has_right subs alone ((0 ∷ []) ∷ []) (has_map (λ p. (p ∷ []) ∷ []) (singles m) 0 single))
    ]

choice_has : (m : ModelView) (choice : List ℕ) → IsSound m → Has (choices m) choice → HasParam m choice
choice_has m choice sound has =
    let k = min m.demand.order (length (units m)) in
    elim (of_append (flat_map unions (choose k (units m))) (flat_map (λ relation. choose relation.order relation.members) m.demand.relations) choice has) [
      | inl of_units ↦
          let taken = of_flat unions (choose k (units m)) choice of_units in
          let first = first_taken k (units m) taken.0 (omega (arith, sound.demand.least, some_unit m sound)) taken.1 in
          let inside = union_within taken.0 choice first.item taken.2 first.picked in
          let own = unit_has m first.item inside.way sound first.listed inside.listed in
          record { param = own.param; within = own.within; listed = inside.inside own.param own.listed }
      | inr of_relation ↦
          let relation = of_flat (λ relation. choose relation.order relation.members) m.demand.relations choice of_relation in
          of_group m relation.0 choice
          (member_of_all (IsSoundGroup (length m.params)) m.demand.relations relation.0 sound.demand.relations relation.1) relation.2
    ]

pub demanded_has : (m : ModelView) (set : List ℕ) → IsSound m → Has (demanded_sets m) set → (q : ℕ) × (q < length m.params) × (is_among set q ≡ true)
demanded_has m set sound has =
    let chosen = of_map (rising m) (choices m) set (of_in_order (map (rising m) (choices m)) set has) in
    let own = choice_has m chosen.0 sound chosen.1 in
    let kept = has_filter (is_among chosen.0) (param_numbers m) own.param (has_params m own.param own.within) (among_has chosen.0 own.param own.listed) in
    (own.param, own.within, among_has set own.param (subst (λ s. Has s own.param) chosen.2 kept))
