-- The demanded tuples of a set of a model are those of its plan, as cells.
use Rattle.std.proofs.Common.{inl, inr, ◌≡◌, ℕ, zero, suc, ◌+◌, ◌<◌, ◌≤◌, true, false, ◌||◌, List, [], ◌∷◌, ◌++◌, map, length, get_or, ◌∙◌, refl, sym, subst, ap, arith, zero-add}
use Rattle.std.specs.Prelude.{◌==◌, slice_set, if◌then◌else◌}
use Rattle.std.specs.List.{flat_map, range_with_len}
use Rattle.std.proofs.lemmas.Bool.{cases_eq, false≢true, eq-eqb}
use Rattle.std.proofs.lemmas.Bool.Decides.{nat_tests}
use Rattle.std.proofs.lemmas.List.{length-set, map-append, get_or-set_same, get_or-set_other}
use Rattle.std.proofs.lemmas.List.Concat.{flat_map-append}
use Rattle.std.proofs.lemmas.List.FromFn.{length-map-range_with_len, get_or-map-range_with_len}
use Rattle.std.proofs.lemmas.List.Folds.{flat_map-map}
use Rattle.cov_model.specs.declared.slice.Slice.TheVariants.{Positive, Negative}
use Rattle.cov_model.specs.believed.Sound.{ModelView}
use Rattle.cov_model.specs.believed.Valid.{param_numbers}
use Rattle.cov_model.specs.believed.Slices.{slice_values, positive_values, negative_values}
use Rattle.definitions.specs.believed.Demand.{is_among, tuples_in, tuples_of}
use Rattle.tuple_index.specs.Plan.{plan_of, tuple_cells}
use Rattle.tuple_index.specs.Places.{RisesFrom, value_lists, values_in, negative_lists, tuple_lists}
use Rattle.tuple_index.proofs.ListingLemmas.{apart_test, map_flat_map, flat_map_same, value_choices_lists, spread, not_among_before}

-- a list of lists, flattened
flat_map_flat : {X Y Z : Type 0} (f : Y → List Z) (g : X → List Y) (xs : List X) → flat_map f (flat_map g xs) ≡ flat_map (λ x. flat_map f (g x)) xs
flat_map_flat f g [] = refl
flat_map_flat f g (x ∷ xs) = flat_map-append f (g x) (flat_map g xs) ∙ ap (λ ys. flat_map f (g x) ++ ys) (flat_map_flat f g xs)

-- functions that agree on the members
pub among_more : (p : ℕ) (set : List ℕ) (q : ℕ) → is_among set q ≡ true → is_among (p ∷ set) q ≡ true
among_more p set q among = elim (p == q) as (λ b. (b || is_among set q) ≡ true) [ true ↦ refl | false ↦ among ]

flat_map_among : {Y : Type 0} (f g : ℕ → List Y) (xs : List ℕ) → ((q : ℕ) → is_among xs q ≡ true → f q ≡ g q) → flat_map f xs ≡ flat_map g xs
flat_map_among f g [] same = refl
flat_map_among f g (x ∷ xs) same =
    let here : f x ≡ g x = same x (rw (eq-eqb x x refl) refl) in
    ap (λ y. y ++ flat_map f xs) here ∙ ap (λ ys. g x ++ ys) (flat_map_among f g xs (λ q among. same q (among_more x xs q among)))

-- members are below the end
pub among_below : (set : List ℕ) (p e q : ℕ) → RisesFrom p e set → is_among set q ≡ true → q < e
among_below [] p e q rises among = absurd (false≢true among)
among_below (r ∷ set) p e q rises among =
    elim (cases_eq r q) [
      | inl here ↦ subst (λ k. k < e) here rises.1
      | inr apart ↦
          let test : (r == q) ≡ false = grind (arith, nat_tests) in
          among_below set (r + 1) e q rises.2 (subst (λ b. (b || is_among set q) ≡ true) test among)
    ]

-- where only members of a rising set give something, the others can be left out
flat_map_members : {Y : Type 0} (f : ℕ → List Y) (n p e : ℕ) (set : List ℕ) → e ≡ p + n → RisesFrom p e set
    → ((q : ℕ) → p ≤ q → is_among set q ≡ false → f q ≡ []) → flat_map f (range_with_len p n) ≡ flat_map f set
flat_map_members f zero p e [] end rises empty = refl
flat_map_members f zero p e (q ∷ set) end rises empty = absurd (omega (arith, end, rises.0, rises.1))
flat_map_members f (suc n) p e [] end rises empty =
    ap (λ ys. ys ++ flat_map f (range_with_len (p + 1) n)) (empty p (omega arith) refl)
    ∙ flat_map_members f n (p + 1) e [] (omega (arith, end)) tt (λ q le among. empty q (omega arith) among)
flat_map_members f (suc n) p e (q ∷ set) end rises empty =
    elim (cases_eq q p) [
      | inl here ↦
          let rest = flat_map_members f n (p + 1) e set (omega (arith, end)) (subst (λ r. RisesFrom (r + 1) e set) here rises.2)
          (λ r le among. empty r (omega arith) (rw (apart_test q r (omega (arith, here, le))) among)) in
          ap (λ r. f r ++ flat_map f (range_with_len (p + 1) n)) (sym here) ∙ ap (λ ys. f q ++ ys) rest
      | inr apart ↦
          let above : RisesFrom (p + 1) e (q ∷ set) = (omega (arith, rises.0, apart), rises.1, rises.2) in
          ap (λ ys. ys ++ flat_map f (range_with_len (p + 1) n)) (empty p (omega arith) (not_among_before (q ∷ set) p e above))
          ∙ flat_map_members f n (p + 1) e (q ∷ set) (omega (arith, end)) above (λ r le among. empty r (omega arith) among)
    ]

-- the tuples in the positive slice
pub positive_lists : (m : ModelView) (set : List ℕ) → RisesFrom 0 (length m.params) set
    → tuples_in m set Positive ≡ map (tuple_cells m set) (value_lists (values_in (plan_of m) Positive) set)
positive_lists m set rises =
    let long : length (map (positive_values m) (param_numbers m)) ≡ length m.params = length-map-range_with_len (positive_values m) 0 (length m.params) in
    let choices = value_choices_lists set 0 (length m.params) (map (positive_values m) (param_numbers m)) (values_in (plan_of m) Positive)
    (sym (zero-add _ ∙ long)) rises (λ i within. ap (values_in (plan_of m) Positive) (sym (zero-add i))) in
    choices ∙ ap (λ n. map (spread set 0 n) (value_lists (values_in (plan_of m) Positive) set)) long

-- the values of a parameter in a negative slice
pub own_values : (lists : List (List ℕ)) (q v i : ℕ) → q < length lists → get_or (slice_set lists q (v ∷ [])) i []
    ≡ (if i == q then v ∷ [] else get_or lists i [])
own_values lists q v i within =
    elim (cases_eq i q) [
      | inl here ↦ let test : (i == q) ≡ true = grind (arith, nat_tests) in
          rw test (ap (λ k. get_or (slice_set lists q (v ∷ [])) k []) here ∙ get_or-set_same lists q (v ∷ []) [] within)
      | inr apart ↦ let test : (i == q) ≡ false = grind (arith, nat_tests) in
          rw test (get_or-set_other lists q i (v ∷ []) [] apart)
    ]

-- the tuples with a negative value of a member
pub negative_lists_in : (m : ModelView) (set : List ℕ) (q v : ℕ) → RisesFrom 0 (length m.params) set → is_among set q ≡ true
    → tuples_in m set (Negative q v) ≡ map (tuple_cells m set) (value_lists (values_in (plan_of m) (Negative q v)) set)
negative_lists_in m set q v rises among =
    let positives : List (List ℕ) = map (positive_values m) (param_numbers m) in
    let before : length positives ≡ length m.params = length-map-range_with_len (positive_values m) 0 (length m.params) in
    let long : length (slice_values m (Negative q v)) ≡ length m.params = length-set positives q (v ∷ []) ∙ before in
    let within : q < length positives = subst (λ n. q < n) (sym before) (among_below set 0 (length m.params) q rises among) in
    let choices = value_choices_lists set 0 (length m.params) (slice_values m (Negative q v)) (values_in (plan_of m) (Negative q v))
    (sym (zero-add _ ∙ long)) rises (λ i below. own_values positives q v i within ∙ ap (values_in (plan_of m) (Negative q v)) (sym (zero-add i))) in
    rw among (choices ∙ ap (λ n. map (spread set 0 n) (value_lists (values_in (plan_of m) (Negative q v)) set)) long)

-- a parameter that is no member gives no tuple with a negative value
none_of : (m : ModelView) (set : List ℕ) (q : ℕ) (vs : List ℕ) → is_among set q ≡ false → flat_map (tuples_in m set) (map (λ v. Negative q v) vs) ≡ []
none_of m set q [] among = refl
none_of m set q (v ∷ vs) among =
    let rest = none_of m set q vs among in
    rw (among, rest) refl

-- a member gives those with one of its negative values
member_lists : (m : ModelView) (set : List ℕ) → RisesFrom 0 (length m.params) set → (q : ℕ) → is_among set q ≡ true
    → flat_map (tuples_in m set) (map (λ v. Negative q v) (negative_values m q)) ≡ map (tuple_cells m set) (negative_lists (plan_of m) set q)
member_lists m set rises q among =
    let below : q < length m.params = among_below set 0 (length m.params) q rises among in
    let own : get_or (map (negative_values m) (param_numbers m)) q [] ≡ negative_values m q =
    get_or-map-range_with_len (negative_values m) 0 (length m.params) q q [] below (zero-add q) in
    flat_map-map (tuples_in m set) (λ v. Negative q v) (negative_values m q)
    ∙ flat_map_same (λ v. tuples_in m set (Negative q v)) (λ v. map (tuple_cells m set) (value_lists (values_in (plan_of m) (Negative q v)) set))
    (negative_values m q) (λ v. negative_lists_in m set q v rises among)
    ∙ sym (map_flat_map (tuple_cells m set) (λ v. value_lists (values_in (plan_of m) (Negative q v)) set) (negative_values m q))
    ∙ ap (λ vs. map (tuple_cells m set) (flat_map (λ v. value_lists (values_in (plan_of m) (Negative q v)) set) vs)) (sym own)

-- the demanded tuples of a rising set: those in the positive slice, then those with a negative value, member by member
pub tuples_by_member : (m : ModelView) (set : List ℕ) → RisesFrom 0 (length m.params) set
    → tuples_of m set ≡ tuples_in m set Positive ++ flat_map (λ q. flat_map (tuples_in m set) (map (λ v. Negative q v) (negative_values m q))) set
tuples_by_member m set rises =
    ap (λ ts. tuples_in m set Positive ++ ts)
    (flat_map_flat (tuples_in m set) (λ q. map (λ v. Negative q v) (negative_values m q)) (param_numbers m)
    ∙ flat_map_members (λ q. flat_map (tuples_in m set) (map (λ v. Negative q v) (negative_values m q))) (length m.params) 0 (length m.params) set
    (sym (zero-add _)) rises (λ q le among. none_of m set q (negative_values m q) among))

-- they are those of its plan, as cells
pub tuples_of-lists : (m : ModelView) (set : List ℕ) → RisesFrom 0 (length m.params) set
    → tuples_of m set ≡ map (tuple_cells m set) (tuple_lists (plan_of m) set)
tuples_of-lists m set rises =
    let cells = map (tuple_cells m set) in
    let as_lists = flat_map_among (λ p. flat_map (tuples_in m set) (map (λ v. Negative p v) (negative_values m p)))
    (λ p. cells (negative_lists (plan_of m) set p)) set (member_lists m set rises) in
    tuples_by_member m set rises
    ∙ ap (λ ts. ts ++ flat_map (λ p. flat_map (tuples_in m set) (map (λ v. Negative p v) (negative_values m p))) set) (positive_lists m set rises)
    ∙ ap (λ ts. cells (value_lists (values_in (plan_of m) Positive) set) ++ ts)
    (as_lists ∙ sym (map_flat_map (tuple_cells m set) (negative_lists (plan_of m) set) set))
    ∙ sym (map-append (tuple_cells m set) (value_lists (values_in (plan_of m) Positive) set) (flat_map (negative_lists (plan_of m) set) set))
