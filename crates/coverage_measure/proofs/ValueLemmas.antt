-- The members of a set get values one after another: what is known of the partial rows, and that they lead to its tuples.
use Rattle.std.proofs.Common.{◌≡◌, ℕ, suc, ◌+◌, ◌<◌, ◌≤◌, true, false, ◌||◌, cond, List, [], ◌∷◌, ◌++◌, map, length, get_or, replicate}
use Rattle.std.proofs.Common.{Option, Some, None, is_some, unwrap_or, inl, inr, refl, ◌∙◌, sym, ap, subst, arith, zero-add, length-append}
use Rattle.std.specs.Prelude.{◌==◌}
use Rattle.std.specs.List.{flat_map}
use Rattle.std.proofs.Math.Seq.{set-append_seam}
use Rattle.std.proofs.lemmas.Bool.{cases_eq, eq-eqb, false≢true, or_left}
use Rattle.std.proofs.lemmas.List.{append_assoc, get_or-set_other, get_or-set_same, map-id}
use Rattle.std.proofs.lemmas.Simd.{map-map}
use Rattle.cov_model.specs.declared.slice.Slice.{Slice}
use Rattle.cov_model.specs.declared.slice.Slice.TheVariants.{Positive, Negative}
use Rattle.cov_model.specs.believed.Sound.{ModelView}
use Rattle.cov_model.specs.believed.Slices.{slice_values}
use Rattle.cov_model.proofs.CellLemmas.{length-slice_values}
use Rattle.cov_model.specs.believed.Rows.{with_value}
use Rattle.definitions.specs.believed.Demand.{is_among, tuples_in, value_choices}
use Rattle.definitions.specs.SliceRows.{IsSliceOf}
use Rattle.definitions.proofs.Members.{of_among}
use Rattle.definitions.proofs.SliceLemmas.{value_exists}
use Rattle.definitions.proofs.SliceValues.{slice_exists}
use Rattle.feasibility.specs.Tree.{no_values}
use Rattle.feasibility.proofs.Nodes.{FitsModel-with_value}
use Rattle.tuple_index.specs.Places.{RisesFrom, has_part}
use Rattle.tuple_index.proofs.ListingLemmas.{apart_test, flat_map_same, map_flat_map, map_same, not_among_before, rises_lower}
use Rattle.tuple_index.proofs.TupleLemmas.{among_more}
use Rattle.coverage_measure.specs.Asking.{IsBefore, with_values}

-- and then the first of the parameters has one of the slice
pub before_more : (m : ModelView) (slice : Slice) (p : ℕ) (params : List ℕ) (cells : List (Option ℕ)) (v : ℕ) → IsSliceOf m slice
    → IsBefore m slice (p ∷ params) cells → is_among (get_or (slice_values m slice) p []) v ≡ true → IsBefore m slice params (with_value cells p v)
before_more m slice p params cells v own before is_value = record {
  of = record {
    fits = FitsModel-with_value m cells p v before.of.fits before.rising.1 (value_exists m slice p v (slice_exists m slice own) before.rising.1
        (of_among (get_or (slice_values m slice) p []) v is_value));
    listed = λ q given. elim (cases_eq q p) [
      | inl same ↦
          subst (λ u. is_among (get_or (slice_values m slice) q []) u ≡ true) (sym (ap (λ (cell : Option ℕ). unwrap_or cell 0) (here q same)))
          (subst (λ k. is_among (get_or (slice_values m slice) k []) v ≡ true) (sym same) is_value)
      | inr apart ↦
          let there = get_or-set_other cells p q (Some v) None apart in
          subst (λ u. is_among (get_or (slice_values m slice) q []) u ≡ true) (sym (ap (λ (cell : Option ℕ). unwrap_or cell 0) there))
          (before.of.listed q (sym (ap (λ (cell : Option ℕ). is_some cell) there) ∙ given))
    ];
  };
  rising = rises_lower params (p + 1) 0 (length m.params) (omega arith) before.rising.2;
  free = λ q listed.
      get_or-set_other cells p q (Some v) None (λ same. false≢true (sym (not_among_before params p (length m.params) before.rising.2)
      ∙ ap (is_among params) (sym same) ∙ listed)) ∙ before.free q (among_more p params q listed);
}
  where
    here : (q : ℕ) → q ≡ p → get_or (with_value cells p v) q None ≡ Some v
    here q same =
        ap (λ k. get_or (with_value cells p v) k None) same
        ∙ get_or-set_same cells p (Some v) None (omega (arith, before.rising.1, before.of.fits.as_long))

-- the parameter behind some cells gets no value
choices_none : (lists rest : List (List ℕ)) (set params values : List ℕ) (before : List (Option ℕ)) (p : ℕ) → is_among set p ≡ false
    → with_values lists params ((before ++ None ∷ []) ++ replicate (length rest) None) ≡ map (λ cells. (before ++ None ∷ []) ++ cells)
    (value_choices set (p + 1) rest)
    → with_values lists params (before ++ None ∷ replicate (length rest) None) ≡ map (λ cells. before ++ cells) (value_choices set p (values ∷ rest))
choices_none lists rest set params values before p none later =
    let choices = value_choices set (p + 1) rest in
    let front : (cells : List (Option ℕ)) → (before ++ None ∷ []) ++ cells ≡ before ++ None ∷ cells = λ cells. append_assoc before (None ∷ []) cells in
    let left : value_choices set p (values ∷ rest) ≡ map (λ cells. None ∷ cells) choices = rw none refl in
    ap (with_values lists params) (sym (front (replicate (length rest) None))) ∙ later
    ∙ map_same (λ cells. (before ++ None ∷ []) ++ cells) (λ cells. before ++ None ∷ cells) choices front
    ∙ sym (map-map (λ cells. before ++ cells) (λ cells. None ∷ cells) choices) ∙ ap (map (λ cells. before ++ cells)) (sym left)

-- or each of the listed ones
choices_some : (lists rest : List (List ℕ)) (set params values : List ℕ) (before : List (Option ℕ)) (p : ℕ) → length before ≡ p → is_among set p ≡ true
    → get_or lists p [] ≡ values
    → ((v : ℕ) → with_values lists params ((before ++ Some v ∷ []) ++ replicate (length rest) None)
    ≡ map (λ cells. (before ++ Some v ∷ []) ++ cells) (value_choices set (p + 1) rest))
    → with_values lists (p ∷ params) (before ++ None ∷ replicate (length rest) None) ≡ map (λ cells. before ++ cells) (value_choices set p (values ∷ rest))
choices_some lists rest set params values before p long among own later =
    let left : value_choices set p (values ∷ rest) ≡ flat_map (λ v. map (λ cells. Some v ∷ cells) choices) values = rw among refl in
    ap (flat_map (λ v. with_values lists params (with_value row p v))) own
    ∙ flat_map_same (λ v. with_values lists params (with_value row p v)) (λ v. map (λ cells. before ++ cells) (map (λ cells. Some v ∷ cells) choices))
    values each
    ∙ sym (map_flat_map (λ cells. before ++ cells) (λ v. map (λ cells. Some v ∷ cells) choices) values) ∙ ap (map (λ cells. before ++ cells)) (sym left)
  where
    choices : List (List (Option ℕ))
    choices = value_choices set (p + 1) rest

    row : List (Option ℕ)
    row = before ++ None ∷ replicate (length rest) None

    front : (v : ℕ) (cells : List (Option ℕ)) → (before ++ Some v ∷ []) ++ cells ≡ before ++ Some v ∷ cells
    front v cells = append_assoc before (Some v ∷ []) cells

    put : (v : ℕ) → with_value row p v ≡ (before ++ Some v ∷ []) ++ replicate (length rest) None
    put v =
        ap (λ k. with_value row k v) (sym long) ∙ set-append_seam before None (replicate (length rest) None) (Some v)
        ∙ sym (front v (replicate (length rest) None))

    each : (v : ℕ) → with_values lists params (with_value row p v) ≡ map (λ cells. before ++ cells) (map (λ cells. Some v ∷ cells) choices)
    each v =
        ap (with_values lists params) (put v) ∙ later v
        ∙ map_same (λ cells. (before ++ Some v ∷ []) ++ cells) (λ cells. before ++ Some v ∷ cells) choices (front v)
        ∙ sym (map-map (λ cells. before ++ cells) (λ cells. Some v ∷ cells) choices)

-- the parameters from number p on, of which these are the set's, get values behind those before
choices_behind : (lists rest : List (List ℕ)) (set params : List ℕ) (before : List (Option ℕ)) (p e : ℕ) → length before ≡ p → e ≡ p + length rest
    → RisesFrom p e params → ((q : ℕ) → p ≤ q → is_among set q ≡ is_among params q)
    → ((i : ℕ) → i < length rest → get_or lists (p + i) [] ≡ get_or rest i [])
    → with_values lists params (before ++ replicate (length rest) None) ≡ map (λ cells. before ++ cells) (value_choices set p rest)
choices_behind lists [] set [] before p e long end rises same own = refl
choices_behind lists [] set (q ∷ params) before p e long end rises same own = absurd (omega (arith, rises.0, rises.1, end))
choices_behind lists (values ∷ rest) set [] before p e long end rises same own =
    choices_none lists rest set [] values before p (same p (omega arith))
    (choices_behind lists rest set [] (before ++ None ∷ []) (p + 1) e (omega (arith, length-append before (None ∷ []), long)) (omega (arith, end)) tt
    (λ q above. same q (omega (arith, above)))
    (λ i within. let next : p + 1 + i ≡ p + suc i = omega arith in ap (λ k. get_or lists k []) next ∙ own (suc i) (omega (arith, within))))
choices_behind lists (values ∷ rest) set (q ∷ params) before p e long end rises same own =
    let next : (i : ℕ) → i < length rest → get_or lists (p + 1 + i) [] ≡ get_or rest i [] =
    λ i within. let further : p + 1 + i ≡ p + suc i = omega arith in ap (λ k. get_or lists k []) further ∙ own (suc i) (omega (arith, within)) in
    let at : p ≡ p + 0 = omega arith in
    elim (cases_eq q p) [
      | inl here ↦
          let first : is_among (q ∷ params) p ≡ true = or_left (q == p) (is_among params p) (eq-eqb q p here) in
          subst (λ r. with_values lists (r ∷ params) (before ++ None ∷ replicate (length rest) None)
          ≡ map (λ cells. before ++ cells) (value_choices set p (values ∷ rest)))
          (sym here)
          (choices_some lists rest set params values before p long (same p (omega arith) ∙ first) (ap (λ k. get_or lists k []) at ∙ own 0 (omega arith))
          (λ v. choices_behind lists rest set params (before ++ Some v ∷ []) (p + 1) e (omega (arith, length-append before (Some v ∷ []), long))
          (omega (arith, end))
          (subst (λ r. RisesFrom (r + 1) e params) here rises.2)
          (λ r above. same r (omega (arith, above)) ∙ ap (λ b. b || is_among params r) (apart_test q r (omega (arith, here, above)))) next))
      | inr apart ↦
          let above : RisesFrom (p + 1) e (q ∷ params) = (omega (arith, rises.0, apart), rises.1, rises.2) in
          choices_none lists rest set (q ∷ params) values before p (same p (omega arith) ∙ not_among_before (q ∷ params) p e above)
          (choices_behind lists rest set (q ∷ params) (before ++ None ∷ []) (p + 1) e (omega (arith, length-append before (None ∷ []), long))
          (omega (arith, end)) above
          (λ r higher. same r (omega (arith, higher))) next)
    ]

-- so the values of a set's members lead to its tuples in the slice
pub values_lead : (m : ModelView) (set : List ℕ) (slice : Slice) → RisesFrom 0 (length m.params) set → has_part set slice ≡ true
    → with_values (slice_values m slice) set (no_values m) ≡ tuples_in m set slice
values_lead m set slice rises part = choices ∙ at slice part
  where
    lists : List (List ℕ)
    lists = slice_values m slice

    choices : with_values lists set (no_values m) ≡ value_choices set 0 lists
    choices =
        let long : length lists ≡ length m.params = length-slice_values m slice in
        ap (λ n. with_values lists set (replicate n None)) (sym long)
        ∙ choices_behind lists lists set set [] 0 (length m.params) refl (omega (arith, long)) rises (λ q above. refl)
        (λ i within. ap (λ k. get_or lists k []) (zero-add i))
        ∙ map-id (value_choices set 0 lists)

    at : (s : Slice) → has_part set s ≡ true → value_choices set 0 (slice_values m s) ≡ tuples_in m set s
    at Positive part = refl
    at (Negative q v) part = ap (λ b. cond b (value_choices set 0 (slice_values m (Negative q v))) []) (sym part)
