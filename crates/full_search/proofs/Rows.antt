-- Rows of listed values that contain a partial row, and the first that meets every constraint.
use Rattle.std.proofs.Common.{◌≡◌, ℕ, ◌<◌, Bool, true, false, not, ◌&&◌, cond, List, [], ◌∷◌, length, Option, Some, None, is_some, get_or, find, ◌∙◌, sym, ap, refl, arith, zero-add}
use Rattle.std.specs.List.{list_any}
use Rattle.std.proofs.lemmas.Bool.{false≢true, false_from_ne_true, or_parts}
use Rattle.value_text.proofs.ListLemmas.{list_any-find, none_at}
use Rattle.cov_model.specs.declared.slice.Slice.{Slice}
use Rattle.cov_model.specs.Preference.{OrdersValues}
use Rattle.cov_model.specs.believed.Sound.{ModelView, IsSound}
use Rattle.cov_model.specs.believed.Rows.{is_assigned, with_value}
use Rattle.cov_model.specs.believed.Valid.{param_numbers}
use Rattle.definitions.specs.believed.Completion.{completions, meets_rules, is_extendable, preferred_values}
use Rattle.definitions.specs.believed.Search.{breaks_a_rule, constrained_params, is_failing, is_stuck, visit}
use Rattle.definitions.specs.SliceRows.{IsOfSlice, IsSliceOf}
use Rattle.definitions.proofs.Choices.{completions_are_rows}
use Rattle.definitions.proofs.Members.{Has, has_contained, contains_member, any_member, of_any}
use Rattle.definitions.proofs.SliceLemmas.{has_params}
use Rattle.feasibility.specs.Path.{filled, reached}
use Rattle.feasibility.specs.Tree.{TreeView, ListsValues, IsListed, no_values}
use Rattle.feasibility.proofs.Extendable.{completed_is_extendable}
use Rattle.feasibility.proofs.Searching.{failing_gives, visit_gives}
use Rattle.full_search.specs.Completing.{first_row}
use Rattle.full_search.specs.Reasons.{HasNoRow, IsRowFor}
use Rattle.full_search.specs.Witnesses.{ListsEach}

-- where there is a row, there is a first one
pub row_first : (tree : TreeView) (cells row : List (Option ℕ)) → IsRowFor tree cells row → is_some (first_row tree cells) ≡ true
row_first tree cells row is =
    sym (list_any-find (meets_rules tree.model) (completions tree.values cells))
    ∙ any_member (meets_rules tree.model) (completions tree.values cells) row
    (has_contained (completions tree.values cells) row ((completions_are_rows tree.values cells row).1 (is.listed, is.contained))) is.meets

-- and where there is none, there is no first one
pub none_first : (tree : TreeView) (cells : List (Option ℕ)) → HasNoRow tree cells → first_row tree cells ≡ None
none_first tree cells none = by_case (first_row tree cells) refl
  where
    by_case : (o : Option (List (Option ℕ))) → first_row tree cells ≡ o → o ≡ None
    by_case None is = refl
    by_case (Some row) is =
        let found = of_any (meets_rules tree.model) (completions tree.values cells)
        (list_any-find (meets_rules tree.model) (completions tree.values cells) ∙ ap is_some is) in
        let given = (completions_are_rows tree.values cells found.0).0 (contains_member (completions tree.values cells) found.0 found.1) in
        absurd (false≢true (sym (none found.0 given.0 given.1) ∙ found.2))

pub first_none : (tree : TreeView) (cells : List (Option ℕ)) → first_row tree cells ≡ None → HasNoRow tree cells
first_none tree cells none row listed contained = by_case (meets_rules tree.model row) refl
  where
    by_case : (b : Bool) → meets_rules tree.model row ≡ b → b ≡ false
    by_case false is = refl
    by_case true is =
        absurd (false≢true (sym (ap is_some none) ∙ row_first tree cells row (record { listed = listed; contained = contained; meets = is })))

-- a node that fails has none
pub failing_none : (tree : TreeView) (cells : List (Option ℕ)) → ListsValues tree.model tree.values → IsListed tree.values cells
    → is_failing tree.model tree.values cells ≡ true → HasNoRow tree cells
failing_none tree cells values listed failing = first_none tree cells (failing_gives tree.model tree.values cells values listed failing)

-- a partial row of a slice has a row of the slice's values exactly if it is extendable
pub row_extends : (m : ModelView) (pref lists : List (List ℕ)) (slice : Slice) (cells row : List (Option ℕ)) → lists ≡ preferred_values m pref slice
    → OrdersValues m pref → IsSliceOf m slice → IsOfSlice m slice cells → IsRowFor (record { model = m; values = lists }) cells row
    → is_extendable m slice cells ≡ true
row_extends m pref lists slice cells row tried orders is of found =
    sym (completed_is_extendable m pref slice cells orders is of)
    ∙ ap (λ values. is_some (find (meets_rules m) (completions values cells))) (sym tried)
    ∙ row_first (record { model = m; values = lists }) cells row found

pub none_extends : (m : ModelView) (pref lists : List (List ℕ)) (slice : Slice) (cells : List (Option ℕ)) → lists ≡ preferred_values m pref slice
    → OrdersValues m pref → IsSliceOf m slice → IsOfSlice m slice cells → HasNoRow (record { model = m; values = lists }) cells
    → is_extendable m slice cells ≡ false
none_extends m pref lists slice cells tried orders is of none =
    sym (completed_is_extendable m pref slice cells orders is of)
    ∙ ap (λ values. is_some (find (meets_rules m) (completions values cells))) (sym tried)
    ∙ ap is_some (none_first (record { model = m; values = lists }) cells none)

pub found_extends : (m : ModelView) (pref lists : List (List ℕ)) (slice : Slice) (cells row : List (Option ℕ)) (found : Bool)
    → lists ≡ preferred_values m pref slice → OrdersValues m pref → IsSliceOf m slice → IsOfSlice m slice cells
    → (found ≡ true → IsRowFor (record { model = m; values = lists }) cells row)
    → (found ≡ false → HasNoRow (record { model = m; values = lists }) cells) → found ≡ is_extendable m slice cells
found_extends m pref lists slice cells row true tried orders is of met none = sym (row_extends m pref lists slice cells row tried orders is of (met refl))
found_extends m pref lists slice cells row false tried orders is of met none = sym (none_extends m pref lists slice cells tried orders is of (none refl))

-- where plain search finds nothing, there is none
pub unfound_none : (tree : TreeView) (cells : List (Option ℕ)) → IsSound tree.model → ListsValues tree.model tree.values → IsListed tree.values cells
    → (visit tree.model tree.values (constrained_params tree.model) cells).found ≡ false → HasNoRow tree cells
unfound_none tree cells sound values listed unfound =
    let row = filled tree.values (reached tree.model tree.values (constrained_params tree.model) cells) in
    first_none tree cells
    (visit_gives tree.model tree.values 0 (length tree.model.params) cells sound values listed (zero-add (length tree.model.params))
    (λ q before named. absurd (omega (arith, before)))
    ∙ ap (λ (found : Bool). cond found (Some row) None) unfound)

-- where the node without values doesn't fail, each parameter has a listed value
pub fine_lists : (m : ModelView) (lists : List (List ℕ)) → length lists ≡ length m.params → is_failing m lists (no_values m) ≡ false → ListsEach lists
fine_lists m lists as_many fine p within =
    let stuck : is_stuck m lists (no_values m) p ≡ false =
    none_passes (is_stuck m lists (no_values m)) (param_numbers m) p (has_params m p (omega (arith, within, as_many)))
    (or_parts (breaks_a_rule m (no_values m)) (list_any (is_stuck m lists (no_values m)) (param_numbers m)) fine).1 in
    by_list (get_or lists p []) (free_stuck (is_assigned (no_values m) p) _ (ap is_some (none_at (length m.params) p)) stuck)
  where
    none_passes : (test : ℕ → Bool) (xs : List ℕ) (x : ℕ) → Has xs x → list_any test xs ≡ false → test x ≡ false
    none_passes test xs x has none = false_from_ne_true (test x) (λ passes. false≢true (sym none ∙ any_member test xs x has passes))

    free_stuck : (assigned live : Bool) → assigned ≡ false → (not assigned && not live) ≡ false → live ≡ true
    free_stuck false true free h = refl
    free_stuck false false free h = absurd (false≢true (sym h))
    free_stuck true live free h = absurd (false≢true (sym free))

    by_list : (values : List ℕ) → list_any (λ v. not (breaks_a_rule m (with_value (no_values m) p v))) values ≡ true → 0 < length values
    by_list [] h = absurd (false≢true h)
    by_list (v ∷ values) h = omega arith
