-- How the names of a scope are looked up.
use Rattle.std.proofs.Common.{◌≡◌, ℕ, Bool, true, false, cond, List, map, length, get_or, Some, None, refl, sym, ◌∙◌, ap, position, nat_lt}
use Rattle.std.proofs.lemmas.Bool.{ltb-true, ltb-false}
use Rattle.std.proofs.lemmas.List.Folds.{find_at}
use Rattle.std.proofs.lemmas.Option.{slice_get-get_or, slice_get_past}
use Rattle.std.specs.List.{find, list_any, position_or_len}
use Rattle.std.specs.Prelude.{option_map}
use Rattle.std.specs.Str.{bytes_eq}
use Rattle.value_text.specs.believed.Texts.{folded}
use Rattle.value_text.proofs.ListLemmas.{list_any-map}
use Rattle.model_parse.specs.ValueSteps.{is_known, place_of}
use Rattle.acts_front.specs.believed.ParameterLines.{Declared, has_name}
use Rattle.acts_front.proofs.Mapped.{position-map}

module _ {X : Type 0} (test : X → Bool) (xs : List X) where
  -- the first item that passes stands at the first place that does
  pub found_at : (d : X) (place : ℕ) → position test xs ≡ Some place → find test xs ≡ Some (get_or xs place d)
  found_at d place is = at (nat_lt (position_or_len test xs) (length xs)) refl is
    where
      at : (within : Bool) → nat_lt (position_or_len test xs) (length xs) ≡ within
          → cond within (Some (position_or_len test xs)) None ≡ Some place → find test xs ≡ Some (get_or xs place d)
      at true e same =
          let here : position_or_len test xs ≡ place = cc in
          find_at test xs ∙ slice_get-get_or xs (position_or_len test xs) d (ltb-true _ _ e) ∙ ap (λ n. Some (get_or xs n d)) here
      at false e same = cc

  pub found_nowhere : position test xs ≡ None → find test xs ≡ None
  found_nowhere is = at (nat_lt (position_or_len test xs) (length xs)) refl is
    where
      at : (within : Bool) → nat_lt (position_or_len test xs) (length xs) ≡ within → cond within (Some (position_or_len test xs)) None ≡ None → find test xs ≡ None
      at true e same = cc
      at false e same = find_at test xs ∙ slice_get_past xs (position_or_len test xs) (ltb-false _ _ e)

-- the names are kept as the case rule compares them
module _ {D : Type 0} (seen : D → Declared) (fold : Bool) (name : List ℕ) (items : List D) (names : List (List ℕ)) (kept : names ≡ map (λ d. folded fold (seen d).name) items) where
  pub declares : is_known fold names name ≡ list_any (has_name fold name) (map seen items)
  declares =
      ap (list_any (bytes_eq (folded fold name))) kept ∙ list_any-map (bytes_eq (folded fold name)) (λ d. folded fold (seen d).name) items
      ∙ sym (list_any-map (has_name fold name) seen items)

  placed : place_of fold names name ≡ position (has_name fold name) (map seen items)
  placed =
      ap (position (bytes_eq (folded fold name))) kept ∙ position-map (λ d. folded fold (seen d).name) (bytes_eq (folded fold name)) items
      ∙ sym (position-map seen (has_name fold name) items)

  pub kind_at : (d : Declared) (place : ℕ) → place_of fold names name ≡ Some place
      → option_map (λ param. param.kind) (find (has_name fold name) (map seen items)) ≡ Some (get_or (map seen items) place d).kind
  kind_at d place is = ap (option_map (λ param. param.kind)) (found_at (has_name fold name) (map seen items) d place (sym placed ∙ is))

  pub kind_nowhere : place_of fold names name ≡ None → option_map (λ param. param.kind) (find (has_name fold name) (map seen items)) ≡ None
  kind_nowhere is = ap (option_map (λ param. param.kind)) (found_nowhere (has_name fold name) (map seen items) (sym placed ∙ is))
