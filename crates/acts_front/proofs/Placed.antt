-- The parameters of names, by their places.
use Rattle.std.proofs.Common.{◌≡◌, ℕ, ◌<◌, Bool, true, false, not, cond, List, [], ◌∷◌, length, map, get_or, Some, refl, sym, ap, ◌∙◌, one-add}
use Rattle.std.proofs.lemmas.Option.{same_Some}
use Rattle.std.proofs.lemmas.Bool.{cond-true, ltb-true, not-false}
use Rattle.std.proofs.lemmas.List.Sums.{prefix_len_stops}
use Rattle.std.proofs.lemmas.Slice.Eq.{bytes_eq-Decides}
use Rattle.std.specs.List.{position_or_len}
use Rattle.std.specs.Prelude.{find, nat_lt, option_map, position, unwrap_or}
use Rattle.std.specs.Str.{bytes_eq}
use Rattle.value_text.specs.believed.Texts.{folded, is_same_text}
use Rattle.value_text.proofs.ListLemmas.{list_any-map, list_any-position}
use Rattle.model_parse.specs.ValueSteps.{place_of}
use Rattle.type_check.specs.believed.Checking.{param_named}
use Rattle.acts_front.specs.believed.Meaning.{no_parameter, number_named}
use Rattle.acts_front.specs.believed.ParameterLines.{Parameter, has_name, is_declared, kind_named}
use Rattle.acts_front.specs.believed.SameModels.{param_is}
use Rattle.acts_front.specs.declared.kind.Kind.{Kind}
use Rattle.acts_front.proofs.GivenLists.{declared_as, scope_of}
use Rattle.acts_front.proofs.Mapped.{position-map}

-- no parameter, at no line
abbrev pub no_found : ℕ × Parameter
no_found = (0, no_parameter)

module _ (fold : Bool) (name : List ℕ) where
  abbrev is_called : ℕ × Parameter → Bool
  is_called found = is_same_text fold name found.1.name

  -- its place
  abbrev pub place_in : List (ℕ × Parameter) → ℕ
  place_in params = position_or_len is_called params

  pub kind_at : (params : List (ℕ × Parameter)) (kind : Kind) → kind_named (scope_of fold (map declared_as params)) name ≡ Some kind
      → (get_or params (place_in params) no_found).1.kind ≡ kind
  kind_at [] kind is = absurd (cc)
  kind_at (found ∷ params) kind is = by (is_called found) refl is (kind_at params kind)
    where
      by : (called : Bool) → is_called found ≡ called → option_map (λ d. d.kind) (cond called (Some (declared_as found)) (find (has_name fold name) (map declared_as params))) ≡ Some kind
          → (kind_named (scope_of fold (map declared_as params)) name ≡ Some kind → (get_or params (place_in params) no_found).1.kind ≡ kind)
          → (get_or (found ∷ params) (place_in (found ∷ params)) no_found).1.kind ≡ kind
      by true called e later = rw called (same_Some _ _ e)
      by false called e later = rw (called, one-add) (later e)

  -- a name that is declared has a place
  pub record IsPlaced (params : List (ℕ × Parameter)) : Type 0 where
    pub within : place_in params < length params
    pub same : folded fold name ≡ folded fold (get_or params (place_in params) no_found).1.name
    pub as_number : number_named fold (map (λ found. found.1) params) name ≡ place_in params
    pub as_read : place_of fold (map (λ (found : ℕ × Parameter). folded fold found.1.name) params) name ≡ Some (place_in params)
    pub as_param : param_named fold (map param_is params) name ≡ Some (place_in params)

  pub placed : (params : List (ℕ × Parameter)) → is_declared (scope_of fold (map declared_as params)) name ≡ true → IsPlaced params
  placed params declared =
      let here : nat_lt (place_in params) (length params) ≡ true = sym (list_any-position is_called params) ∙ (sym (list_any-map (has_name fold name) declared_as params) ∙ declared) in
      let within : place_in params < length params = ltb-true _ _ here in
      let found : position is_called params ≡ Some (place_in params) = cond-true (nat_lt (place_in params) (length params)) _ _ here in
      let called = not-false _ (prefix_len_stops (λ f. not (is_called f)) params no_found within) in
      record {
        within = within;
        same = (bytes_eq-Decides _ _).0 called;
        as_number = ap (λ o. unwrap_or o 0) (position-map (λ (f : ℕ × Parameter). f.1) (λ param. is_same_text fold name param.name) params ∙ found);
        as_read = position-map (λ (f : ℕ × Parameter). folded fold f.1.name) (bytes_eq (folded fold name)) params ∙ found;
        as_param = position-map param_is (λ param. is_same_text fold name param.name) params ∙ found;
      }

  pub kind_declared : (params : List (ℕ × Parameter)) (kind : Kind) → kind_named (scope_of fold (map declared_as params)) name ≡ Some kind
      → is_declared (scope_of fold (map declared_as params)) name ≡ true
  kind_declared [] kind is = absurd (cc)
  kind_declared (found ∷ params) kind is = by (is_called found) refl is (kind_declared params kind)
    where
      by : (called : Bool) → is_called found ≡ called → option_map (λ d. d.kind) (cond called (Some (declared_as found)) (find (has_name fold name) (map declared_as params))) ≡ Some kind
          → (kind_named (scope_of fold (map declared_as params)) name ≡ Some kind → is_declared (scope_of fold (map declared_as params)) name ≡ true)
          → is_declared (scope_of fold (map declared_as (found ∷ params))) name ≡ true
      by true called e later = rw called refl
      by false called e later = rw called (later e)
