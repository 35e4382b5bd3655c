-- Names in the keys of a set.
use Rattle.std.proofs.Common.{◌≡◌, ℕ, Bool, false, cond, List, [], ◌∷◌, ◌++◌, map, Option, refl, ◌∙◌, ap, position}
use Rattle.std.proofs.lemmas.List.{map-append}
use Rattle.std.specs.List.{list_any}
use Rattle.std.specs.Str.{bytes_eq}
use Rattle.value_text.specs.believed.Texts.{folded}
use Rattle.model_parse.specs.ValueSteps.{is_known, place_of}
use Rattle.value_text.proofs.ListLemmas.{any_text, place_text}

module _ {K : Type 0} (text : K → List ℕ) (fold : Bool) (name q : List ℕ) (keys : List K) (names : List (List ℕ)) where
  pub known_is : (known : Bool) → known ≡ list_any (λ key. bytes_eq q (text key)) keys → q ≡ folded fold name → map text keys ≡ names → known ≡ is_known fold names name
  known_is known e folds views = e ∙ any_text text q keys ∙ ap (λ t. list_any (bytes_eq t) (map text keys)) folds ∙ ap (λ ns. list_any (bytes_eq (folded fold name)) ns) views

  pub place_is : (place : Option ℕ) → place ≡ position (λ key. bytes_eq q (text key)) keys → q ≡ folded fold name → map text keys ≡ names → place ≡ place_of fold names name
  place_is place e folds views = e ∙ place_text text q keys ∙ ap (λ t. position (bytes_eq t) (map text keys)) folds ∙ ap (λ ns. position (bytes_eq (folded fold name)) ns) views

-- a new key goes last
pub added_is : {K : Type 0} (text : K → List ℕ) (fold : Bool) (name : List ℕ) (key : K) (keys new : List K) (names : List (List ℕ))
    → new ≡ cond (list_any (λ other. bytes_eq (text key) (text other)) keys) keys (keys ++ key ∷ []) → text key ≡ folded fold name → map text keys ≡ names → is_known fold names name ≡ false
    → map text new ≡ names ++ folded fold name ∷ []
added_is text fold name key keys new names e folds views absent =
    ap (map text) (e ∙ ap (λ b. cond b keys (keys ++ key ∷ [])) (known_is text fold name (text key) keys names _ refl folds views ∙ absent))
    ∙ map-append text keys (key ∷ []) ∙ ap (λ ns. ns ++ text key ∷ []) views ∙ ap (λ t. names ++ t ∷ []) folds
