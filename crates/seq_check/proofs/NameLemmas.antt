-- Names of events, as texts and in the keys of a set.
use Rattle.std.proofs.Common.{◌≡◌, ℕ, ◌<◌, Bool, true, false, ◌||◌, cond, List, [], ◌∷◌, ◌++◌, map, length, Option, Some, None}
use Rattle.std.proofs.Common.{refl, sym, ◌∙◌, ap, position, nat_lt, eqb, arith, get_or, AllPairs, ◌≢◌, length-append}
use Rattle.std.proofs.lemmas.Bool.{and_parts, both_ways}
use Rattle.std.proofs.lemmas.Bool.Decides.{nat_tests}
use Rattle.std.proofs.lemmas.List.{map-append}
use Rattle.std.proofs.lemmas.List.Elements.{All-weaker, All-push}
use Rattle.std.proofs.lemmas.List.Folds.{list_any_at}
use Rattle.std.proofs.lemmas.List.Quantifiers.{all_pairs_push}
use Rattle.std.proofs.lemmas.List.Sums.{AllPass-from_list_all}
use Rattle.std.proofs.lemmas.Slice.Eq.{bytes_eq-Decides}
use Rattle.std.proofs.lemmas.Str.{IsUtf8-from_ascii}
use Rattle.std.proofs.lemmas.Str.Ascii.{IsAscii-from_all}
use Rattle.seq_check.specs.Reading.{AreKnown, Declared}
use Rattle.std.specs.Char.{is_ascii_alphanumeric}
use Rattle.std.specs.List.{list_any}
use Rattle.std.specs.Str.{bytes_eq, IsUtf8}
use Rattle.value_text.proofs.ListLemmas.{list_any-position, any_text, place_text}
use Rattle.seq_check.specs.believed.Events.{is_name}
use Rattle.seq_check.specs.believed.EventFile.{number_of}

-- a name is a text of ASCII characters
name_byte : (b : ℕ) → (is_ascii_alphanumeric b || eqb b 95) ≡ true → b < 128
name_byte b is = grind (arith, nat_tests)

pub name_utf8 : (name : List ℕ) → is_name name ≡ true → IsUtf8 name
name_utf8 name is =
    IsUtf8-from_ascii name (IsAscii-from_all name
    (All-weaker (λ b. (is_ascii_alphanumeric b || eqb b 95) ≡ true) (λ b. b < 128) name_byte name
    (AllPass-from_list_all (λ b. is_ascii_alphanumeric b || eqb b 95) name (and_parts _ _ is).1)))

module _ {K : Type 0} (text : K → List ℕ) (q : List ℕ) where
  pub number_is : (name : List ℕ) (keys : List K) (names : List (List ℕ)) (number : Option ℕ)
      → number ≡ position (λ key. bytes_eq q (text key)) keys → q ≡ name → map text keys ≡ names → number ≡ number_of names name
  number_is name keys names number e same views = e ∙ place_text text q keys ∙ ap (λ t. position (bytes_eq t) (map text keys)) same ∙ ap (λ ns. position (bytes_eq name) ns) views

-- a name without a number is none of the names
none_past : (n len : ℕ) (within : Bool) → nat_lt n len ≡ within → cond within (Some n) None ≡ None → within ≡ false
none_past n len true e is = cc
none_past n len false e is = refl

pub unnumbered : (names : List (List ℕ)) (name : List ℕ) → number_of names name ≡ None → list_any (bytes_eq name) names ≡ false
unnumbered names name none = list_any-position (bytes_eq name) names ∙ none_past _ _ _ refl none

-- a new key goes last
pub added_is : {K : Type 0} (text : K → List ℕ) (name : List ℕ) (key : K) (keys new : List K) (names : List (List ℕ))
    → new ≡ cond (list_any (λ other. bytes_eq (text key) (text other)) keys) keys (keys ++ key ∷ []) → text key ≡ name → map text keys ≡ names → number_of names name ≡ None
    → map text new ≡ names ++ name ∷ []
added_is text name key keys new names e same views absent =
    let known = any_text text (text key) keys ∙ ap (λ t. list_any (bytes_eq t) (map text keys)) same ∙ ap (list_any (bytes_eq name)) views ∙ unnumbered names name absent in
    ap (map text) (e ∙ ap (λ b. cond b keys (keys ++ key ∷ [])) known)
    ∙ map-append text keys (key ∷ []) ∙ ap (λ ns. ns ++ text key ∷ []) views ∙ ap (λ t. names ++ t ∷ []) same

-- names stay distinct where one is added that is none of them
pub still_distinct : (names : List (List ℕ)) (name : List ℕ) → AllPairs (λ a b. a ≢ b) names → number_of names name ≡ None → AllPairs (λ a b. a ≢ b) (names ++ name ∷ [])
still_distinct names name apart none =
    all_pairs_push (λ a b. a ≢ b) names name apart
    (λ k d within same. both_ways (list_any (bytes_eq name) names) (unnumbered names name none)
    (list_any_at (bytes_eq name) names k d within ((bytes_eq-Decides name (get_or names k d)).1 (sym same))))

-- what is known of names stays known with one more
pub known_more : (d : Declared) (name : List ℕ) (line : ℕ) → AreKnown d → is_name name ≡ true
    → number_of d.names name ≡ None → AreKnown (record { names = d.names ++ name ∷ []; pairs = d.pairs; last = line })
known_more d name line known is none = record {
  named = All-push (λ n. is_name n ≡ true) d.names name known.named is;
  distinct = still_distinct d.names name known.distinct none;
  exist = All-weaker (λ pair. (pair.0 < length d.names) × (pair.1 < length d.names)) (λ pair. (pair.0 < length (d.names ++ name ∷ [])) × (pair.1 < length (d.names ++ name ∷ [])))
      (λ pair fits. let long = length-append d.names (name ∷ []) in (omega (arith, fits.0), omega (arith, fits.1))) d.pairs known.exist;
}
