-- Lines that have the form of a parameter or of a relation.
use Rattle.std.proofs.Common.{◌≡◌, ℕ, ◌-◌, Bool, true, false, ◌&&◌, List, [], ◌∷◌, ◌++◌, length, length-append, take, get_or, map, Option, Some, None, Ok, Err, refl, ap, ◌∙◌, arith}
use Rattle.std.proofs.Math.Seq.{get_or-append_seam, take-append_seam}
use Rattle.std.proofs.lemmas.List.{length-map, map-append}
use Rattle.std.proofs.lemmas.List.Folds.{list_all-map}
use Rattle.std.specs.List.{list_all}
use Rattle.std.specs.Prelude.{if◌then◌else◌, is_none, is_some, nat_lt}
use Rattle.value_text.specs.believed.Numbers.{count_of}
use Rattle.model_parse.specs.believed.Pieces.{begins_with}
use Rattle.acts_front.specs.believed.ParameterLines.{Scope, are_few_digits, behind_kind, is_name, is_value, kind_in, name_in, parameter_in, values_in}
use Rattle.acts_front.specs.believed.RelationLines.{Relation, are_members, member_names, related_in, relation_in_parts, strength_of}
use Rattle.acts_front.specs.declared.code.ActsCode.TheVariants.{A6, A7}
use Rattle.acts_front.specs.declared.kind.Kind.{Kind}

pub parameter_is :
    (text : List ℕ) (kind : Kind) (values : List (List ℕ)) → kind_in text ≡ Some kind
    → is_name (name_in text) ≡ true → begins_with 58 (behind_kind text) ≡ true → values ≡ values_in text
    → (fits : Bool) → list_all (is_value kind) values ≡ fits → parameter_in text ≡ (if fits then Some (record { name = name_in text; kind = kind; values = values }) else None)
parameter_is text kind values is named colon same fits all = rw (is, named, colon, ← same, all) refl

-- a list of texts whose last is apart
count_is : (parts : List (List ℕ)) (last : List ℕ) → length (parts ++ last ∷ []) - 1 ≡ length parts
count_is parts last = omega (arith, length-append parts (last ∷ []))

members_are : (parts : List (List ℕ)) (last : List ℕ) → member_names (parts ++ last ∷ []) ≡ parts
members_are parts last = ap (λ n. take n (parts ++ last ∷ [])) (count_is parts last) ∙ take-append_seam parts (last ∷ [])

strength_is : (parts : List (List ℕ)) (last : List ℕ) → strength_of (parts ++ last ∷ []) ≡ last
strength_is parts last = ap (λ n. get_or (parts ++ last ∷ []) n []) (count_is parts last) ∙ get_or-append_seam parts last [] []

parts_are : (parts : List (List ℕ)) (last : List ℕ) (fits : Bool) → (nat_lt 0 (length parts) && list_all is_name parts && are_few_digits last) ≡ fits
    → relation_in_parts (parts ++ last ∷ []) ≡ (if fits then Some (record { members = parts; strength = last }) else None)
parts_are parts last fits are = rw (members_are parts last, strength_is parts last, are) refl

-- so it is where the last is taken from a list whose items are seen as texts
pub parts_popped : {T : Type 0} (text : T → List ℕ) (items members : List T) (strength : T) → items ≡ members ++ strength ∷ []
    → (fits : Bool) → (nat_lt 0 (length members) && list_all (λ member. is_name (text member)) members && are_few_digits (text strength)) ≡ fits
    → relation_in_parts (map text items) ≡ (if fits then Some (record { members = map text members; strength = text strength }) else None)
parts_popped text items members strength is fits are =
    ap (λ list. relation_in_parts (map text list)) is
    ∙ (ap relation_in_parts (map-append text members (strength ∷ []))
    ∙ parts_are (map text members) (text strength) fits
    (ap (λ n. nat_lt 0 n && list_all is_name (map text members) && are_few_digits (text strength)) (length-map members text)
    ∙ (ap (λ all. nat_lt 0 (length members) && all && are_few_digits (text strength)) (list_all-map is_name text members) ∙ are)))

-- why a relation of this form is refused, or that it isn't
pub unrelated_is : (scope : Scope) (relation : Relation) → are_members scope relation.members ≡ false → related_in scope (Some relation) ≡ Err A6
unrelated_is scope relation fit = rw fit refl

pub related_is : (scope : Scope) (relation : Relation) (counted : Bool) → are_members scope relation.members ≡ true → is_some (count_of relation.strength 1 (length relation.members)) ≡ counted
    → related_in scope (Some relation) ≡ (if counted then Ok relation else Err A7)
related_is scope relation counted fit is = rw fit (at (count_of relation.strength 1 (length relation.members)) is)
  where
    at : (count : Option ℕ) → is_some count ≡ counted → (if is_none count then Err A7 else Ok relation) ≡ (if counted then Ok relation else Err A7)
    at (Some n) e = rw (← e) refl
    at None e = rw (← e) refl
