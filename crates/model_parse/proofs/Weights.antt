-- The weight of a piece, and the value that a piece spells.
use Rattle.std.proofs.Common.{◌≡◌, ℕ, ◌+◌, ◌-◌, ◌*◌, ◌<◌, ◌≤◌, Bool, true, List, [], ◌∷◌, map, take, length, get_or, min, Some, None, Bor, refl, sym, ◌∙◌, ap, arith, cond, leb}
use Rattle.std.proofs.lemmas.Bool.{le-leb, and_from}
use Rattle.std.proofs.lemmas.Int.Digits.{digits_value_more}
use Rattle.std.proofs.lemmas.Str.Parse.{digit_at}
use Rattle.std.proofs.lemmas.Str.{digit_value_digit}
use Rattle.std.proofs.lemmas.List.{take_all}
use Rattle.std.specs.Char.{is_ascii_digit}
use Rattle.std.specs.Int.{IsInRange}
use Rattle.std.specs.List.{list_all}
use Rattle.std.specs.Prelude.{slice_index_or}
use Rattle.std.specs.Str.Parse.{digits_value}
use Rattle.value_text.proofs.DigitLemmas.{all_digits}
use Rattle.cov_model.specs.declared.parameter.Value.{Value}
use Rattle.model_lex.specs.declared.options.Marks.{Marks}
use Rattle.model_lex.specs.declared.diag.DiagCode.TheVariants.{BadWeight}
use Rattle.model_parse.specs.believed.Pieces.{pieces, begins_with}
use Rattle.model_parse.specs.believed.Values.{weight_of, names_text, without_prefix, value_of, piece_code}
use Rattle.model_parse.specs.ValueSteps.{names_code}

-- one more digit
pub weight_more : (text : List ℕ) (i value : ℕ) → list_all is_ascii_digit text ≡ true → i < length text → value ≡ min 4294967296 (digits_value 10 (take i text))
    → min (value * 10 + (get_or text i 0 - 48)) 4294967296 ≡ min 4294967296 (digits_value 10 (take (i + 1) text))
weight_more text i value are within is =
    let digit : IsInRange 48 57 (get_or text i 0) = digit_at text i (all_digits text are) within in
    let more = digits_value_more 10 text i within in
    let one = digit_value_digit (get_or text i 0) digit in
    omega arith

-- the parts without their marks
pub without_prefixes : (prefix : ℕ) (parts : List (Bor (List ℕ)))
    → map (λ (part : Bor (List ℕ)). without_prefix prefix part.now) parts ≡ map (without_prefix prefix) (map (λ (part : Bor (List ℕ)). part.now) parts)
without_prefixes prefix [] = refl
without_prefixes prefix (part ∷ parts) = ap (λ rest. without_prefix prefix part.now ∷ rest) (without_prefixes prefix parts)

pub all_prefixes : (prefix : ℕ) (parts : List (Bor (List ℕ))) (at : ℕ) → length parts ≤ at
    → map (λ (part : Bor (List ℕ)). without_prefix prefix part.now) (take at parts) ≡ map (without_prefix prefix) (map (λ (part : Bor (List ℕ)). part.now) parts)
all_prefixes prefix parts at past = ap (map (λ (part : Bor (List ℕ)). without_prefix prefix part.now)) (take_all at parts past) ∙ without_prefixes prefix parts

-- what a piece spells, where its weight and its names are accepted
pub record Spells (marks : Marks) (piece : List ℕ) (value : Value) : Type 0 where
  pub accepted : piece_code marks piece ≡ None
  pub is : value_of marks piece ≡ value

pub same_value : (names names' : List (List ℕ)) (weight weight' : ℕ) (negative negative' : Bool) → names ≡ names' → weight ≡ weight' → negative ≡ negative'
    → let a : Value = record { names = names; weight = weight; negative = negative } in let b : Value = record { names = names'; weight = weight'; negative = negative' } in a ≡ b
same_value names names' weight weight' negative negative' a b c = cc

pub spelled : (marks : Marks) (piece text : List ℕ) (weight : ℕ) (parts names : List (List ℕ)) (negative : Bool)
    → text ≡ names_text piece → weight ≡ min 4294967296 (weight_of piece) → (weight ≡ 0 → ⊥) → weight < 4294967296
    → parts ≡ pieces marks.alias text → names ≡ map (without_prefix marks.prefix) parts → names_code marks.prefix names ≡ None → negative ≡ begins_with marks.prefix (slice_index_or parts 0 [])
    → Spells marks piece (record { names = names; weight = weight; negative = negative })
spelled marks piece text weight parts names negative is_text is_weight_value some few is_parts is_names code is_negative =
    let exact : weight_of piece ≡ weight = omega (arith, some) in
    let cut : pieces marks.alias (names_text piece) ≡ parts = ap (pieces marks.alias) (sym is_text) ∙ sym is_parts in
    let called = ap (map (without_prefix marks.prefix)) cut ∙ sym is_names in
    let least : leb 1 (weight_of piece) ≡ true = le-leb 1 (weight_of piece) (omega (arith, some)) in
    let most : leb (weight_of piece) 4294967295 ≡ true = le-leb (weight_of piece) 4294967295 (omega arith) in
    record {
      accepted = ap (λ b. cond b (names_code marks.prefix (map (without_prefix marks.prefix) (pieces marks.alias (names_text piece)))) (Some BadWeight)) (and_from _ _ least most)
          ∙ ap (names_code marks.prefix) called ∙ code;
      is = same_value _ names _ weight _ negative called exact (ap (λ ps. begins_with marks.prefix (slice_index_or ps 0 [])) cut ∙ sym is_negative);
    }
