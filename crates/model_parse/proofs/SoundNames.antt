-- The names that a line gives.
use Rattle.std.proofs.Common.{◌≡◌, ◌≢◌, ℕ, ◌-◌, ◌<◌, ◌≤◌, Bool, true, false, ◌||◌, cond, List, [], ◌∷◌, map, length, drop, reverse, get_or, All, Some, None, refl, sym, ◌∙◌, ap, subst, arith, eqb, ltb}
use Rattle.std.proofs.lemmas.Bool.{and_from, or_parts, not-false, true≢false, lt-ltb, eq-eqb, eqb-false, not_from_false}
use Rattle.std.proofs.lemmas.List.{length-map, get_or-take, get_or-drop, length-take, length-take-le, length-drop, length-reverse, get_or-reverse}
use Rattle.std.proofs.lemmas.List.Elements.{All-nil, All-cons, All-head, All-tail, All-map, All-take, All-drop}
use Rattle.std.proofs.lemmas.List.Splits.{length-slice_split}
use Rattle.std.proofs.lemmas.List.Sums.{prefix_len_stops, suffix_len-le-length, fails_before_first}
use Rattle.std.proofs.lemmas.List.Folds.{list_any_none}
use Rattle.std.specs.List.{prefix_len, suffix_len, before_first, list_any, slice_split, position_or_len}
use Rattle.std.specs.Prelude.{slice_index}
use Rattle.value_text.proofs.ListLemmas.{option_or_parts}
use Rattle.cov_model.specs.believed.Names.{is_name, is_trimmed}
use Rattle.model_lex.specs.believed.Blanks.{trimmed, without_first_blanks}
use Rattle.value_text.specs.believed.Texts.{is_blank}
use Rattle.model_parse.specs.believed.Pieces.{is_byte, pieces, begins_with, is_unfit}
use Rattle.model_parse.specs.believed.Values.{without_prefix, name_code}
use Rattle.model_parse.specs.ValueSteps.{names_code}

-- what is left of a text without the blanks at its ends has none there
pub trimmed_is : (text : List ℕ) → 0 < length (trimmed text) → is_trimmed (trimmed text) ≡ true
trimmed_is text some =
    let rest = without_first_blanks text in
    let behind = suffix_len is_blank rest in
    let most : behind ≤ length rest = suffix_len-le-length is_blank rest in
    let len : length (trimmed text) ≡ length rest - behind = length-take-le (length rest - behind) rest (omega arith) in
    let whole : length rest ≡ length text - prefix_len is_blank text = length-drop (prefix_len is_blank text) text in
    let first : get_or (trimmed text) 0 0 ≡ get_or text (prefix_len is_blank text) 0 =
    get_or-take (length rest - behind) rest 0 0 (omega arith) ∙ get_or-drop (prefix_len is_blank text) text 0 0 ∙ ap (λ n. get_or text n 0) (omega arith) in
    let last : get_or (trimmed text) (length (trimmed text) - 1) 0 ≡ get_or (reverse rest) behind 0 =
    get_or-take (length rest - behind) rest (length (trimmed text) - 1) 0 (omega arith) ∙ ap (λ n. get_or rest n 0) (omega arith) ∙ sym (get_or-reverse rest behind 0 (omega arith)) in
    let starts : is_blank (get_or (trimmed text) 0 0) ≡ false = ap is_blank first ∙ prefix_len_stops is_blank text 0 (omega arith) in
    let ends : is_blank (get_or (trimmed text) (length (trimmed text) - 1) 0) ≡ false = ap is_blank last ∙ prefix_len_stops is_blank (reverse rest) 0 (omega (arith, length-reverse rest)) in
    and_from _ _ (and_from _ _ (lt-ltb 0 (length (trimmed text)) some) (not_from_false _ starts)) (not_from_false _ ends)

-- a text that was trimmed
abbrev pub IsCut : List ℕ → Type 0
IsCut text = (whole : List ℕ) × (text ≡ trimmed whole)

pub cut_pieces : (mark : ℕ) (text : List ℕ) → All IsCut (pieces mark text)
cut_pieces mark text = All-map IsCut trimmed (slice_split (is_byte mark) text) (λ i d within. (get_or (slice_split (is_byte mark) text) i d, refl))

pub some_pieces : (mark : ℕ) (text : List ℕ) → 0 < length (pieces mark text)
some_pieces mark text = omega (arith, length-map (slice_split (is_byte mark) text) trimmed, length-slice_split (is_byte mark) text)

cut_part : (prefix : ℕ) (part : List ℕ) → IsCut part → IsCut (without_prefix prefix part)
cut_part prefix part cut = at (begins_with prefix part)
  where
    at : (b : Bool) → IsCut (cond b (trimmed (drop 1 part)) part)
    at true = (drop 1 part, refl)
    at false = cut

-- a text that was trimmed is a name, if it has a byte and none that a name may not have
pub fit_name : (text : List ℕ) → IsCut text → 0 < length text → is_unfit text ≡ false → is_name text ≡ true
fit_name text cut some fit =
    let ends : is_trimmed text ≡ true = subst (λ t. 0 < length t → is_trimmed t ≡ true) (sym cut.1) (trimmed_is cut.0) some in
    let parts = or_parts _ _ fit in
    and_from _ _ (and_from _ _ ends (not-false _ parts.0)) (not_from_false _ parts.1)

-- what a value may be called
pub record IsSoundName (prefix : ℕ) (name : List ℕ) : Type 0 where
  pub named : is_name name ≡ true
  pub unmarked : slice_index name 0 ≢ prefix

none_of : {C : Type 0} (a b : Bool) (x y : C) → cond a (Some x) (cond b (Some y) None) ≡ None → (a ≡ false) × (b ≡ false)
none_of true b x y e = cc
none_of false true x y e = cc
none_of false false x y e = (refl, refl)

coded_name : (prefix : ℕ) (name : List ℕ) → IsCut name → name_code prefix name ≡ None → IsSoundName prefix name
coded_name prefix name cut code =
    let tests = none_of (eqb (length name) 0) (begins_with prefix name || is_unfit name) _ _ code in
    let parts = or_parts (begins_with prefix name) (is_unfit name) tests.1 in
    let apart : length name ≢ 0 = eqb-false (length name) 0 tests.0 in
    let some : 0 < length name = omega (arith, apart) in
    record {
      named = fit_name name cut some parts.1;
      unmarked = λ e. true≢false (sym (and_from (ltb 0 (length name)) (eqb (get_or name 0 0) prefix) (lt-ltb 0 (length name) some) (eq-eqb _ _ e)) ∙ parts.0);
    }

coded_names : (prefix : ℕ) (names : List (List ℕ)) → All IsCut names → names_code prefix names ≡ None → All (IsSoundName prefix) names
coded_names prefix [] cut code = All-nil (IsSoundName prefix)
coded_names prefix (name ∷ names) cut code =
    let codes = option_or_parts _ _ code in
    All-cons (IsSoundName prefix) name names (coded_name prefix name (All-head IsCut name names cut) codes.0) (coded_names prefix names (All-tail IsCut name names cut) codes.1)

-- so are the parts of a piece's names, where none is refused
pub part_names : (prefix mark : ℕ) (text : List ℕ) → names_code prefix (map (without_prefix prefix) (pieces mark text)) ≡ None
    → All (IsSoundName prefix) (map (without_prefix prefix) (pieces mark text))
part_names prefix mark text code =
    coded_names prefix (map (without_prefix prefix) (pieces mark text))
    (All-map IsCut (without_prefix prefix) (pieces mark text) (λ i d within. cut_part prefix _ (cut_pieces mark text i d within))) code

-- no mark stands in what is trimmed of what stands before the first
pub none_before : (mark : ℕ) (text : List ℕ) → list_any (is_byte mark) (trimmed (before_first (is_byte mark) text)) ≡ false
none_before mark text =
    list_any_none (is_byte mark) (trimmed (before_first (is_byte mark) text)) (All-take (λ b. is_byte mark b ≡ false) _ _ (All-drop (λ b. is_byte mark b ≡ false) _ _ front))
  where
    front : All (λ b. is_byte mark b ≡ false) (before_first (is_byte mark) text)
    front i d within =
        let before : i < position_or_len (is_byte mark) text = omega (arith, length-take (position_or_len (is_byte mark) text) text) in
        ap (is_byte mark) (get_or-take (position_or_len (is_byte mark) text) text i d before) ∙ fails_before_first (is_byte mark) text i d before
