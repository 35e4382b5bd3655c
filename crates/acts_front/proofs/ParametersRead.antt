-- The parameter lines of a translation, read again.
use Rattle.std.proofs.Common.{◌≡◌, ◌≢◌, ℕ, ◌-◌, ◌<◌, Bool, true, false, not, ◌&&◌, ◌||◌, if◌then◌else◌, List, [], ◌∷◌, ◌++◌, length, map, drop}
use Rattle.std.proofs.Common.{get_or, All, None, Ok, Err, Result, codes, refl, sym, ap, subst, ◌∙◌, arith, append_assoc, append-nil, one-add}
use Rattle.std.proofs.lemmas.Bool.{and_from, and_parts, cond-false, cond-true, cond_both, eq-eqb, eqb-true, false≢true, lt-ltb, ltb-true, ne_eqb, not-true, or_parts, not_from_false, true≢false}
use Rattle.std.proofs.lemmas.Bool.Decides.{nat_tests}
use Rattle.std.proofs.lemmas.List.{length-map, map-append}
use Rattle.std.proofs.lemmas.List.Elements.{All-cons, All-map, All-nil}
use Rattle.std.proofs.lemmas.List.Folds.{list_all-append}
use Rattle.std.proofs.lemmas.Slice.Eq.{bytes_eq-Decides}
use Rattle.std.proofs.lemmas.Str.{chars-IsAscii}
use Rattle.std.proofs.lemmas.Str.Ascii.{IsAscii-from_all}
use Rattle.std.specs.Char.{is_ascii_digit}
use Rattle.std.specs.List.{before_first, list_all, list_any}
use Rattle.std.specs.Prelude.{◌==◌, nat_lt, slice_index}
use Rattle.std.specs.Str.{bytes_eq, chars, str_to_ascii_lowercase}
use Rattle.value_text.specs.believed.Numbers as numbers
use Rattle.value_text.specs.believed.Numbers.{decimal_digits, has_point, is_decimal, is_digits, is_number, number_of, whole_digits, without_sign, is_point}
use Rattle.value_text.specs.declared.fixed.FixedAnswer.TheVariants.{NotNumber}
use Rattle.value_text.specs.believed.Texts.{folded, is_same_text, is_blank}
use Rattle.value_text.proofs.ListLemmas.{list_any-map}
use Rattle.cov_model.specs.believed.Names as names
use Rattle.cov_model.specs.believed.Names.{is_plain}
use Rattle.cov_model.specs.believed.Sound.{is_numeric}
use Rattle.cov_model.specs.declared.parameter.Param.{Param}
use Rattle.cov_model.specs.declared.parameter.Value.{Value}
use Rattle.model_lex.specs.believed.Blanks.{trimmed}
use Rattle.model_lex.specs.believed.Sections.{is_word_byte}
use Rattle.model_lex.specs.declared.fault.LimitName.{LimitName}
use Rattle.model_lex.specs.declared.fault.LimitName.TheVariants.{Params, Values}
use Rattle.model_lex.specs.declared.fault.ModelFault.{ModelFault}
use Rattle.model_lex.specs.declared.fault.ModelFault.TheVariants.{Limit}
use Rattle.model_lex.specs.declared.options.Marks.{Marks}
use Rattle.model_lex.specs.declared.options.ModelOpts.{ModelOpts}
use Rattle.model_lex.specs.declared.options.OrderWord.{OrderWord}
use Rattle.model_parse.specs.believed.ParamLines.{line_name}
use Rattle.model_parse.specs.ParamSteps.{add_param, no_params, param_code, line_list, read_param, read_params, read_values}
use Rattle.model_parse.specs.believed.Pieces.{begins_with, ends_with_byte, is_byte, is_unfit, pieces}
use Rattle.model_parse.specs.RawModels.{AreMarks}
use Rattle.model_parse.specs.Steps.{and_each, and_then}
use Rattle.model_parse.specs.ValueSteps.{Kept, add_kept, add_piece, add_value, is_known, keep_name}
use Rattle.model_parse.specs.believed.Written.{joined}
use Rattle.model_parse.specs.Written.{written_value, written_names, written_weight}
use Rattle.model_parse.specs.declared.reading.ParamsRead.{ParamsRead}
use Rattle.model_parse.specs.declared.reading.Reading.{Reading}
use Rattle.model_parse.proofs.Answering.{read_goes}
use Rattle.model_parse.proofs.Joining.{AreBlanks, IsWhole, Lacks, after_first_back, before_first_back, joined_back}
use Rattle.model_parse.proofs.WrittenPieces.{ReadsBack, value_back, values_back}
use Rattle.model_parse.proofs.WrittenValues.{named_fit, none_stands}
use Rattle.acts_front.specs.believed.ParameterLines.{Parameter, folds, is_declared, is_false, is_name, has_repeated, is_symbol, is_true, is_value, is_whole}
use Rattle.acts_front.specs.believed.SameModels.{is_int, param_is, read_as, value_is}
use Rattle.acts_front.specs.believed.Translation.{parameter_text, truth_text, value_text}
use Rattle.acts_front.specs.declared.kind.Kind.{Kind}
use Rattle.acts_front.specs.declared.kind.Kind.TheVariants.{Int, Enum, Boolean}
use Rattle.acts_front.proofs.AllowedTexts.{all_weaker, each_passes}
use Rattle.acts_front.proofs.Given.{IsParameter}
use Rattle.acts_front.proofs.GivenLists.{AreParameters, declared_as, scope_of}
use Rattle.acts_front.proofs.TokensRead.{dense_whole, none_passes, trimmed_whole, whole_is_number}

-- ---- names and values have bytes of words, points and minuses alone

abbrev pub is_symbol_byte : ℕ → Bool
is_symbol_byte b = is_word_byte b || (b == 46) || (b == 45)

symbol_dense : (b : ℕ) → is_symbol_byte b ≡ true → is_blank b ≡ false
symbol_dense b symbol = grind (arith, nat_tests)

symbol_plain : (b : ℕ) → is_symbol_byte b ≡ true → is_plain b ≡ true
symbol_plain b symbol = grind (arith, nat_tests)

symbol_small : (b : ℕ) → is_symbol_byte b ≡ true → b < 128
symbol_small b symbol = grind (arith, nat_tests)

-- the marks that stand in none of them
abbrev is_sign : ℕ → Bool
is_sign m = (m == 40) || (m == 41) || (m == 44) || (m == 58) || (m == 60) || (m == 62) || (m == 123) || (m == 124) || (m == 125) || (m == 126)

symbol_other : (m b : ℕ) → is_sign m ≡ true → is_symbol_byte b ≡ true → is_byte m b ≡ false
symbol_other m b sign symbol = grind (arith, nat_tests)

word_symbol : (b : ℕ) → is_word_byte b ≡ true → is_symbol_byte b ≡ true
word_symbol b word = grind (arith, nat_tests)

digit_symbol : (b : ℕ) → is_ascii_digit b ≡ true → is_symbol_byte b ≡ true
digit_symbol b digit = grind (arith, nat_tests)

point_symbol : (b : ℕ) → (is_word_byte b || is_point b) ≡ true → is_symbol_byte b ≡ true
point_symbol b symbol = grind (arith, nat_tests)

pub record IsSymbolic (text : List ℕ) : Type 0 where
  pub some : 0 < length text
  pub symbols : list_all is_symbol_byte text ≡ true

pub name_symbolic : (name : List ℕ) → is_name name ≡ true → IsSymbolic name
name_symbolic name named =
    let parts = and_parts _ _ named in
    record { some = ltb-true 0 (length name) (and_parts _ _ parts.0).0; symbols = all_weaker is_word_byte is_symbol_byte word_symbol name parts.1 }

whole_symbolic : (text : List ℕ) → is_whole text ≡ true → IsSymbolic text
whole_symbolic [] whole = absurd (false≢true whole)
whole_symbolic (b ∷ rest) whole = record { some = omega arith; symbols = by (begins_with 45 (b ∷ rest)) refl (and_parts _ _ whole).1 }
  where
    by : (minus : Bool) → begins_with 45 (b ∷ rest) ≡ minus
        → list_all is_ascii_digit (if minus then drop 1 (b ∷ rest) else b ∷ rest) ≡ true → list_all is_symbol_byte (b ∷ rest) ≡ true
    by true minus digits =
        let same : b ≡ 45 = eqb-true b 45 (and_parts (nat_lt 0 (length (b ∷ rest))) (b == 45) minus).1 in
        and_from _ _ (ap is_symbol_byte same) (all_weaker is_ascii_digit is_symbol_byte digit_symbol rest digits)
    by false minus digits = all_weaker is_ascii_digit is_symbol_byte digit_symbol (b ∷ rest) digits

truth_symbolic : (truth : Bool) → IsSymbolic (truth_text truth)
truth_symbolic true = record { some = omega arith; symbols = refl }
truth_symbolic false = record { some = omega arith; symbols = refl }

pub value_symbolic : (kind : Kind) (value : List ℕ) → is_value kind value ≡ true → IsSymbolic (value_text kind value)
value_symbolic Int value is = whole_symbolic value is
value_symbolic Enum value is =
    let parts = and_parts _ _ is in
    record { some = ltb-true 0 (length value) (and_parts _ _ parts.0).0; symbols = all_weaker (λ b. is_word_byte b || is_point b) is_symbol_byte point_symbol value parts.1 }
value_symbolic Boolean value is = truth_symbolic (is_true value)

module _ (text : List ℕ) (symbolic : IsSymbolic text) where
  pub symbolic_whole : IsWhole text
  symbolic_whole = dense_whole is_symbol_byte symbol_dense text symbolic.some symbolic.symbols

  pub symbolic_lacks : (m : ℕ) → is_sign m ≡ true → list_any (is_byte m) text ≡ false
  symbolic_lacks m sign = none_passes is_symbol_byte (is_byte m) (λ b. symbol_other m b sign) text symbolic.symbols

  symbolic_first : (m : ℕ) → is_sign m ≡ true → (get_or text 0 0 == m) ≡ false
  symbolic_first m sign = symbol_other m (get_or text 0 0) sign (each_passes is_symbol_byte text symbolic.symbols 0 0 symbolic.some)

  symbolic_ends : (m : ℕ) → is_sign m ≡ true → ends_with_byte m text ≡ false
  symbolic_ends m sign =
      let last : (get_or text (length text - 1) 0 == m) ≡ false =
      symbol_other m (get_or text (length text - 1) 0) sign (each_passes is_symbol_byte text symbolic.symbols (length text - 1) 0 (let some = symbolic.some in omega arith)) in
      by (nat_lt 0 (length text)) last
    where
      by : (b : Bool) → (get_or text (length text - 1) 0 == m) ≡ false → (b && (get_or text (length text - 1) 0 == m)) ≡ false
      by true is = is
      by false is = refl

  pub symbolic_named : names.is_name text ≡ true
  symbolic_named =
      let whole = symbolic_whole in
      let trimmed : names.is_trimmed text ≡ true = and_from _ _ (and_from _ _ (lt-ltb 0 (length text) symbolic.some) (not_from_false _ whole.first)) (not_from_false _ whole.last) in
      let small = λ (i d : ℕ) (within : i < length text). symbol_small (get_or text i d) (each_passes is_symbol_byte text symbolic.symbols i d within) in
      let same : chars text ≡ text = chars-IsAscii text (IsAscii-from_all text small) in
      let none : list_any (λ c. c == 0xfeff) (chars text) ≡ false = ap (list_any (λ c. c == 0xfeff)) same ∙ none_passes is_symbol_byte (λ c. c == 0xfeff) no_mark text symbolic.symbols in
      and_from _ _ (and_from _ _ trimmed (all_weaker is_symbol_byte is_plain symbol_plain text symbolic.symbols)) (not_from_false _ none)
    where
      no_mark : (b : ℕ) → is_symbol_byte b ≡ true → (b == 0xfeff) ≡ false
      no_mark b symbol = grind (arith, nat_tests)

-- ---- one value

abbrev marks : Marks
marks = record { separator = 44; alias = 124; prefix = 126 }

are_marks : AreMarks marks
are_marks = record {
  separator = refl;
  alias = refl;
  prefix = refl;
  separator_alias = λ e. absurd (omega (arith, e));
  separator_prefix = λ e. absurd (omega (arith, e));
  alias_prefix = λ e. absurd (omega (arith, e));
}

-- a value as it is written is its text
abbrev one_named : List ℕ → Value
one_named text = record { names = text ∷ []; weight = 1; negative = false }

written_is : (text : List ℕ) → IsSymbolic text → written_value marks (one_named text) ≡ text
written_is text symbolic =
    let name : written_names marks (one_named text) ≡ text = append-nil text in
    let plain : written_weight text 1 ≡ [] = rw (symbolic_ends text symbolic 41 refl, symbolic_ends text symbolic 62 refl) refl in
    ap (λ n. n ++ written_weight n 1) name ∙ (ap (λ w. text ++ w) plain ∙ append-nil text)

one : (P : List ℕ → Type 0) (text : List ℕ) → P text → All P (text ∷ [])
one P text holds = All-cons P text [] holds (All-nil P)

text_back : (text : List ℕ) → IsSymbolic text → ReadsBack marks (one_named text) text
text_back text symbolic =
    let first : slice_index text 0 ≢ 126 = λ e. true≢false (sym (eq-eqb (slice_index text 0) 126 e) ∙ symbolic_first text symbolic 126 refl) in
    subst (ReadsBack marks (one_named text)) (written_is text symbolic)
    (value_back marks (one_named text) are_marks
    (record { some = omega arith; few = omega arith; named = one (λ n. names.is_name n ≡ true) text (symbolic_named text symbolic); unmarked = one (λ n. slice_index n 0 ≢ 126) text first })
    (record {
      separators = one (λ n. list_any (is_byte 44) n ≡ false) text (symbolic_lacks text symbolic 44 refl);
      aliases = one (λ n. list_any (is_byte 124) n ≡ false) text (symbolic_lacks text symbolic 124 refl);
      weight = refl;
    }))

-- one that isn't known is added
text_added : (order : OrderWord) (fold : Bool) (line : ℕ) (params : List Param) (known : List (List ℕ)) (values : List Value) (texts : List (List ℕ)) (text : List ℕ)
    → IsSymbolic text → is_known fold texts text ≡ false
    → add_piece (read_as order fold) line params known (record { values = values; known = texts; notes = [] }) text
    ≡ Ok (record { values = values ++ one_named text ∷ []; known = texts ++ folded fold text ∷ []; notes = [] })
text_added order fold line params known values texts text symbolic new =
    let read : Reading = record { values = values; known = texts; notes = [] } in
    let kept : Kept = record { names = text ∷ []; known = texts ++ folded fold text ∷ []; notes = [] } in
    let keep : keep_name fold line (record { names = []; known = texts; notes = [] }) text ≡ kept = cond-false (is_known fold texts text) _ _ new in
    ap (λ r. and_then r (λ vs. and_each (add_value fold line) read vs)) (values_back (read_as order fold) line params known (one_named text) text (text_back text symbolic))
    ∙ ap (λ k. and_then (add_kept values (one_named text) k) (λ a. Ok a)) keep

-- ---- the values of a line

-- TRUE and FALSE are apart under each case rule
truths_apart : (fold a b : Bool) → is_same_text fold (truth_text a) (truth_text b) ≡ true → a ≡ b
truths_apart fold true true is = refl
truths_apart fold false false is = refl
truths_apart true true false is = absurd (false≢true is)
truths_apart true false true is = absurd (false≢true is)
truths_apart false true false is = absurd (false≢true is)
truths_apart false false true is = absurd (false≢true is)

same_lower : (a b text : List ℕ) → bytes_eq (str_to_ascii_lowercase a) text ≡ true → bytes_eq (str_to_ascii_lowercase b) text ≡ true → is_same_text true a b ≡ true
same_lower a b text one two =
    let left : str_to_ascii_lowercase a ≡ text = (bytes_eq-Decides (str_to_ascii_lowercase a) text).0 one in
    let right : str_to_ascii_lowercase b ≡ text = (bytes_eq-Decides (str_to_ascii_lowercase b) text).0 two in
    (bytes_eq-Decides (str_to_ascii_lowercase a) (str_to_ascii_lowercase b)).1 (left ∙ sym right)

falsity : (value : List ℕ) → is_value Boolean value ≡ true → is_true value ≡ false → is_false value ≡ true
falsity value is other = ap (λ b. b || is_false value) (sym other) ∙ is

truths_same : (a b : List ℕ) → is_value Boolean a ≡ true → is_value Boolean b ≡ true → is_true a ≡ is_true b → is_same_text true a b ≡ true
truths_same a b one two same = by (is_true a) refl
  where
    by : (truth : Bool) → is_true a ≡ truth → is_same_text true a b ≡ true
    by true is = same_lower a b (str_to_ascii_lowercase (codes "TRUE")) is (sym same ∙ is)
    by false is = same_lower a b (str_to_ascii_lowercase (codes "FALSE")) (falsity a one is) (falsity b two (sym same ∙ is))

-- a value that differs from those before it is written so
texts_apart : (fold : Bool) (kind : Kind) (value other : List ℕ) → is_value kind value ≡ true → is_value kind other ≡ true → is_same_text (folds fold kind) value other ≡ false
    → is_same_text fold (value_text kind value) (value_text kind other) ≡ false
texts_apart fold Int value other one two apart = apart
texts_apart fold Enum value other one two apart = apart
texts_apart fold Boolean value other one two apart = by (is_same_text fold (truth_text (is_true value)) (truth_text (is_true other))) refl
  where
    by : (same : Bool) → is_same_text fold (truth_text (is_true value)) (truth_text (is_true other)) ≡ same → same ≡ false
    by false is = refl
    by true is = absurd (false≢true (sym apart ∙ truths_same value other one two (truths_apart fold (is_true value) (is_true other) is)))

none_same : (fold : Bool) (kind : Kind) (value : List ℕ) (earlier : List (List ℕ)) → is_value kind value ≡ true → list_all (is_value kind) earlier ≡ true
    → list_any (is_same_text (folds fold kind) value) earlier ≡ false
    → list_any (is_same_text fold (value_text kind value)) (map (value_text kind) earlier) ≡ false
none_same fold kind value [] one all apart = refl
none_same fold kind value (other ∷ earlier) one all apart =
    let parts = and_parts _ _ all in
    let tests = or_parts _ _ apart in
    rw (texts_apart fold kind value other one parts.0 tests.0, none_same fold kind value earlier one parts.1 tests.1) refl

module _ (order : OrderWord) (fold : Bool) (line : ℕ) (params : List Param) (known : List (List ℕ)) (kind : Kind) where
  -- what is read of these values
  abbrev reading : List (List ℕ) → Reading
  reading values = record { values = map (value_is kind) values; known = map (folded fold) (map (value_text kind) values); notes = [] }

  reading_more : (earlier : List (List ℕ)) (value : List ℕ)
      → let read : Reading = record {
        values = map (value_is kind) earlier ++ value_is kind value ∷ [];
        known = map (folded fold) (map (value_text kind) earlier) ++ folded fold (value_text kind value) ∷ [];
        notes = [];
      } in read ≡ reading (earlier ++ value ∷ [])
  reading_more earlier value =
      let values : map (value_is kind) (earlier ++ value ∷ []) ≡ map (value_is kind) earlier ++ value_is kind value ∷ [] = map-append (value_is kind) earlier (value ∷ []) in
      let texts : map (folded fold) (map (value_text kind) (earlier ++ value ∷ [])) ≡ map (folded fold) (map (value_text kind) earlier) ++ folded fold (value_text kind value) ∷ [] =
      ap (map (folded fold)) (map-append (value_text kind) earlier (value ∷ [])) ∙ map-append (folded fold) (map (value_text kind) earlier) (value_text kind value ∷ []) in
      cc

  values_read : (earlier rest : List (List ℕ)) → list_all (is_value kind) earlier ≡ true → list_all (is_value kind) rest ≡ true → has_repeated (folds fold kind) earlier rest ≡ false
      → and_each (add_piece (read_as order fold) line params known) (reading earlier) (map (value_text kind) rest) ≡ Ok (reading (earlier ++ rest))
  values_read earlier [] before are distinct = ap (λ list. Ok (reading list)) (sym (append-nil earlier))
  values_read earlier (value ∷ rest) before are distinct =
      let parts = and_parts _ _ are in
      let tests = or_parts (list_any (is_same_text (folds fold kind) value) earlier) _ distinct in
      let new : is_known fold (map (folded fold) (map (value_text kind) earlier)) (value_text kind value) ≡ false =
      list_any-map (bytes_eq (folded fold (value_text kind value))) (folded fold) (map (value_text kind) earlier) ∙ none_same fold kind value earlier parts.0 before tests.0 in
      let step : add_piece (read_as order fold) line params known (reading earlier) (value_text kind value) ≡ Ok (reading (earlier ++ value ∷ [])) =
      text_added order fold line params known (map (value_is kind) earlier) (map (folded fold) (map (value_text kind) earlier))
      (value_text kind value) (value_symbolic kind value parts.0) new ∙ ap Ok (reading_more earlier value) in
      let more : list_all (is_value kind) (earlier ++ value ∷ []) ≡ true = list_all-append (is_value kind) earlier (value ∷ []) ∙ and_from _ _ before (and_from _ _ parts.0 refl) in
      ap (λ r. and_then r (λ a. and_each (add_piece (read_as order fold) line params known) a (map (value_text kind) rest))) step
      ∙ (values_read (earlier ++ value ∷ []) rest more parts.1 tests.1 ∙ ap (λ list. Ok (reading list)) (append_assoc earlier (value ∷ []) rest))

  list_read : (values : List (List ℕ)) → 0 < length values → list_all (is_value kind) values ≡ true → has_repeated (folds fold kind) [] values ≡ false
      → read_values (read_as order fold) line params known [] (32 ∷ joined (codes ", ") (map (value_text kind) values)) ≡ Ok (reading values)
  list_read values some are distinct =
      let blank = λ (b : ℕ). is_blank b ≡ true in
      let gap : AreBlanks (32 ∷ []) = All-cons blank 32 [] refl (All-nil blank) in
      let texts = map (value_text kind) values in
      let each = each_passes (is_value kind) values are in
      let wholes : All IsWhole texts = All-map IsWhole (value_text kind) values (λ i d within. symbolic_whole _ (value_symbolic kind (get_or values i d) (each i d within))) in
      let lacks : All (Lacks 44) texts =
      All-map (Lacks 44) (value_text kind) values (λ i d within. none_stands (is_byte 44) _ (symbolic_lacks _ (value_symbolic kind (get_or values i d) (each i d within)) 44 refl)) in
      let cut : pieces 44 (32 ∷ joined (codes ", ") texts) ≡ texts =
      ap (λ t. pieces 44 (32 ∷ t)) (sym (append-nil (joined (codes ", ") texts)))
      ∙ joined_back 44 [] (32 ∷ []) (All-nil blank) gap refl (32 ∷ []) [] texts gap (All-nil blank) (omega (arith, length-map values (value_text kind), some)) wholes lacks in
      ap (and_each (add_piece (read_as order fold) line params known) (reading [])) cut ∙ values_read [] values refl are distinct

-- ---- the type

numeric_texts : (kind : Kind) (values : List (List ℕ)) → list_all (is_value kind) values ≡ true → 0 < length values → is_numeric (map (value_is kind) values) ≡ is_int kind
numeric_texts Int [] are some = refl
numeric_texts Int (value ∷ []) are some =
    let is = whole_is_number value (and_parts _ _ are).0 in rw is refl
numeric_texts Int (value ∷ next ∷ values) are some =
    let parts = and_parts _ _ are in
    let is = whole_is_number value parts.0 in
    rw is (numeric_texts Int (next ∷ values) parts.1 (omega arith))
numeric_texts Enum [] are some = absurd (omega (arith, some))
numeric_texts Enum (value ∷ values) are some = ap (λ b. b && is_numeric (map (value_is Enum) values)) (no_number value (and_parts _ _ are).0)
  where
    no_number : (value : List ℕ) → is_symbol value ≡ true → is_number value ≡ false
    no_number [] is = absurd (false≢true is)
    no_number (b ∷ rest) is =
        let tests = and_parts _ _ is in
        let first = or_parts (is_ascii_digit b) (is_point b) (not-true _ (and_parts _ _ tests.0).1) in
        let word : (is_word_byte b || is_point b) ≡ true = (and_parts _ _ tests.1).0 in
        let plus : (b == 43) ≡ false = grind (arith, nat_tests) in
        let minus : (b == 45) ≡ false = grind (arith, nat_tests) in
        let sign : without_sign (b ∷ rest) ≡ b ∷ rest = rw (plus, minus) refl in
        let front : whole_digits (b ∷ rest) ≡ b ∷ before_first numbers.is_point rest = ap (before_first numbers.is_point) sign ∙ rw (first.1, one-add) refl in
        let none : is_digits (b ∷ before_first numbers.is_point rest) ≡ false =
        no_digit (nat_lt 0 (length (b ∷ before_first numbers.is_point rest))) (is_ascii_digit b) (list_all is_ascii_digit (before_first numbers.is_point rest)) first.0 in
        let other : is_decimal (b ∷ rest) ≡ false = ap (λ d. d && (not (has_point (b ∷ rest)) || is_digits (decimal_digits (b ∷ rest)))) (ap is_digits front ∙ none) in
        let is_none : number_of (b ∷ rest) ≡ NotNumber = cond-true (not (is_decimal (b ∷ rest))) _ _ (ap not other) in
        rw is_none refl
      where
        no_digit : (c d e : Bool) → d ≡ false → (c && (d && e)) ≡ false
        no_digit true d e other = ap (λ x. x && e) other
        no_digit false d e other = refl
numeric_texts Boolean [] are some = absurd (omega (arith, some))
numeric_texts Boolean (value ∷ values) are some = ap (λ b. b && is_numeric (map (value_is Boolean) values)) (by (is_true value))
  where
    by : (truth : Bool) → is_number (truth_text truth) ≡ false
    by true = refl
    by false = refl

-- ---- one line

-- an answer, or a refusal by a limit
pub data IsOrLimit {A : Type 0} (wanted : A) : Result A ModelFault → Type 0 where
  is_wanted : IsOrLimit wanted (Ok wanted)
  is_limit : (limit : LimitName) (count : ℕ) → IsOrLimit wanted (Err (Limit limit count))

module _ (order : OrderWord) (fold : Bool) where
  abbrev opts : ModelOpts
  opts = read_as order fold

  -- the names of these parameters, as they are compared
  abbrev pub known_of : List (ℕ × Parameter) → List (List ℕ)
  known_of params = map (λ (found : ℕ × Parameter). folded fold found.1.name) params

  -- what is read of these parameters
  abbrev pub params_read : List (ℕ × Parameter) → ParamsRead
  params_read params = record { params = map param_is params; known = known_of params; notes = [] }

  -- what is read of them and of one more, whose values are read
  abbrev with_one : List (ℕ × Parameter) → ℕ → Parameter → Result ParamsRead ModelFault
  with_one done line param =
      add_param fold line param.name (map param_is done) (known_of done) (reading order fold line (map param_is done) (known_of done) param.kind param.values)

  read_more : (done : List (ℕ × Parameter)) (found : ℕ × Parameter)
      → let read : ParamsRead = record {
        params = map param_is done ++ param_is found ∷ [];
        known = known_of done ++ folded fold found.1.name ∷ [];
        notes = [];
      } in read ≡ params_read (done ++ found ∷ [])
  read_more done found =
      let params : map param_is (done ++ found ∷ []) ≡ map param_is done ++ param_is found ∷ [] = map-append param_is done (found ∷ []) in
      let known : known_of (done ++ found ∷ []) ≡ known_of done ++ folded fold found.1.name ∷ [] =
      map-append (λ (f : ℕ × Parameter). folded fold f.1.name) done (found ∷ []) in
      cc

  unknown : (done : List (ℕ × Parameter)) (name : List ℕ)
      → is_known fold (known_of done) name ≡ is_declared (scope_of fold (map declared_as done)) name
  unknown [] name = refl
  unknown (found ∷ done) name = ap (λ b. is_same_text fold name found.1.name || b) (unknown done name)

  line_read : (done : List (ℕ × Parameter)) (found : ℕ × Parameter) → IsParameter (scope_of fold (map declared_as done)) found.1
      → IsOrLimit (params_read (done ++ found ∷ [])) (read_param opts (params_read done) (found.0, parameter_text found.1))
  line_read done (line, param) is =
      let list = 32 ∷ joined (codes ", ") (map (value_text param.kind) param.values) in
      let known = known_of done in
      let symbolic = name_symbolic param.name is.named in
      let text : parameter_text param ≡ param.name ++ 58 ∷ list = append_assoc param.name (codes ": ") (joined (codes ", ") (map (value_text param.kind) param.values)) in
      let lacks : Lacks 58 param.name = none_stands (is_byte 58) param.name (symbolic_lacks param.name symbolic 58 refl) in
      let called : line_name (parameter_text param) ≡ param.name =
      ap line_name text ∙ (ap trimmed (before_first_back 58 param.name list lacks) ∙ trimmed_whole param.name (symbolic_whole param.name symbolic)) in
      let behind : line_list (parameter_text param) ≡ list = ap line_list text ∙ after_first_back 58 param.name list lacks in
      let fits = named_fit param.name (symbolic_named param.name symbolic) in
      let code : param_code fold known param.name ≡ None =
      cond-false (length param.name == 0) _ _ (ne_eqb (length param.name) 0 (λ e. let some = symbolic.some in omega arith))
      ∙ (cond-false (is_unfit param.name) _ _ fits.fits ∙ cond-false (is_known fold known param.name) _ _ (unknown done param.name ∙ is.new)) in
      let values = list_read order fold line (map param_is done) known param.kind param.values is.some is.values is.distinct in
      let goes = read_goes opts (params_read done) (line, parameter_text param) param.name list _ code (sym called) (sym behind) values in
      subst (IsOrLimit (params_read (done ++ (line, param) ∷ []))) (sym goes) (by (nat_lt 4095 (length (map (value_is param.kind) param.values))) refl)
    where
      by : (many : Bool) → nat_lt 4095 (length (map (value_is param.kind) param.values)) ≡ many
          → IsOrLimit (params_read (done ++ (line, param) ∷ [])) (with_one done line param)
      by true many = subst (IsOrLimit _) (sym (cond-true (nat_lt 4095 (length (map (value_is param.kind) param.values))) _ _ many)) (is_limit Values (length (map (value_is param.kind) param.values)))
      by false many =
          let numeric = numeric_texts param.kind param.values is.values is.some in
          let same : with_one done line param ≡ Ok (params_read (done ++ (line, param) ∷ [])) =
          cond-false (nat_lt 4095 (length (map (value_is param.kind) param.values))) _ _ many
          ∙ (ap (λ n. Ok (record {
            params = map param_is done ++ record { name = param.name; line = line; numeric = n; values = map (value_is param.kind) param.values } ∷ [];
            known = known_of done ++ folded fold param.name ∷ [];
            notes = [];
          })) numeric
          ∙ ap Ok (read_more done (line, param))) in
          subst (IsOrLimit _) (sym same) is_wanted

  abbrev pub parameter_line : ℕ × Parameter → ℕ × List ℕ
  parameter_line found = (found.0, parameter_text found.1)

  lines_read : (done rest : List (ℕ × Parameter)) → AreParameters fold (map declared_as done) rest
      → IsOrLimit (params_read (done ++ rest)) (and_each (read_param opts) (params_read done) (map parameter_line rest))
  lines_read done [] are = subst (λ list. IsOrLimit (params_read list) (Ok (params_read done))) (sym (append-nil done)) is_wanted
  lines_read done (found ∷ rest) are =
      let declared : map declared_as (done ++ found ∷ []) ≡ map declared_as done ++ declared_as found ∷ [] = map-append declared_as done (found ∷ []) in
      by (line_read done found are.0) (lines_read (done ++ found ∷ []) rest (subst (λ list. AreParameters fold list rest) (sym declared) are.1))
    where
      by : {answer : Result ParamsRead ModelFault} → IsOrLimit (params_read (done ++ found ∷ [])) answer
          → IsOrLimit (params_read ((done ++ found ∷ []) ++ rest)) (and_each (read_param opts) (params_read (done ++ found ∷ [])) (map parameter_line rest))
          → IsOrLimit (params_read (done ++ found ∷ rest)) (and_then answer (λ next. and_each (read_param opts) next (map parameter_line rest)))
      by (is_limit limit count) later = is_limit limit count
      by is_wanted later = subst (λ list. IsOrLimit (params_read list) (and_each (read_param opts) (params_read (done ++ found ∷ [])) (map parameter_line rest)))
          (append_assoc done (found ∷ []) rest) later

  -- all lines
  pub parameters_read : (params : List (ℕ × Parameter)) → 0 < length params → AreParameters fold [] params → IsOrLimit (params_read params) (read_params opts (map parameter_line params))
  parameters_read params some are =
      let count = length-map params parameter_line in
      subst (IsOrLimit (params_read params)) (sym (cond-false (length (map parameter_line params) == 0) _ _ (ne_eqb (length (map parameter_line params)) 0 (λ e. omega (arith, count, some)))))
      (cond_both (nat_lt 256 (length (map parameter_line params))) (Err (Limit Params (length (map parameter_line params))))
      (and_each (read_param opts) no_params (map parameter_line params)) (IsOrLimit (params_read params))
      (λ many. is_limit Params (length (map parameter_line params))) (λ few. lines_read [] params are))
