-- A value as it is written, read again.
use Rattle.std.proofs.Common.{◌≡◌, ◌≢◌, ℕ, ◌-◌, ◌^◌, ◌<◌, Bool, true, false, ◌||◌, if◌then◌else◌, List, [], ◌∷◌, ◌++◌, map, flat_map}
use Rattle.std.proofs.Common.{length, get_or, All, None, refl, sym, ◌∙◌, ap, subst, arith, eqb, ltb, decimal}
use Rattle.std.proofs.lemmas.Bool.{ltb-true, or_from, and_parts, and_from, and_right, or_parts, ne_eqb, eq-eqb, lt-ltb, cond-true, cond-false, not_from_true, not-true}
use Rattle.std.proofs.lemmas.Bool.Decides.{nat_tests}
use Rattle.std.proofs.lemmas.Fmt.{decimal_is_IsNumeral}
use Rattle.std.proofs.lemmas.List.{append-nil, append_assoc}
use Rattle.std.proofs.lemmas.List.Elements.{All-nil, All-cons, All-head, All-tail, All-weaker}
use Rattle.std.proofs.lemmas.Str.Parse.{digit_from_value}
use Rattle.std.specs.Char.{is_ascii_digit}
use Rattle.std.specs.List.{list_any, list_all}
use Rattle.std.specs.Prelude.{slice_index_or}
use Rattle.std.specs.Option.{option_or}
use Rattle.std.specs.Str.Parse.{AllDigits}
use Rattle.cov_model.specs.believed.Names.{is_name, is_mark}
use Rattle.model_lex.specs.believed.Blanks.{trimmed}
use Rattle.value_text.specs.believed.Texts.{is_blank}
use Rattle.model_lex.specs.declared.options.Marks.{Marks}
use Rattle.model_parse.specs.believed.Pieces.{is_byte, begins_with, is_unfit}
use Rattle.model_parse.specs.RawModels.{AreMarks}
use Rattle.model_parse.specs.believed.Values.{without_prefix, name_code}
use Rattle.model_parse.specs.ValueSteps.{names_code}
use Rattle.model_parse.specs.believed.Written.{joined}
use Rattle.model_parse.proofs.Joining.{IsWhole, Lacks, trimmed_back, whole_append, whole_joined, lacks_joined}

-- the digits of a weight
pub record AreDigits (digits : List ℕ) : Type 0 where
  pub some : 0 < length digits
  pub each : All (λ b. is_ascii_digit b ≡ true) digits

digits_each : (digits : List ℕ) → AllDigits 10 digits → All (λ b. is_ascii_digit b ≡ true) digits
digits_each [] are = All-nil (λ b. is_ascii_digit b ≡ true)
digits_each (b ∷ digits) are =
    let range = digit_from_value b are.0 in
    let digit : is_ascii_digit b ≡ true = grind (arith, nat_tests) in
    All-cons (λ b. is_ascii_digit b ≡ true) b digits digit (digits_each digits are.1)

pub decimal_digits : (n : ℕ) → n < 2 ^ 64 → AreDigits (decimal n)
decimal_digits n small = let numeral = (decimal_is_IsNumeral n small).0 in record { some = numeral.0; each = digits_each (decimal n) numeral.1 }

pub all_digits : (digits : List ℕ) → All (λ b. is_ascii_digit b ≡ true) digits → list_all is_ascii_digit digits ≡ true
all_digits [] each = refl
all_digits (b ∷ digits) each = and_from _ _ (All-head (λ c. is_ascii_digit c ≡ true) b digits each) (all_digits digits (All-tail (λ c. is_ascii_digit c ≡ true) b digits each))

-- a digit is no blank
pub digit_ink : (b : ℕ) → is_ascii_digit b ≡ true → is_blank b ≡ false
digit_ink b digit = grind (arith, nat_tests)

pub digits_whole : (digits : List ℕ) → AreDigits digits → IsWhole digits
digits_whole digits are =
    record {
      some = are.some;
      first = digit_ink (get_or digits 0 0) (are.each 0 0 are.some);
      last = digit_ink (get_or digits (length digits - 1) 0)
          (are.each (length digits - 1) 0 (let some = are.some in omega arith));
    }

-- what marks aren't
pub mark_blank : (mark : ℕ) → is_mark mark ≡ true → is_blank mark ≡ false
mark_blank mark is = grind (arith, nat_tests)

pub mark_digit : (mark b : ℕ) → is_mark mark ≡ true → is_ascii_digit b ≡ true → is_byte mark b ≡ false
mark_digit mark b is digit = grind (arith, nat_tests)

pub mark_parens : (mark : ℕ) → is_mark mark ≡ true → (is_byte mark 32 ≡ false) × (is_byte mark 40 ≡ false) × (is_byte mark 41 ≡ false)
mark_parens mark is = (grind (arith, nat_tests), grind (arith, nat_tests), grind (arith, nat_tests))

-- a sound name has no blank at its ends, and none of what is refused in it
pub none_stands : (p : ℕ → Bool) (text : List ℕ) → list_any p text ≡ false → All (λ b. p b ≡ false) text
none_stands p [] none = All-nil (λ b. p b ≡ false)
none_stands p (b ∷ text) none = let parts = or_parts (p b) (list_any p text) none in All-cons (λ c. p c ≡ false) b text parts.0 (none_stands p text parts.1)

pub record IsNamed (name : List ℕ) : Type 0 where
  pub whole : IsWhole name
  pub fits : is_unfit name ≡ false

pub named_fit : (name : List ℕ) → is_name name ≡ true → IsNamed name
named_fit name named =
    let parts = and_parts _ _ named in
    let front = and_parts _ _ parts.0 in
    let ends = and_parts _ _ front.0 in
    let start = and_parts _ _ ends.0 in
    record {
      whole = record { some = ltb-true 0 (length name) start.0; first = not-true _ start.1; last = not-true _ ends.1 };
      fits = or_from _ _ (not_from_true _ front.1) (not-true _ parts.1);
    }

pub record IsFit (prefix : ℕ) (name : List ℕ) : Type 0 where
  pub whole : IsWhole name
  pub code : name_code prefix name ≡ None
  pub unmarked : begins_with prefix name ≡ false

pub fit : (prefix : ℕ) (name : List ℕ) → is_name name ≡ true → get_or name 0 0 ≢ prefix → IsFit prefix name
fit prefix name named unmarked =
    let is : IsNamed name = named_fit name named in
    let some : 0 < length name = is.whole.some in
    let apart : begins_with prefix name ≡ false = and_right (ltb 0 (length name)) (eqb (get_or name 0 0) prefix) (ne_eqb (get_or name 0 0) prefix unmarked) in
    record {
      whole = is.whole;
      code = cond-false (eqb (length name) 0) _ _ (ne_eqb (length name) 0 (λ e. omega arith)) ∙ cond-false (begins_with prefix name || is_unfit name) _ _ (or_from _ _ apart is.fits);
      unmarked = apart;
    }

pub codes_none : (prefix : ℕ) (names : List (List ℕ)) → All (IsFit prefix) names → names_code prefix names ≡ None
codes_none prefix [] fits = refl
codes_none prefix (name ∷ names) fits =
    ap (λ o. option_or o (names_code prefix names)) (All-head (IsFit prefix) name names fits).code ∙ codes_none prefix names (All-tail (IsFit prefix) name names fits)

-- the parts that the names of a value are read from: the first has the mark of negative values, where the value is negative
abbrev pub signed : Marks → Bool → List ℕ → List ℕ
signed marks negative name = (if negative then marks.prefix ∷ [] else []) ++ name

pub record AreParts (marks : Marks) (body : List ℕ) (names : List (List ℕ)) (negative : Bool) (parts : List (List ℕ)) : Type 0 where
  pub is : body ≡ joined (32 ∷ marks.alias ∷ 32 ∷ []) parts
  pub some : 0 < length parts
  pub wholes : All IsWhole parts
  pub aliases : All (Lacks marks.alias) parts
  pub unsigned : map (without_prefix marks.prefix) parts ≡ names
  pub sign : begins_with marks.prefix (slice_index_or parts 0 []) ≡ negative
  pub whole : IsWhole body
  pub lacks : Lacks marks.separator body

unsigned_rest : (prefix : ℕ) (names : List (List ℕ)) → All (IsFit prefix) names → map (without_prefix prefix) names ≡ names
unsigned_rest prefix [] fits = refl
unsigned_rest prefix (name ∷ names) fits =
    ap (λ n. n ∷ map (without_prefix prefix) names) (cond-false (begins_with prefix name) _ _ (All-head (IsFit prefix) name names fits).unmarked)
    ∙ ap (λ ns. name ∷ ns) (unsigned_rest prefix names (All-tail (IsFit prefix) name names fits))

module _ (marks : Marks) (are : AreMarks marks) where
  sign_whole : IsWhole (marks.prefix ∷ [])
  sign_whole = record { some = omega arith; first = mark_blank marks.prefix are.prefix; last = mark_blank marks.prefix are.prefix }

  signed_whole : (negative : Bool) (name : List ℕ) → IsWhole name → IsWhole (signed marks negative name)
  signed_whole true name whole = whole_append (marks.prefix ∷ []) name sign_whole whole []
  signed_whole false name whole = whole

  signed_lacks : (mark : ℕ) → ¬ (mark ≡ marks.prefix) → (negative : Bool) (name : List ℕ) → Lacks mark name → Lacks mark (signed marks negative name)
  signed_lacks mark apart true name lacks = All-cons (λ b. is_byte mark b ≡ false) marks.prefix name (ne_eqb marks.prefix mark (λ e. apart (sym e))) lacks
  signed_lacks mark apart false name lacks = lacks

  unsigned_first : (negative : Bool) (name : List ℕ) → IsFit marks.prefix name → without_prefix marks.prefix (signed marks negative name) ≡ name
  unsigned_first true name fits =
      cond-true (begins_with marks.prefix (marks.prefix ∷ name)) (trimmed name) (marks.prefix ∷ name)
      (and_from _ _ (lt-ltb 0 (length (marks.prefix ∷ name)) (omega arith)) (eq-eqb marks.prefix marks.prefix refl))
      ∙ ap trimmed (sym (append-nil name)) ∙ trimmed_back [] name [] (All-nil (λ b. is_blank b ≡ true)) fits.whole (All-nil (λ b. is_blank b ≡ true))
  unsigned_first false name fits = cond-false (begins_with marks.prefix name) _ _ fits.unmarked

  sign_is : (negative : Bool) (name : List ℕ) → IsFit marks.prefix name → begins_with marks.prefix (signed marks negative name) ≡ negative
  sign_is true name fits = and_from _ _ (lt-ltb 0 (length (marks.prefix ∷ name)) (omega arith)) (eq-eqb marks.prefix marks.prefix refl)
  sign_is false name fits = fits.unmarked

  pub parts_of : (name : List ℕ) (names : List (List ℕ)) (negative : Bool) → All (IsFit marks.prefix) (name ∷ names) → All (Lacks marks.separator) (name ∷ names)
      → All (Lacks marks.alias) (name ∷ names)
      → AreParts marks (signed marks negative (joined (32 ∷ marks.alias ∷ 32 ∷ []) (name ∷ names))) (name ∷ names) negative (signed marks negative name ∷ names)
  parts_of name names negative fits separators aliases =
      let between = 32 ∷ marks.alias ∷ 32 ∷ [] in
      let first : IsFit marks.prefix name = All-head (IsFit marks.prefix) name names fits in
      let part = signed marks negative name in
      let body = signed marks negative (joined between (name ∷ names)) in
      let is : body ≡ joined between (part ∷ names) = sym (append_assoc (if negative then marks.prefix ∷ [] else []) name (flat_map (λ next. between ++ next) names)) in
      let rest : All IsWhole names = All-weaker (IsFit marks.prefix) IsWhole (λ n f. f.whole) names (All-tail (IsFit marks.prefix) name names fits) in
      let start : IsWhole part = signed_whole negative name first.whole in
      let blank = (mark_parens marks.separator are.separator).0 in
      let gap : Lacks marks.separator between =
      All-cons (λ b. is_byte marks.separator b ≡ false) 32 (marks.alias ∷ 32 ∷ []) blank
      (All-cons (λ b. is_byte marks.separator b ≡ false) marks.alias (32 ∷ []) (ne_eqb marks.alias marks.separator (λ e. are.separator_alias (sym e)))
      (All-cons (λ b. is_byte marks.separator b ≡ false) 32 [] blank (All-nil (λ b. is_byte marks.separator b ≡ false)))) in
      record {
        is = is;
        some = omega arith;
        wholes = All-cons IsWhole part names start rest;
        aliases =
            All-cons (Lacks marks.alias) part names (signed_lacks marks.alias are.alias_prefix negative name (All-head (Lacks marks.alias) name names aliases))
            (All-tail (Lacks marks.alias) name names aliases);
        unsigned =
            ap (λ n. n ∷ map (without_prefix marks.prefix) names) (unsigned_first negative name first)
            ∙ ap (λ ns. name ∷ ns) (unsigned_rest marks.prefix names (All-tail (IsFit marks.prefix) name names fits));
        sign = sign_is negative name first;
        whole = subst IsWhole (sym is) (whole_joined between part names start rest);
        lacks = subst (Lacks marks.separator) (sym is) (lacks_joined marks.separator between (part ∷ names) gap
            (All-cons (Lacks marks.separator) part names (signed_lacks marks.separator are.separator_prefix negative name (All-head (Lacks marks.separator) name names separators))
            (All-tail (Lacks marks.separator) name names separators)));
      }
