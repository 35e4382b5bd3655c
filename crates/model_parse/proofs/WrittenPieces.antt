-- A piece of a parameter line as it is written, read again.
use Rattle.std.proofs.Common.{◌≡◌, ℕ, ◌+◌, ◌-◌, ◌^◌, ◌<◌, ◌≤◌, Bool, true, false, not, ◌&&◌, ◌||◌, List, [], ◌∷◌, ◌++◌, map, length}
use Rattle.std.proofs.Common.{take, get_or, All, None, Ok, refl, sym, ◌∙◌, ap, subst, arith, eqb, leb, decimal}
use Rattle.std.proofs.Math.Seq.{take-append_seam, get_or-append_seam}
use Rattle.std.proofs.lemmas.Bool.{and_parts, and_from, and_left, and_right, or_parts, eqb-true, leb-true, lt-ltb, cond-true, cond-false, cond_both, not-true}
use Rattle.std.proofs.lemmas.Bool.Decides.{nat_tests}
use Rattle.std.proofs.lemmas.Fmt.{decimal_is_IsNumeral}
use Rattle.std.proofs.lemmas.List.{append-nil, append_assoc, length-append}
use Rattle.std.proofs.lemmas.List.Elements.{All-nil, All-cons, All-append, All-weaker}
use Rattle.std.specs.Char.{is_ascii_digit}
use Rattle.std.specs.List.{before_last, after_last, list_any}
use Rattle.std.specs.Prelude.{slice_index_or}
use Rattle.std.specs.Str.Parse.{digits_value}
use Rattle.value_text.specs.believed.Numbers.{is_digits}
use Rattle.cov_model.specs.believed.Names.{is_mark}
use Rattle.cov_model.specs.believed.Sound.{IsSoundValue}
use Rattle.cov_model.specs.declared.parameter.Param.{Param}
use Rattle.cov_model.specs.declared.parameter.Value.{Value}
use Rattle.model_lex.specs.believed.Blanks.{trimmed}
use Rattle.value_text.specs.believed.Texts.{is_blank}
use Rattle.model_lex.specs.declared.options.Marks.{Marks}
use Rattle.model_lex.specs.declared.options.ModelOpts.{ModelOpts}
use Rattle.model_parse.specs.believed.Pieces.{is_byte, pieces, begins_with, ends_with_byte, before_end}
use Rattle.model_parse.specs.RawModels.{AreMarks}
use Rattle.model_parse.specs.Steps.{refused_or}
use Rattle.model_parse.specs.believed.Values.{weight_text, has_weight, weight_of, names_text, without_prefix, names_of, value_of, piece_code, is_reference}
use Rattle.model_parse.specs.ValueSteps.{is_weight, names_code, piece_values}
use Rattle.model_parse.specs.Written.{written_names, written_weight, written_value, IsWritable}
use Rattle.model_parse.proofs.Joining.{IsWhole, AreBlanks, Lacks, trimmed_back, joined_back, before_last_back, after_last_back, stands_back, whole_append}
use Rattle.model_parse.proofs.Weights.{same_value}
use Rattle.model_parse.proofs.WrittenValues.{AreDigits, decimal_digits, all_digits, digits_whole, mark_blank, mark_digit, mark_parens, none_stands, IsFit, fit, codes_none, AreParts, parts_of, signed}

-- what is read of a piece that has these names and this weight
record IsPiece (marks : Marks) (body : List ℕ) (weight : ℕ) (piece : List ℕ) : Type 0 where
  whole : IsWhole piece
  lacks : Lacks marks.separator piece
  plain : is_reference piece ≡ false
  tail : List ℕ
  blanks : AreBlanks tail
  names : names_text piece ≡ body ++ tail
  weighs : weight_of piece ≡ weight

-- without a written weight
plain_piece : (marks : Marks) (body : List ℕ) → IsWhole body → Lacks marks.separator body → ends_with_byte 41 body ≡ false → ends_with_byte 62 body ≡ false → IsPiece marks body 1 body
plain_piece marks body whole lacks paren angle =
    let none : has_weight body ≡ false = and_left (ends_with_byte 41 body && list_any (is_byte 40) (before_end body)) (is_digits (weight_text body)) (and_left (ends_with_byte 41 body) _ paren) in
    record {
      whole = whole;
      lacks = lacks;
      plain = and_right _ (ends_with_byte 62 body) angle;
      tail = [];
      blanks = All-nil (λ b. is_blank b ≡ true);
      names = cond-false (has_weight body) _ _ none ∙ sym (append-nil body);
      weighs = cond-false (has_weight body) _ _ none;
    }

-- with one
last_byte : (front : List ℕ) (byte mark : ℕ) → ends_with_byte mark (front ++ byte ∷ []) ≡ eqb byte mark
last_byte front byte mark =
    let len : length (front ++ byte ∷ []) ≡ length front + 1 = length-append front (byte ∷ []) in
    let last : get_or (front ++ byte ∷ []) (length (front ++ byte ∷ []) - 1) 0 ≡ byte = ap (λ n. get_or (front ++ byte ∷ []) n 0) (omega arith) ∙ get_or-append_seam front byte [] 0 in
    ap (λ b. b && eqb (get_or (front ++ byte ∷ []) (length (front ++ byte ∷ []) - 1) 0) mark) (lt-ltb 0 (length (front ++ byte ∷ [])) (omega arith)) ∙ ap (λ b. eqb b mark) last

without_last : (front : List ℕ) (byte : ℕ) → before_end (front ++ byte ∷ []) ≡ front
without_last front byte =
    let len : length (front ++ byte ∷ []) - 1 ≡ length front = let all = length-append front (byte ∷ []) in omega arith in
    ap (λ n. take n (front ++ byte ∷ [])) len ∙ take-append_seam front (byte ∷ [])

weighed_piece : (marks : Marks) (body digits : List ℕ) (weight : ℕ) → is_mark marks.separator ≡ true → IsWhole body → Lacks marks.separator body → AreDigits digits → digits_value 10 digits ≡ weight
    → IsPiece marks body weight (body ++ 32 ∷ 40 ∷ (digits ++ 41 ∷ []))
weighed_piece marks body digits weight mark whole lacks are value =
    let piece = body ++ 32 ∷ 40 ∷ (digits ++ 41 ∷ []) in
    let front = (body ++ 32 ∷ []) ++ 40 ∷ digits in
    let split : piece ≡ front ++ 41 ∷ [] = sym (append_assoc (body ++ 32 ∷ []) (40 ∷ digits) (41 ∷ []) ∙ append_assoc body (32 ∷ []) (40 ∷ (digits ++ 41 ∷ []))) in
    let before : before_end piece ≡ front = ap before_end split ∙ without_last front 41 in
    let none : Lacks 40 digits = All-weaker (λ b. is_ascii_digit b ≡ true) (λ b. is_byte 40 b ≡ false) (λ b digit. grind (arith, nat_tests)) digits are.each in
    let text : weight_text piece ≡ digits =
    ap (λ t. trimmed (after_last (is_byte 40) t)) before ∙ ap trimmed (after_last_back 40 (body ++ 32 ∷ []) digits none) ∙ ap trimmed (sym (append-nil digits))
    ∙ trimmed_back [] digits [] (All-nil (λ b. is_blank b ≡ true)) (digits_whole digits are) (All-nil (λ b. is_blank b ≡ true)) in
    let paren : ends_with_byte 41 piece ≡ true = ap (ends_with_byte 41) split ∙ last_byte front 41 41 in
    let angle : ends_with_byte 62 piece ≡ false = ap (ends_with_byte 62) split ∙ last_byte front 41 62 in
    let opens : list_any (is_byte 40) (before_end piece) ≡ true = ap (list_any (is_byte 40)) before ∙ stands_back 40 (body ++ 32 ∷ []) digits in
    let counts : is_digits (weight_text piece) ≡ true = ap is_digits text ∙ and_from _ _ (lt-ltb 0 (length digits) are.some) (all_digits digits are.each) in
    let has : has_weight piece ≡ true = and_from _ _ (and_from _ _ paren opens) counts in
    let parens = mark_parens marks.separator mark in
    let apart = λ (b : ℕ). is_byte marks.separator b ≡ false in
    record {
      whole = whole_append body (41 ∷ []) whole (record { some = omega arith; first = refl; last = refl }) (32 ∷ 40 ∷ digits);
      lacks =
          All-append apart body _ lacks (All-cons apart 32 (40 ∷ (digits ++ 41 ∷ [])) parens.0
          (All-cons apart 40 (digits ++ 41 ∷ []) parens.1 (All-append apart digits (41 ∷ [])
          (All-weaker (λ b. is_ascii_digit b ≡ true) apart (λ b digit. mark_digit marks.separator b mark digit) digits are.each) (All-cons apart 41 [] parens.2 (All-nil apart)))));
      plain = and_right _ (ends_with_byte 62 piece) angle;
      tail = 32 ∷ [];
      blanks = All-cons (λ b. is_blank b ≡ true) 32 [] refl (All-nil (λ b. is_blank b ≡ true));
      names = cond-true (has_weight piece) _ _ has ∙ ap (before_last (is_byte 40)) before ∙ before_last_back 40 (body ++ 32 ∷ []) digits none;
      weighs = cond-true (has_weight piece) _ _ has ∙ ap (digits_value 10) text ∙ value;
    }

-- a value as it is written has its names and its weight
weight_in : (weight : ℕ) → leb 1 weight && leb weight 4294967295 ≡ true → weight < 2 ^ 64
weight_in weight is = let most : weight ≤ 4294967295 = leb-true weight 4294967295 (and_parts (leb 1 weight) (leb weight 4294967295) is).1 in omega arith

written_piece : (marks : Marks) (body : List ℕ) (weight : ℕ) → is_mark marks.separator ≡ true → is_weight weight ≡ true → IsWhole body → Lacks marks.separator body
    → IsPiece marks body weight (body ++ written_weight body weight)
written_piece marks body weight mark is whole lacks =
    cond_both (eqb weight 1 && not (ends_with_byte 41 body || ends_with_byte 62 body)) [] (32 ∷ 40 ∷ (decimal weight ++ 41 ∷ [])) (λ text. IsPiece marks body weight (body ++ text))
    (λ plain.
    let tests = and_parts _ _ plain in
    let ends = or_parts (ends_with_byte 41 body) (ends_with_byte 62 body) (not-true _ tests.1) in
    subst (λ w. IsPiece marks body w (body ++ [])) (sym (eqb-true weight 1 tests.0)) (subst (IsPiece marks body 1) (sym (append-nil body)) (plain_piece marks body whole lacks ends.0 ends.1)))
    (λ weighed. weighed_piece marks body (decimal weight) weight mark whole lacks (decimal_digits weight (weight_in weight is)) (decimal_is_IsNumeral weight (weight_in weight is)).1)

-- and reads back
pub record ReadsBack (marks : Marks) (value : Value) (piece : List ℕ) : Type 0 where
  pub whole : IsWhole piece
  pub lacks : Lacks marks.separator piece
  pub plain : is_reference piece ≡ false
  pub code : piece_code marks piece ≡ None
  pub is : value_of marks piece ≡ value

parted : (marks : Marks) → AreMarks marks → (body : List ℕ) (names : List (List ℕ)) (negative : Bool) (weight : ℕ) (parts : List (List ℕ)) (piece : List ℕ)
    → AreParts marks body names negative parts → All (IsFit marks.prefix) names → is_weight weight ≡ true → IsPiece marks body weight piece
    → ReadsBack marks (record { names = names; weight = weight; negative = negative }) piece
parted marks are body names negative weight parts piece have fits is read =
    let blank = λ (b : ℕ). is_blank b ≡ true in
    let gap : AreBlanks (32 ∷ []) = All-cons blank 32 [] refl (All-nil blank) in
    let cut : pieces marks.alias (names_text piece) ≡ parts =
    ap (pieces marks.alias) (read.names ∙ ap (λ t. t ++ read.tail) have.is)
    ∙ joined_back marks.alias (32 ∷ []) (32 ∷ []) gap gap (mark_blank marks.alias are.alias) [] read.tail parts (All-nil blank) read.blanks have.some have.wholes have.aliases in
    let called : names_of marks piece ≡ names = ap (map (without_prefix marks.prefix)) cut ∙ have.unsigned in
    record {
      whole = read.whole;
      lacks = read.lacks;
      plain = read.plain;
      code = cond-true (is_weight (weight_of piece)) _ _ (ap is_weight read.weighs ∙ is) ∙ ap (names_code marks.prefix) called ∙ codes_none marks.prefix names fits;
      is = same_value _ names _ weight _ negative called read.weighs (ap (λ ps. begins_with marks.prefix (slice_index_or ps 0 [])) cut ∙ have.sign);
    }

named_back : (marks : Marks) → AreMarks marks → (names : List (List ℕ)) (weight : ℕ) (negative : Bool) → 0 < length names → All (IsFit marks.prefix) names → All (Lacks marks.separator) names
    → All (Lacks marks.alias) names → is_weight weight ≡ true
    → let value : Value = record { names = names; weight = weight; negative = negative } in ReadsBack marks value (written_value marks value)
named_back marks are [] weight negative some fits separators aliases is = absurd (omega arith)
named_back marks are (name ∷ names) weight negative some fits separators aliases is =
    let value : Value = record { names = name ∷ names; weight = weight; negative = negative } in
    let body = written_names marks value in
    let parts = parts_of marks are name names negative fits separators aliases in
    parted marks are body (name ∷ names) negative weight (signed marks negative name ∷ names) (written_value marks value) parts fits is
    (written_piece marks body weight are.separator is parts.whole parts.lacks)

pub value_back : (marks : Marks) (value : Value) → AreMarks marks → IsSoundValue marks.prefix value → IsWritable marks value → ReadsBack marks value (written_value marks value)
value_back marks value are sound writable =
    named_back marks are value.names value.weight value.negative sound.some (λ i d within. fit marks.prefix (get_or value.names i d) (sound.named i d within) (sound.unmarked i d within))
    (λ i d within. none_stands (is_byte marks.separator) (get_or value.names i d) (writable.separators i d within))
    (λ i d within. none_stands (is_byte marks.alias) (get_or value.names i d) (writable.aliases i d within)) writable.weight

pub values_back : (opts : ModelOpts) (line : ℕ) (params : List Param) (known : List (List ℕ)) (value : Value) (piece : List ℕ) → ReadsBack opts.marks value piece
    → piece_values opts line params known piece ≡ Ok (value ∷ [])
values_back opts line params known value piece back =
    cond-false (is_reference piece) _ _ back.plain ∙ ap (λ o. refused_or line o (Ok (value_of opts.marks piece ∷ []))) back.code ∙ ap (λ v. Ok (v ∷ [])) back.is
