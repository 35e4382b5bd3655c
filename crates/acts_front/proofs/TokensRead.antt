-- The tokens of a translated constraint line, read again.
use Rattle.std.proofs.Common.{◌≡◌, ℕ, suc, ◌+◌, ◌-◌, ◌*◌, ◌^◌, ◌<◌, ◌≤◌, ℤ, pos, neg_ℤ, Bool, true, false, not, ◌||◌}
use Rattle.std.proofs.Common.{if◌then◌else◌, List, [], ◌∷◌, ◌++◌, flat_map, length, map, take, drop, get_or, All, Some}
use Rattle.std.proofs.Common.{Ok, codes, refl, sym, ap, subst, ◌∙◌, arith, append_assoc, append-nil, length-append}
use Rattle.std.proofs.Math.Seq.{drop-append_seam, take-append_seam}
use Rattle.std.proofs.lemmas.Bool.{and_from, and_parts, cond-false, eq-eqb, eqb-true, false≢true, le-ltb, leb-true, lt-ltb, ltb-true, or_parts}
use Rattle.std.proofs.lemmas.Bool.Decides.{nat_tests}
use Rattle.std.proofs.lemmas.List.{drop_all, take_all}
use Rattle.std.proofs.lemmas.List.Elements.{All-head, All-nil, All-tail}
use Rattle.std.specs.Char.{is_ascii_digit}
use Rattle.std.specs.List.{after_first, before_first, list_all, list_any, position_or_len, prefix_len}
use Rattle.std.specs.Option.{option_map}
use Rattle.std.specs.Prelude.{◌==◌, nat_lt}
use Rattle.std.specs.Str.Parse.{digits_value}
use Rattle.value_text.specs.believed.Numbers.{decimal_digits, has_point, is_decimal, is_digits, is_minus, is_point, number_of, whole_digits, without_sign}
use Rattle.value_text.specs.declared.fixed.FixedAnswer.TheVariants.{Number as IsNumber}
use Rattle.cov_model.specs.declared.constraint.Rel.{Rel}
use Rattle.cov_model.specs.declared.constraint.Rel.TheVariants.{Eq, Ne, Gt, Ge, Lt, Le}
use Rattle.model_lex.specs.believed.Blanks.{trimmed}
use Rattle.value_text.specs.believed.Texts.{is_blank}
use Rattle.model_lex.specs.believed.Sections.{first_word, is_word_byte}
use Rattle.model_lex.specs.believed.Tokens as lex
use Rattle.model_lex.specs.believed.Tokens.{begins_number, first_token, is_number_byte, name_between, number_run, quoted_len, quoted_token, unquoted}
use Rattle.model_lex.specs.declared.diag.DiagCode.{DiagCode}
use Rattle.model_lex.specs.declared.diag.DiagCode.TheVariants.{NameNotClosed, TextNotClosed}
use Rattle.model_lex.specs.declared.token.TokenKind.{TokenKind}
use Rattle.model_lex.specs.declared.token.TokenKind.TheVariants as kinds
use Rattle.model_parse.specs.believed.Pieces.{begins_with, is_byte}
use Rattle.model_parse.specs.believed.Written.{joined}
use Rattle.model_parse.proofs.Joining.{IsWhole, trimmed_back}
use Rattle.constraint_ast.specs.believed.Grammar.{at}
use Rattle.constraint_ast.specs.believed.Lexing.{inside, meant, token_before, tokens_in}
use Rattle.constraint_ast.specs.declared.token.RuleToken.{RuleToken}
use Rattle.constraint_ast.specs.declared.token.RuleToken.TheVariants as rule
use Rattle.constraint_ast.specs.declared.tree.RawLiteral.TheVariants as literals
use Rattle.constraint_ast.proofs.Digits.{run_prefix}
use Rattle.constraint_ast.proofs.Lexing.{rest_skipped}
use Rattle.constraint_ast.proofs.TokenText.{Ends, ends_at, ends_word, ends_number, greater_first, less_first}
use Rattle.acts_front.specs.believed.ParameterLines.{are_few_digits, is_name, is_whole, without_minus}
use Rattle.acts_front.specs.believed.Tokens.{Token, Name, Whole, Words, Truth, Relation, Arrow, Or, And, Not, Open, Close}
use Rattle.acts_front.specs.believed.Constraints.{is_arrow}
use Rattle.acts_front.specs.believed.Translation.{constraint_text, rel_text, token_text, truth_text}
use Rattle.acts_front.proofs.AllowedTexts.{all_weaker, each_passes}
use Rattle.acts_front.proofs.GivenTokens.{IsWritten}
use Rattle.acts_front.proofs.TranslatedTrees.{constraint_tokens, number_read, raw_rel, rule_token, rule_tokens}

-- no byte of a text passes a test, where each passes another
pub none_passes : (p q : ℕ → Bool) → ((b : ℕ) → p b ≡ true → q b ≡ false) → (text : List ℕ) → list_all p text ≡ true → list_any q text ≡ false
none_passes p q gives [] all = refl
none_passes p q gives (b ∷ text) all = let parts = and_parts (p b) (list_all p text) all in rw (gives b parts.0, none_passes p q gives text parts.1) refl

-- a text has no blank at its ends, where none of its bytes is a blank
pub dense_whole : (p : ℕ → Bool) → ((b : ℕ) → p b ≡ true → is_blank b ≡ false) → (text : List ℕ) → 0 < length text → list_all p text ≡ true → IsWhole text
dense_whole p dense text some all =
    let each = each_passes p text all in
    record { some = some; first = dense (get_or text 0 0) (each 0 0 some); last = dense (get_or text (length text - 1) 0) (each (length text - 1) 0 (omega arith)) }

pub trimmed_whole : (text : List ℕ) → IsWhole text → trimmed text ≡ text
trimmed_whole text whole = ap trimmed (sym (append-nil text)) ∙ trimmed_back [] text [] (All-nil (λ b. is_blank b ≡ true)) whole (All-nil (λ b. is_blank b ≡ true))

-- ---- whole numbers

digit_no_point : (b : ℕ) → is_ascii_digit b ≡ true → is_point b ≡ false
digit_no_point b digit = grind (arith, nat_tests)

no_point : (digits : List ℕ) → list_all is_ascii_digit digits ≡ true → position_or_len is_point digits ≡ length digits
no_point [] all = refl
no_point (b ∷ digits) all =
    let parts = and_parts (is_ascii_digit b) (list_all is_ascii_digit digits) all in
    rw (digit_no_point b parts.0, no_point digits parts.1) (omega arith)

-- a number that is or isn't below zero
abbrev pub signed : Bool → ℕ → ℤ
signed minus n = if minus then neg_ℤ (pos n) else pos n

record IsCutSign (text : List ℕ) : Type 0 where
  sign_cut : without_sign text ≡ without_minus text
  minus : is_minus text ≡ begins_with 45 text

sign_cut_off : (text : List ℕ) → is_whole text ≡ true → IsCutSign text
sign_cut_off [] whole = record { sign_cut = refl; minus = refl }
sign_cut_off (b ∷ rest) whole = by (b == 45) refl
  where
    some : nat_lt 0 (length (b ∷ rest)) ≡ true
    some = lt-ltb 0 (length (b ∷ rest)) (omega arith)

    by : (is : Bool) → (b == 45) ≡ is → IsCutSign (b ∷ rest)
    by true is = let begins : begins_with 45 (b ∷ rest) ≡ true = and_from _ _ some is in
        record {
          sign_cut = rw begins (by_plus (b == 43));
          minus = is ∙ sym begins;
        }
      where
        by_plus : (plus : Bool) → (if plus || (b == 45) then rest else b ∷ rest) ≡ rest
        by_plus true = refl
        by_plus false = rw is refl
    by false is =
        let begins : begins_with 45 (b ∷ rest) ≡ false = rw (some, is) refl in
        let cut : without_minus (b ∷ rest) ≡ b ∷ rest = rw begins refl in
        let digit : is_ascii_digit b ≡ true = (and_parts (is_ascii_digit b) (list_all is_ascii_digit rest) (and_parts _ _ (ap are_few_digits (sym cut) ∙ whole)).1).0 in
        let plus : (b == 43) ≡ false = grind (arith, nat_tests) in
        let whole_cut : without_sign (b ∷ rest) ≡ b ∷ rest = rw (plus, is) refl in
        record { sign_cut = whole_cut ∙ sym cut; minus = is ∙ sym begins }

pub whole_is_number : (text : List ℕ) → is_whole text ≡ true → number_of text ≡ IsNumber (signed (begins_with 45 text) (digits_value 10 (without_minus text) * 10 ^ 9))
whole_is_number text whole =
    let digits = without_minus text in
    let few = and_parts _ _ whole in
    let sizes = and_parts _ _ few.0 in
    let least : 1 ≤ length digits = leb-true 1 (length digits) sizes.0 in
    let most : length digits ≤ 9 = leb-true (length digits) 9 sizes.1 in
    let sign = sign_cut_off text whole in
    let place = no_point digits few.1 in
    let front : whole_digits text ≡ digits = ap (before_first is_point) sign.sign_cut ∙ (ap (λ n. take n digits) place ∙ take_all (length digits) digits (omega arith)) in
    let back : decimal_digits text ≡ [] = ap (after_first is_point) sign.sign_cut ∙ (ap (λ n. drop (n + 1) digits) place ∙ drop_all (length digits + 1) digits (omega arith)) in
    let point : has_point text ≡ false = ap (list_any is_point) sign.sign_cut ∙ none_passes is_ascii_digit is_point digit_no_point digits few.1 in
    let counts : is_digits digits ≡ true = and_from _ _ (lt-ltb 0 (length digits) (omega arith)) few.1 in
    let decimal : is_decimal text ≡ true = rw (front, point, counts) refl in
    let short : nat_lt 28 (length digits) ≡ false = le-ltb 28 (length digits) (omega arith) in
    let size : digits_value 10 (whole_digits text ++ decimal_digits text) * 10 ^ (9 - length (decimal_digits text)) ≡ digits_value 10 digits * 10 ^ 9 =
    ap (λ f. digits_value 10 (f ++ decimal_digits text) * 10 ^ (9 - length (decimal_digits text))) front
    ∙ (ap (λ d. digits_value 10 (digits ++ d) * 10 ^ (9 - length d)) back ∙ ap (λ d. digits_value 10 d * 10 ^ 9) (append-nil digits)) in
    cond-false (not (is_decimal text)) _ _ (ap not decimal)
    ∙ (cond-false (nat_lt 28 (length (whole_digits text)) || nat_lt 9 (length (decimal_digits text))) _ _ (rw (front, back, short) refl)
    ∙ (ap (λ s. IsNumber (signed (is_minus text) s)) size ∙ ap (λ m. IsNumber (signed m (digits_value 10 digits * 10 ^ 9))) sign.minus))

-- ---- names and texts

word_unmarked : (b : ℕ) → is_word_byte b ≡ true → is_byte 93 b ≡ false
word_unmarked b word = grind (arith, nat_tests)

word_unquoting : (b : ℕ) → is_word_byte b ≡ true → is_byte 92 b ≡ false
word_unquoting b word = grind (arith, nat_tests)

pub word_dense : (b : ℕ) → is_word_byte b ≡ true → is_blank b ≡ false
word_dense b word = grind (arith, nat_tests)

-- the mark that closes stands behind a text that has neither it nor a backslash
plain_step : (close b : ℕ) (text : List ℕ) → is_byte close b ≡ false → is_byte 92 b ≡ false → quoted_len close (b ∷ text) ≡ option_map (λ n. 1 + n) (quoted_len close text)
plain_step close b [] open_yet other = rw open_yet refl
plain_step close b (next ∷ text) open_yet other = rw (open_yet, other) refl

closed_here : (close : ℕ) (tail : List ℕ) → quoted_len close (close ∷ tail) ≡ Some 0
closed_here close [] = rw (eq-eqb close close refl) refl
closed_here close (b ∷ tail) = rw (eq-eqb close close refl) refl

closes : (close : ℕ) (text tail : List ℕ) → list_any (is_byte close) text ≡ false → list_any (is_byte 92) text ≡ false → quoted_len close (text ++ close ∷ tail) ≡ Some (length text)
closes close [] tail none plain = closed_here close tail
closes close (b ∷ text) tail none plain =
    let open_yet = or_parts (is_byte close b) (list_any (is_byte close) text) none in
    let other = or_parts (is_byte 92 b) (list_any (is_byte 92) text) plain in
    let size : 1 + length text ≡ length (b ∷ text) = omega arith in
    plain_step close b (text ++ close ∷ tail) open_yet.0 other.0 ∙ (ap (option_map (λ n. 1 + n)) (closes close text tail open_yet.1 other.1) ∙ ap Some size)

plain_unquoted : (text : List ℕ) → list_any (is_byte 92) text ≡ false → unquoted text ≡ text
plain_unquoted [] plain = refl
plain_unquoted (b ∷ []) plain = refl
plain_unquoted (b ∷ next ∷ text) plain =
    let parts = or_parts (is_byte 92 b) (list_any (is_byte 92) (next ∷ text)) plain in
    let step : unquoted (b ∷ next ∷ text) ≡ b ∷ unquoted (next ∷ text) = rw parts.0 refl in
    step ∙ ap (λ rest. b ∷ rest) (plain_unquoted (next ∷ text) parts.1)

between : (mark close : ℕ) (text : List ℕ) → inside (mark ∷ (text ++ close ∷ [])) ≡ text
between mark close text =
    let size : length (mark ∷ (text ++ close ∷ [])) - 2 ≡ length text = omega (arith, length-append text (close ∷ [])) in
    ap (λ n. take n (text ++ close ∷ [])) size ∙ take-append_seam text (close ∷ [])

-- ---- one token

module _ (line : ℕ) where
  -- a token is read at the start of a text
  abbrev Reads : RuleToken → List ℕ → List ℕ → Type 0
  Reads token text tail = tokens_in line 0 (text ++ tail) ≡ token_before line (Ok token) (tokens_in line 0 tail)

  one_read :
      (token : RuleToken) (b : ℕ) (more tail : List ℕ) → is_blank b ≡ false → (kind : TokenKind) → first_token (b ∷ (more ++ tail)) ≡ Ok (kind, suc (length more))
      → meant kind (b ∷ more) ≡ Ok token
      → Reads token (b ∷ more) tail
  one_read token b more tail dense kind first means =
      let step : tokens_in line 0 (b ∷ (more ++ tail)) ≡ token_before line (meant kind (b ∷ take (length more) (more ++ tail))) (tokens_in line (suc (length more) - 1) (more ++ tail)) =
      rw (dense, first) refl in
      let one : suc (length more) - 1 ≡ length more = omega arith in
      let rest : tokens_in line (suc (length more) - 1) (more ++ tail) ≡ tokens_in line 0 tail =
      ap (λ n. tokens_in line n (more ++ tail)) one ∙ (rest_skipped line (length more) (more ++ tail) ∙ ap (λ left. tokens_in line 0 left) (drop-append_seam more tail)) in
      let same : meant kind (b ∷ take (length more) (more ++ tail)) ≡ Ok token = ap (λ text. meant kind (b ∷ text)) (take-append_seam more tail) ∙ means in
      step ∙ (ap (λ read. token_before line read (tokens_in line (suc (length more) - 1) (more ++ tail))) same ∙ ap (λ read. token_before line (Ok token) read) rest)

  word_read :
      (token : RuleToken) (b : ℕ) (more tail : List ℕ) → is_blank b ≡ false → first_token (b ∷ (more ++ tail)) ≡ lex.word_token (first_word (b ∷ (more ++ tail)))
      → list_all is_word_byte (b ∷ more) ≡ true → lex.word_token (b ∷ more) ≡ Ok (kinds.Word, suc (length more)) → meant kinds.Word (b ∷ more) ≡ Ok token → Ends tail
      → Reads token (b ∷ more) tail
  word_read token b more tail dense first all known means ends =
      let len : prefix_len is_word_byte (b ∷ (more ++ tail)) ≡ length (b ∷ more) = run_prefix is_word_byte (b ∷ more) tail all (ends_word ends) in
      let run : first_word (b ∷ (more ++ tail)) ≡ b ∷ more = ap (λ n. take n (b ∷ (more ++ tail))) len ∙ take-append_seam (b ∷ more) tail in
      one_read token b more tail dense kinds.Word (first ∙ (ap lex.word_token run ∙ known)) means

  marked_first : (kind : TokenKind) (code : DiagCode) (close : ℕ) (text tail : List ℕ) → list_any (is_byte close) text ≡ false → list_any (is_byte 92) text ≡ false
      → quoted_token kind code (quoted_len close ((text ++ close ∷ []) ++ tail)) ≡ Ok (kind, suc (length (text ++ close ∷ [])))
  marked_first kind code close text tail none plain =
      let size : 2 + length text ≡ suc (length (text ++ close ∷ [])) = omega (arith, length-append text (close ∷ [])) in
      ap (λ t. quoted_token kind code (quoted_len close t)) (append_assoc text (close ∷ []) tail)
      ∙ (ap (quoted_token kind code) (closes close text tail none plain) ∙ ap (λ n. Ok (kind, n)) size)

  name_read : (name tail : List ℕ) → is_name name ≡ true → Reads (rule.Name name) (91 ∷ (name ++ 93 ∷ [])) tail
  name_read name tail named =
      let parts = and_parts _ _ named in
      let some : 0 < length name = ltb-true 0 (length name) (and_parts _ _ parts.0).0 in
      let none = none_passes is_word_byte (is_byte 93) word_unmarked name parts.1 in
      let plain = none_passes is_word_byte (is_byte 92) word_unquoting name parts.1 in
      let called : name_between name ≡ name = ap unquoted (trimmed_whole name (dense_whole is_word_byte word_dense name some parts.1)) ∙ plain_unquoted name plain in
      one_read (rule.Name name) 91 (name ++ 93 ∷ []) tail refl kinds.Name (marked_first kinds.Name NameNotClosed 93 name tail none plain)
      (ap (λ text. Ok (rule.Name (name_between text))) (between 91 93 name) ∙ ap (λ n. Ok (rule.Name n)) called)

  words_read : (text tail : List ℕ) → list_any (is_byte 34) text ≡ false → list_any (is_byte 92) text ≡ false → Reads (rule.Literal (literals.Words text)) (34 ∷ (text ++ 34 ∷ [])) tail
  words_read text tail none plain =
      one_read (rule.Literal (literals.Words text)) 34 (text ++ 34 ∷ []) tail refl kinds.Words (marked_first kinds.Words TextNotClosed 34 text tail none plain)
      (ap (λ t. Ok (rule.Literal (literals.Words (unquoted t)))) (between 34 34 text) ∙ ap (λ t. Ok (rule.Literal (literals.Words t))) (plain_unquoted text plain))

  digit_number : (b : ℕ) → is_ascii_digit b ≡ true → is_number_byte b ≡ true
  digit_number b digit = grind (arith, nat_tests)

  digit_begins : (b : ℕ) → is_ascii_digit b ≡ true → begins_number b ≡ true
  digit_begins b digit = grind (arith, nat_tests)

  number_at : (b : ℕ) (more tail : List ℕ) → begins_number b ≡ true → list_all is_number_byte (b ∷ more) ≡ true → is_whole (b ∷ more) ≡ true → Ends tail
      → Reads (rule.Literal (literals.Number (number_read (b ∷ more)))) (b ∷ more) tail
  number_at b more tail begins all whole ends =
      let bracket : (b == 91) ≡ false = grind (arith, nat_tests) in
      let quote : (b == 34) ≡ false = grind (arith, nat_tests) in
      let dense : is_blank b ≡ false = grind (arith, nat_tests) in
      let len : prefix_len is_number_byte (b ∷ (more ++ tail)) ≡ length (b ∷ more) = run_prefix is_number_byte (b ∷ more) tail all (ends_number ends) in
      let run : number_run (b ∷ (more ++ tail)) ≡ b ∷ more = ap (λ n. take n (b ∷ (more ++ tail))) len ∙ take-append_seam (b ∷ more) tail in
      let first : first_token (b ∷ (more ++ tail)) ≡ lex.number_token (length (number_run (b ∷ (more ++ tail)))) (number_of (number_run (b ∷ (more ++ tail)))) =
      rw (bracket, quote, begins) refl in
      let is = whole_is_number (b ∷ more) whole in
      one_read (rule.Literal (literals.Number (number_read (b ∷ more)))) b more tail dense kinds.Number
      (first ∙ (ap (λ run. lex.number_token (length run) (number_of run)) run ∙ rw is refl)) (rw is refl)

  whole_read : (text tail : List ℕ) → is_whole text ≡ true → Ends tail → Reads (rule.Literal (literals.Number (number_read text))) text tail
  whole_read [] tail whole ends = absurd (false≢true whole)
  whole_read (b ∷ more) tail whole ends = by (begins_with 45 (b ∷ more)) refl
    where
      by : (minus : Bool) → begins_with 45 (b ∷ more) ≡ minus → Reads (rule.Literal (literals.Number (number_read (b ∷ more)))) (b ∷ more) tail
      by true minus =
          let same : b ≡ 45 = eqb-true b 45 (and_parts _ _ minus).1 in
          let cut : without_minus (b ∷ more) ≡ more = rw minus refl in
          let digits : list_all is_ascii_digit more ≡ true = ap (list_all is_ascii_digit) (sym cut) ∙ (and_parts _ _ whole).1 in
          number_at b more tail (ap begins_number same) (and_from _ _ (ap is_number_byte same) (all_weaker is_ascii_digit is_number_byte digit_number more digits)) whole ends
      by false minus =
          let cut : without_minus (b ∷ more) ≡ b ∷ more = rw minus refl in
          let digits : list_all is_ascii_digit (b ∷ more) ≡ true = ap (list_all is_ascii_digit) (sym cut) ∙ (and_parts _ _ whole).1 in
          number_at b more tail (digit_begins b (and_parts _ _ digits).0) (all_weaker is_ascii_digit is_number_byte digit_number (b ∷ more) digits) whole ends

  relation_read : (rel : Rel) (tail : List ℕ) → Ends tail → Reads (rule.Relation (raw_rel rel)) (rel_text rel) tail
  relation_read Eq tail ends = one_read _ 61 [] tail refl kinds.Relation refl refl
  relation_read Ne tail ends = one_read _ 60 (62 ∷ []) tail refl kinds.Relation refl refl
  relation_read Gt tail ends = one_read _ 62 [] tail refl kinds.Relation (greater_first ends) refl
  relation_read Ge tail ends = one_read _ 62 (61 ∷ []) tail refl kinds.Relation refl refl
  relation_read Lt tail ends = one_read _ 60 [] tail refl kinds.Relation (less_first ends) refl
  relation_read Le tail ends = one_read _ 60 (61 ∷ []) tail refl kinds.Relation refl refl

  truth_read : (truth : Bool) (tail : List ℕ) → Reads (rule.Literal (literals.Words (truth_text truth))) (34 ∷ (truth_text truth ++ 34 ∷ [])) tail
  truth_read true tail = words_read (codes "TRUE") tail refl refl
  truth_read false tail = words_read (codes "FALSE") tail refl refl

  token_read : (token : Token) (tail : List ℕ) → IsWritten token → Ends tail → Reads (rule_token token) (token_text token) tail
  token_read (Name name) tail is ends = name_read name tail is
  token_read (Whole text) tail is ends = whole_read text tail is ends
  token_read (Words text) tail is ends = words_read text tail is.no_quote is.no_backslash
  token_read (Truth truth) tail is ends = truth_read truth tail
  token_read (Relation rel) tail is ends = relation_read rel tail ends
  token_read Arrow tail is ends = word_read rule.Then 84 (codes "HEN") tail refl refl refl refl refl ends
  token_read Or tail is ends = word_read rule.Or 79 (codes "R") tail refl refl refl refl refl ends
  token_read And tail is ends = word_read rule.And 65 (codes "ND") tail refl refl refl refl refl ends
  token_read Not tail is ends = word_read rule.Not 78 (codes "OT") tail refl refl refl refl refl ends
  token_read Open tail is ends = one_read rule.OpenParen 40 [] tail refl kinds.Mark refl refl
  token_read Close tail is ends = one_read rule.CloseParen 41 [] tail refl kinds.Mark refl refl

  -- ---- a line

  -- tokens with a blank before each, and the semicolon
  abbrev spaced : List Token → List ℕ
  spaced tokens = flat_map (λ next. codes " " ++ next) (map token_text tokens) ++ codes ";"

  spaced_step : (token : Token) (tokens : List Token) → spaced (token ∷ tokens) ≡ 32 ∷ (token_text token ++ spaced tokens)
  spaced_step token tokens = append_assoc (codes " " ++ token_text token) (flat_map (λ next. codes " " ++ next) (map token_text tokens)) (codes ";")

  spaced_ends : (tokens : List Token) → Ends (spaced tokens)
  spaced_ends [] = ends_at 59 [] refl
  spaced_ends (token ∷ tokens) = subst Ends (sym (spaced_step token tokens)) (ends_at 32 (token_text token ++ spaced tokens) refl)

  spaced_read : (tokens : List Token) → All IsWritten tokens → tokens_in line 0 (spaced tokens) ≡ Ok (rule_tokens line tokens ++ at line rule.Semicolon ∷ [])
  spaced_read [] are = refl
  spaced_read (token ∷ tokens) are =
      ap (tokens_in line 0) (spaced_step token tokens)
      ∙ (token_read token (spaced tokens) (All-head IsWritten token tokens are) (spaced_ends tokens)
      ∙ ap (token_before line (Ok (rule_token token))) (spaced_read tokens (All-tail IsWritten token tokens are)))

  words_in : (tokens : List Token) → All IsWritten tokens
      → tokens_in line 0 (joined (codes " ") (map token_text tokens) ++ codes ";") ≡ Ok (rule_tokens line tokens ++ at line rule.Semicolon ∷ [])
  words_in [] are = refl
  words_in (token ∷ tokens) are =
      ap (tokens_in line 0) (append_assoc (token_text token) (flat_map (λ next. codes " " ++ next) (map token_text tokens)) (codes ";"))
      ∙ (token_read token (spaced tokens) (All-head IsWritten token tokens are) (spaced_ends tokens)
      ∙ ap (token_before line (Ok (rule_token token))) (spaced_read tokens (All-tail IsWritten token tokens are)))

  pub constraint_read : (tokens : List Token) → All IsWritten tokens → tokens_in line 0 (constraint_text tokens) ≡ Ok (constraint_tokens line tokens)
  constraint_read tokens are = by (list_any is_arrow tokens)
    where
      behind : List ℕ
      behind = joined (codes " ") (map token_text tokens) ++ codes ";"

      by : (any : Bool) → tokens_in line 0 (((if any then codes "IF " else []) ++ joined (codes " ") (map token_text tokens)) ++ codes ";") ≡ Ok
          ((if any then at line rule.If ∷ [] else []) ++ (rule_tokens line tokens ++ at line rule.Semicolon ∷ []))
      by true =
          word_read rule.If 73 (codes "F") (32 ∷ behind) refl refl refl refl refl (ends_at 32 behind refl)
          ∙ ap (token_before line (Ok rule.If)) (words_in tokens are)
      by false = words_in tokens are
