-- The line of a constraint that a file spells is one line of a file: the names and texts of a file hold no line
-- feed, and each token ends with a byte that isn't a carriage return.
use Rattle.std.proofs.Common.{◌≡◌, ℕ, zero, suc, ◌+◌, ◌-◌, Bool, true, false, ◌&&◌, ◌||◌, List, [], ◌∷◌, ◌++◌, map, length, take, drop, get_or, nat_lt, refl, ap, subst, arith, ◌∙◌}
use Rattle.std.specs.List.{AllByRecursion, enumerate_from, list_all, list_any, onto_first, prefix_len, slice_split, suffix_len}
use Rattle.std.specs.Prelude.{Option, Some, None, Result, Ok, Err, ◌==◌, if◌then◌else◌, slice_index}
use Rattle.std.proofs.lemmas.Bool.{and_parts}
use Rattle.std.proofs.Math.Bool.{and-false}
use Rattle.std.proofs.lemmas.Bool.Decides.{nat_tests}
use Rattle.value_text.specs.believed.Texts.{is_blank}
use Rattle.model_lex.specs.believed.Blanks.{trimmed, without_first_blanks}
use Rattle.model_lex.specs.believed.Lines.{ended_lines, is_line_feed, numbered_lines, without_mark, without_return}
use Rattle.model_lex.specs.believed.Sections.{Split, is_ignored, kind_of, no_lines, put_before, refusal_of, refused_or, sections_behind, sections_of, with_line}
use Rattle.model_lex.specs.believed.Tokens.{is_number_byte, is_quotable, unquoted}
use Rattle.model_lex.specs.declared.diag.Diag.{Diag}
use Rattle.model_lex.specs.declared.diag.DiagCode.{DiagCode}
use Rattle.model_lex.specs.declared.line_kind.LineKind.{LineKind}
use Rattle.model_lex.specs.declared.line_kind.LineKind.TheVariants.{Param, Group, Rule}
use Rattle.constraint_ast.specs.Laws.{RuleTextIsOneLine}
use Rattle.constraint_ast.specs.believed.Lexing.{inside}
use Rattle.constraint_ast.specs.believed.RuleText.{body_tokens, closes, number_text, opens, quoted, relation_text, spaced, token_text}
use Rattle.constraint_ast.specs.believed.Trees.{RuleTree}
use Rattle.constraint_ast.specs.declared.token.RuleToken.{RuleToken}
use Rattle.constraint_ast.specs.declared.token.RuleToken.TheVariants.{Name, Literal, Relation, Sign}
use Rattle.constraint_ast.specs.declared.token.Sign.TheVariants.{Negative, Positive}
use Rattle.constraint_ast.specs.declared.tree.RawLiteral.{RawLiteral}
use Rattle.constraint_ast.specs.declared.tree.RawLiteral.TheVariants.{Words, Number}
use Rattle.constraint_ast.specs.declared.tree.RawRel.TheVariants.{Eq, Ne, Gt, Ge, Lt, Le}
use Rattle.constraint_ast.proofs.Contents.{TokenIs, WrittenAre, rules_are}
use Rattle.constraint_ast.proofs.Meanings.{lines_are}
use Rattle.constraint_ast.proofs.NumberText.{IsSmall, number_bytes, number_small}

-- ---- texts without a line feed

abbrev Unbroken : List ℕ → Type 0
Unbroken text = AllByRecursion (λ b. is_line_feed b ≡ false) text

unbroken_take : (n : ℕ) (text : List ℕ) → Unbroken text → Unbroken (take n text)
unbroken_take zero text is = tt
unbroken_take (suc n) [] is = tt
unbroken_take (suc n) (b ∷ text) is = (is.0, unbroken_take n text is.1)

unbroken_drop : (n : ℕ) (text : List ℕ) → Unbroken text → Unbroken (drop n text)
unbroken_drop zero text is = is
unbroken_drop (suc n) [] is = tt
unbroken_drop (suc n) (b ∷ text) is = unbroken_drop n text is.1

unbroken_trimmed : (text : List ℕ) → Unbroken text → Unbroken (trimmed text)
unbroken_trimmed text is =
    let rest : List ℕ = without_first_blanks text in
    unbroken_take (length rest - suffix_len is_blank rest) rest (unbroken_drop (prefix_len is_blank text) text is)

unbroken_inside : (len : ℕ) (text : List ℕ) → Unbroken text → Unbroken (inside (take len text))
unbroken_inside len text is =
    let token : List ℕ = take len text in
    unbroken_take (length token - 2) (drop 1 token) (unbroken_drop 1 token (unbroken_take len text is))

unbroken_unquoted : (text : List ℕ) → Unbroken text → Unbroken (unquoted text)
unbroken_unquoted [] is = tt
unbroken_unquoted (b ∷ []) is = is
unbroken_unquoted (b ∷ next ∷ text) is = by ((b == 92) && is_quotable next) refl (unbroken_unquoted text is.1.1) (unbroken_unquoted (next ∷ text) is.1)
  where
    by : (quotes : Bool) → ((b == 92) && is_quotable next) ≡ quotes → Unbroken (unquoted text) → Unbroken (unquoted (next ∷ text)) → Unbroken (unquoted (b ∷ next ∷ text))
    by true e short long = rw e (is.1.0, short)
    by false e short long = rw e (is.0, long)

unbroken_quoted : (text : List ℕ) → Unbroken text → Unbroken (quoted text)
unbroken_quoted [] is = tt
unbroken_quoted (b ∷ text) is = by (is_quotable b) refl (unbroken_quoted text is.1)
  where
    by : (quotable : Bool) → is_quotable b ≡ quotable → Unbroken (quoted text) → Unbroken (quoted (b ∷ text))
    by true e rest = rw e (refl, (is.0, rest))
    by false e rest = rw e (is.0, rest)

-- ---- the constraint lines of a file

abbrev AreUnbroken : List (ℕ × List ℕ) → Type 0
AreUnbroken lines = AllByRecursion (λ line. Unbroken line.1) lines

onto : (b : ℕ) → is_line_feed b ≡ false → (parts : List (List ℕ)) → AllByRecursion Unbroken parts → AllByRecursion Unbroken (onto_first b parts)
onto b e [] are = ((e, tt), tt)
onto b e (part ∷ parts) are = ((e, are.0), are.1)

pieces_are : (text : List ℕ) → AllByRecursion Unbroken (slice_split is_line_feed text)
pieces_are [] = (tt, tt)
pieces_are (b ∷ text) = by (is_line_feed b) refl (pieces_are text)
  where
    by : (feed : Bool) → is_line_feed b ≡ feed → AllByRecursion Unbroken (slice_split is_line_feed text) → AllByRecursion Unbroken (slice_split is_line_feed (b ∷ text))
    by true e rest = rw e (tt, rest)
    by false e rest = rw e (onto b e (slice_split is_line_feed text) rest)

ended_are : (lines : List (List ℕ)) → AllByRecursion Unbroken lines → AllByRecursion Unbroken (ended_lines lines)
ended_are [] are = tt
ended_are (line ∷ []) are = by (length line == 0)
  where
    by : (none : Bool) → AllByRecursion Unbroken (if none then [] else line ∷ [])
    by true = tt
    by false = are
ended_are (line ∷ next ∷ lines) are = (are.0, ended_are (next ∷ lines) are.1)

returned_is : (line : List ℕ) → Unbroken line → Unbroken (without_return line)
returned_is line is = by (nat_lt 0 (length line) && (slice_index line (length line - 1) == 13))
  where
    by : (returns : Bool) → Unbroken (if returns then take (length line - 1) line else line)
    by true = unbroken_take (length line - 1) line is
    by false = is

numbered_are : (n : ℕ) (lines : List (List ℕ)) → AllByRecursion Unbroken lines → AreUnbroken (enumerate_from n (map without_return lines))
numbered_are n [] are = tt
numbered_are n (line ∷ lines) are = (returned_is line are.0, numbered_are (n + 1) lines are.1)

abbrev split_ok : Split → Result Split Diag
split_ok split = Ok split

same_split : (split other : Split) → split_ok split ≡ Ok other → split ≡ other
same_split split other e = cc

unrefused : (code : Option DiagCode) (number : ℕ) (read : Result Split Diag) (split : Split) → refused_or code number read ≡ Ok split → read ≡ Ok split
unrefused (Some code) number read split e = absurd (cc)
unrefused None number read split e = e

put_are : (kind : LineKind) (line : ℕ × List ℕ) (rest : Split) → Unbroken line.1 → AreUnbroken rest.rules → AreUnbroken (put_before kind line rest).rules
put_are Param line rest is are = are
put_are Group line rest is are = are
put_are Rule line rest is are = (is, are)

with_are :
    (kind : LineKind) (line : ℕ × List ℕ) (read : Result Split Diag) (split : Split) → Unbroken line.1 → ((rest : Split) → read ≡ Ok rest → AreUnbroken rest.rules)
    → with_line kind line read ≡ Ok split → AreUnbroken split.rules
with_are kind line (Ok rest) split is are e = subst (λ split. AreUnbroken split.rules) (same_split (put_before kind line rest) split e) (put_are kind line rest is (are rest refl))
with_are kind line (Err diag) split is are e = absurd (cc)

rules_unbroken : (before : LineKind) (lines : List (ℕ × List ℕ)) (split : Split) → AreUnbroken lines → sections_behind before lines ≡ Ok split → AreUnbroken split.rules
rules_unbroken before [] split are e = subst (λ split. AreUnbroken split.rules) (same_split no_lines split e) tt
rules_unbroken before (line ∷ lines) split are e = by (is_ignored line.1) refl (λ kind split e. rules_unbroken kind lines split are.1 e)
  where
    kind : LineKind
    kind = kind_of before line.1

    by :
        (ignored : Bool) → is_ignored line.1 ≡ ignored → ((kind : LineKind) (split : Split) → sections_behind kind lines ≡ Ok split → AreUnbroken split.rules)
        → AreUnbroken split.rules
    by true is later = later before split (rw is at e)
    by false is later =
        with_are kind line (sections_behind kind lines) split are.0 (λ rest e. later kind rest e)
        (unrefused (refusal_of before line.1) line.0 (with_line kind line (sections_behind kind lines)) split (rw is at e))

file_unbroken : (bytes : List ℕ) (split : Split) → sections_of bytes ≡ Ok split → AreUnbroken split.rules
file_unbroken bytes split e =
    let pieces : List (List ℕ) = slice_split is_line_feed (without_mark bytes) in
    rules_unbroken Param (numbered_lines bytes) split (numbered_are 1 (ended_lines pieces) (ended_are pieces (pieces_are (without_mark bytes)))) e

-- ---- texts without a line feed that don't end with a return

abbrev IsLine : List ℕ → Type 0
IsLine [] = Unit {0}
IsLine (b ∷ []) = (is_line_feed b ≡ false) × ((b == 13) ≡ false)
IsLine (b ∷ next ∷ text) = (is_line_feed b ≡ false) × IsLine (next ∷ text)

both : (one two : List ℕ) → IsLine one → IsLine two → IsLine (one ++ two)
both [] two is also = also
both (b ∷ []) [] is also = is
both (b ∷ []) (next ∷ two) is also = (is.0, also)
both (b ∷ next ∷ one) two is also = (is.0, both (next ∷ one) two is.1 also)

closed : (text : List ℕ) (mark : ℕ) → Unbroken text → is_line_feed mark ≡ false → (mark == 13) ≡ false → IsLine (text ++ mark ∷ [])
closed [] mark is feed return = (feed, return)
closed (b ∷ []) mark is feed return = (is.0, (feed, return))
closed (b ∷ next ∷ text) mark is feed return = (is.0, closed (next ∷ text) mark is.1 feed return)

-- bytes of which none is a line feed or a return
plain : (test : ℕ → Bool) → ((b : ℕ) → test b ≡ true → (is_line_feed b ≡ false) × ((b == 13) ≡ false)) → (text : List ℕ) → list_all test text ≡ true → IsLine text
plain test is [] e = tt
plain test is (b ∷ []) e = is b (and_parts (test b) (list_all test []) e).0
plain test is (b ∷ next ∷ text) e =
    let parts = and_parts (test b) (list_all test (next ∷ text)) e in
    ((is b parts.0).0, plain test is (next ∷ text) parts.1)

of_number : (b : ℕ) → is_number_byte b ≡ true → (is_line_feed b ≡ false) × ((b == 13) ≡ false)
of_number b e =
    let feed : is_line_feed b ≡ false = grind (arith, nat_tests) in
    let return : (b == 13) ≡ false = grind (arith, nat_tests) in
    (feed, return)

of_word : (b : ℕ) → nat_lt 13 b ≡ true → (is_line_feed b ≡ false) × ((b == 13) ≡ false)
of_word b e =
    let feed : is_line_feed b ≡ false = grind (arith, nat_tests) in
    let return : (b == 13) ≡ false = grind (arith, nat_tests) in
    (feed, return)

word : (text : List ℕ) → list_all (λ b. nat_lt 13 b) text ≡ true → IsLine text
word text e = plain (λ b. nat_lt 13 b) of_word text e

-- ---- the line of a constraint

abbrev IsLiteral : RawLiteral → Type 0
IsLiteral (Words text) = Unbroken text
IsLiteral (Number n) = IsSmall n

token_line : (token : RuleToken) → TokenIs Unbroken IsLiteral token → IsLine (token_text token)
token_line (Name name) is = closed (91 ∷ quoted name) 93 (refl, unbroken_quoted name is) refl refl
token_line (Literal (Words text)) is = closed (34 ∷ quoted text) 34 (refl, unbroken_quoted text is) refl refl
token_line (Literal (Number n)) is = plain is_number_byte of_number (number_text n) (number_bytes n is).all
token_line (Relation Eq) is = word (relation_text Eq) refl
token_line (Relation Ne) is = word (relation_text Ne) refl
token_line (Relation Gt) is = word (relation_text Gt) refl
token_line (Relation Ge) is = word (relation_text Ge) refl
token_line (Relation Lt) is = word (relation_text Lt) refl
token_line (Relation Le) is = word (relation_text Le) refl
token_line (Sign Negative) is = word (token_text (Sign Negative)) refl
token_line (Sign Positive) is = word (token_text (Sign Positive)) refl
token_line token is = word (token_text token) refl

blank : (none : Bool) → IsLine (if none then [] else 32 ∷ [])
blank true = tt
blank false = (refl, refl)

spaced_line : (opened : Bool) (tokens : List RuleToken) → WrittenAre Unbroken IsLiteral tokens → IsLine (spaced opened tokens)
spaced_line opened [] are = tt
spaced_line opened (token ∷ rest) are =
    both (if opened || closes token then [] else 32 ∷ []) (token_text token ++ spaced (opens token) rest) (blank (opened || closes token))
    (both (token_text token) (spaced (opens token) rest) (token_line token are.0) (spaced_line (opens token) rest are.1))

-- ---- in the words of files

no_feed : (text : List ℕ) → IsLine text → list_any is_line_feed text ≡ false
no_feed [] is = refl
no_feed (b ∷ []) is = rw is.0 refl
no_feed (b ∷ next ∷ text) is = rw (is.0, no_feed (next ∷ text) is.1) refl

no_return : (text : List ℕ) → IsLine text → (slice_index text (length text - 1) == 13) ≡ false
no_return [] is = refl
no_return (b ∷ []) is = is.1
no_return (b ∷ next ∷ text) is =
    let place : length (b ∷ next ∷ text) - 1 ≡ suc (length (next ∷ text) - 1) = omega arith in
    ap (λ n. slice_index (b ∷ next ∷ text) n == 13) place ∙ no_return (next ∷ text) is.1

whole_line : (text : List ℕ) → IsLine text → without_return text ≡ text
whole_line text is = rw (no_return text is, and-false (nat_lt 0 (length text))) refl

pub rule_text_is_one_line : RuleTextIsOneLine
rule_text_is_one_line bytes split rules e (tokens, read, are) = λ k default within.
    let so = lines_are Unbroken IsLiteral Unbroken (λ b text is. is.1)
    (λ len text is. unbroken_unquoted (trimmed (inside (take len text))) (unbroken_trimmed (inside (take len text)) (unbroken_inside len text is)))
    (λ len text is. unbroken_unquoted (inside (take len text)) (unbroken_inside len text is)) number_small
    split.rules tokens (file_unbroken bytes split e) read in
    let rule : RuleTree = get_or rules k default in
    let is : IsLine (spaced true (body_tokens rule.body)) = spaced_line true (body_tokens rule.body) (rules_are Unbroken IsLiteral are so k default within) in
    record { unbroken = no_feed (spaced true (body_tokens rule.body)) is; whole = whole_line (spaced true (body_tokens rule.body)) is }
