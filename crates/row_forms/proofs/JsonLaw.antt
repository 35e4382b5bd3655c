-- The json of a table reads as its names and cells.
use Rattle.std.proofs.Common.{◌≡◌, ◌<◌, ◌+◌, arith, length, zero, suc, ℕ, Bool, true, false, List, [], ◌∷◌, ◌++◌, ◌∙◌, refl, sym, subst, ap, ap₂, append_assoc}
use Rattle.std.specs.Prelude.{cond, flat_map, Option, Some, None, option_and_then}
use Rattle.std.proofs.lemmas.List.{length-append}
use Rattle.json.specs.Json as json
use Rattle.json.specs.Json.{Json, Items, item, member, array, object, document, if_last, items, parse_map, value}
use Rattle.json.specs.Token.{Token, begin_object, end_object, begin_array, end_array, key, string, null}
use Rattle.json.specs.Word.{ends_word, word}
use Rattle.json.specs.Lex.{Lexeme, token, comma, colon, string_token, lex, between, fresh, after_value, begins_colon, punctuate, tokens}
use Rattle.json.specs.Print.{escape, quoted, token_text}
use Rattle.json.proofs.Printed.Strings.{content-escape, lex-escape}
use Rattle.json.proofs.Printed.Numbers.{in_word-ended}
use Rattle.row_forms.specs.declared.row_form.RowForm.TheVariants as form
use Rattle.row_forms.specs.Json.{cell_value, row_items, row_members}
use Rattle.row_forms.specs.believed.Json.{member_text, cell_token}
use Rattle.row_forms.specs.Laws.{JsonReadsBack}
use Rattle.row_forms.specs.believed.Tables.{is_single, name_pieces, pieces, row_text, rows_text, table_text}

-- ---- the tokens of the text

-- the tokens of the members of a row, of a row, and of a table
abbrev members : List (List ℕ) → List (Option (List ℕ)) → List Token
members [] cells = []
members (name ∷ names) [] = []
members (name ∷ names) (cell ∷ cells) = key name ∷ cell_token cell ∷ members names cells

abbrev object_of : List (List ℕ) → List (Option (List ℕ)) → List Token
object_of names cells = begin_object ∷ (members names cells ++ end_object ∷ [])

abbrev array_of : List (List ℕ) → List (List (Option (List ℕ))) → List Token
array_of names rows = begin_array ∷ (flat_map (object_of names) rows ++ end_array ∷ [])

-- ---- the lexemes of the text

lex-quoted : (s r : List ℕ) → lex between (quoted s ++ r) ≡ token (string s) ∷ lex between r
unfolding lex
lex-quoted s r =
    ap (λ (l : List ℕ). lex between (34 ∷ l)) (append_assoc (escape s) (34 ∷ []) r)
    ∙ ap₂ (λ (o : Option (List ℕ)) (l : List Lexeme). token (string_token o) ∷ l) (content-escape s r) (lex-escape s r)

lex-colon : (r : List ℕ) → lex between (58 ∷ r) ≡ colon ∷ lex between r
unfolding lex
lex-colon r = refl

lex-value : (cell : Option (List ℕ)) (r : List ℕ) → ends_word r ≡ true → lex between (token_text (cell_token cell) ++ r) ≡ token (cell_token cell) ∷ lex between r
unfolding lex word
lex-value None r ended = ap₂ (λ (b : Bool) (l : List Lexeme). token (cond b null Token.bad) ∷ l) ended (in_word-ended r ended)
lex-value (Some s) r ended = lex-quoted s r

lex-member : (name : List ℕ) (cell : Option (List ℕ)) (r : List ℕ) → ends_word r ≡ true
    → lex between (member_text name cell ++ r) ≡ token (string name) ∷ colon ∷ token (cell_token cell) ∷ lex between r
lex-member name cell r ended =
    ap (lex between) (append_assoc (quoted name ++ (58 ∷ [])) (token_text (cell_token cell)) r ∙ append_assoc (quoted name) (58 ∷ []) (token_text (cell_token cell) ++ r))
    ∙ lex-quoted name (58 ∷ (token_text (cell_token cell) ++ r))
    ∙ ap (λ (l : List Lexeme). token (string name) ∷ l) (lex-colon (token_text (cell_token cell) ++ r) ∙ ap (λ (l : List Lexeme). colon ∷ l) (lex-value cell r ended))

-- the lexemes of the members behind the first one, and of the bracket that closes the object
abbrev rest_lexemes : List (List ℕ) → List (Option (List ℕ)) → List Lexeme → List Lexeme
rest_lexemes [] cells more = token end_object ∷ more
rest_lexemes (name ∷ names) [] more = token end_object ∷ more
rest_lexemes (name ∷ names) (cell ∷ cells) more = comma ∷ token (string name) ∷ colon ∷ token (cell_token cell) ∷ rest_lexemes names cells more

abbrev row_lexemes : List (List ℕ) → List (Option (List ℕ)) → List Lexeme → List Lexeme
row_lexemes [] cells more = token end_object ∷ more
row_lexemes (name ∷ names) [] more = token end_object ∷ more
row_lexemes (name ∷ names) (cell ∷ cells) more = token (string name) ∷ colon ∷ token (cell_token cell) ∷ rest_lexemes names cells more

abbrev rows_lexemes : Bool → List (List ℕ) → List (List (Option (List ℕ))) → List Lexeme → List Lexeme
rows_lexemes first names [] more = more
rows_lexemes true names (row ∷ rows) more = token begin_object ∷ row_lexemes names row (rows_lexemes false names rows more)
rows_lexemes false names (row ∷ rows) more = comma ∷ token begin_object ∷ row_lexemes names row (rows_lexemes false names rows more)

rest-ends : (only : Bool) (names : List (List ℕ)) (cells : List (Option (List ℕ))) (r : List ℕ) → ends_word (pieces form.Json false only names cells ++ (125 ∷ r)) ≡ true
rest-ends only [] cells r = refl
rest-ends only (name ∷ names) [] r = refl
rest-ends only (name ∷ names) (cell ∷ cells) r = refl

lex-close : (r : List ℕ) → lex between (125 ∷ r) ≡ token end_object ∷ lex between r
unfolding lex
lex-close r = refl

lex-comma : (r : List ℕ) → lex between (44 ∷ r) ≡ comma ∷ lex between r
unfolding lex
lex-comma r = refl

lex-rest : (only : Bool) (names : List (List ℕ)) (cells : List (Option (List ℕ))) (r : List ℕ)
    → lex between (pieces form.Json false only names cells ++ (125 ∷ r)) ≡ rest_lexemes names cells (lex between r)
lex-rest only [] cells r = lex-close r
lex-rest only (name ∷ names) [] r = lex-close r
lex-rest only (name ∷ names) (cell ∷ cells) r =
    let more = pieces form.Json false only names cells ++ (125 ∷ r) in
    ap (λ (l : List ℕ). lex between (44 ∷ l)) (append_assoc (member_text name cell) (pieces form.Json false only names cells) (125 ∷ r))
    ∙ lex-comma (member_text name cell ++ more)
    ∙ ap (λ (l : List Lexeme). comma ∷ l)
    (lex-member name cell more (rest-ends only names cells r)
    ∙ ap (λ (l : List Lexeme). token (string name) ∷ colon ∷ token (cell_token cell) ∷ l) (lex-rest only names cells r))

lex-row : (only : Bool) (names : List (List ℕ)) (cells : List (Option (List ℕ))) (r : List ℕ)
    → lex between (pieces form.Json true only names cells ++ (125 ∷ r)) ≡ row_lexemes names cells (lex between r)
lex-row only [] cells r = lex-close r
lex-row only (name ∷ names) [] r = lex-close r
lex-row only (name ∷ names) (cell ∷ cells) r =
    let more = pieces form.Json false only names cells ++ (125 ∷ r) in
    ap (lex between) (append_assoc (member_text name cell) (pieces form.Json false only names cells) (125 ∷ r))
    ∙ lex-member name cell more (rest-ends only names cells r)
    ∙ ap (λ (l : List Lexeme). token (string name) ∷ colon ∷ token (cell_token cell) ∷ l) (lex-rest only names cells r)

lex-first : (r : List ℕ) → lex between (10 ∷ 123 ∷ r) ≡ token begin_object ∷ lex between r
unfolding lex
lex-first r = refl

lex-next : (r : List ℕ) → lex between (44 ∷ 10 ∷ 123 ∷ r) ≡ comma ∷ token begin_object ∷ lex between r
unfolding lex
lex-next r = refl

cut-row : (names : List (List ℕ)) (row : List (Option (List ℕ))) (r : List ℕ)
    → (pieces form.Json true (is_single names) names row ++ (125 ∷ [])) ++ r ≡ pieces form.Json true (is_single names) names row ++ (125 ∷ r)
cut-row names row r = append_assoc (pieces form.Json true (is_single names) names row) (125 ∷ []) r

lex-rows : (names : List (List ℕ)) (first : Bool) (rows : List (List (Option (List ℕ)))) (r : List ℕ)
    → lex between (rows_text form.Json names first rows ++ r) ≡ rows_lexemes first names rows (lex between r)
lex-rows names first [] r = refl
lex-rows names true (row ∷ rows) r =
    let more = rows_text form.Json names false rows ++ r in
    ap (lex between) (append_assoc (row_text form.Json names true row) (rows_text form.Json names false rows) r)
    ∙ ap (λ (l : List ℕ). lex between (10 ∷ 123 ∷ l)) (cut-row names row more)
    ∙ lex-first (pieces form.Json true (is_single names) names row ++ (125 ∷ more))
    ∙ ap (λ (l : List Lexeme). token begin_object ∷ l)
    (lex-row (is_single names) names row more ∙ ap (row_lexemes names row) (lex-rows names false rows r))
lex-rows names false (row ∷ rows) r =
    let more = rows_text form.Json names false rows ++ r in
    ap (lex between) (append_assoc (row_text form.Json names false row) (rows_text form.Json names false rows) r)
    ∙ ap (λ (l : List ℕ). lex between (44 ∷ 10 ∷ 123 ∷ l)) (cut-row names row more)
    ∙ lex-next (pieces form.Json true (is_single names) names row ++ (125 ∷ more))
    ∙ ap (λ (l : List Lexeme). comma ∷ token begin_object ∷ l)
    (lex-row (is_single names) names row more ∙ ap (row_lexemes names row) (lex-rows names false rows r))

no-names : (only first : Bool) (names : List (List ℕ)) → name_pieces form.Json first only names ≡ []
no-names only first [] = refl
no-names only first (name ∷ names) = no-names only false names

lex-table : (names : List (List ℕ)) (rows : List (List (Option (List ℕ))))
    → lex between (table_text form.Json names rows) ≡ token begin_array ∷ rows_lexemes true names rows (token end_array ∷ [])
unfolding lex
lex-table names rows =
    ap (λ (l : List ℕ). lex between ((l ++ (91 ∷ [])) ++ (rows_text form.Json names true rows ++ (10 ∷ 93 ∷ 10 ∷ [])))) (no-names (is_single names) true names)
    ∙ ap (λ (l : List Lexeme). token begin_array ∷ l) (lex-rows names true rows (10 ∷ 93 ∷ 10 ∷ []))

-- ---- the tokens of the lexemes

no-colon : (names : List (List ℕ)) (cells : List (Option (List ℕ))) (more : List Lexeme) → begins_colon (rest_lexemes names cells more) ≡ false
no-colon [] cells more = refl
no-colon (name ∷ names) [] more = refl
no-colon (name ∷ names) (cell ∷ cells) more = refl

value-token : (cell : Option (List ℕ)) (more : List Lexeme) → begins_colon more ≡ false
    → punctuate fresh (token (cell_token cell) ∷ more) ≡ cell_token cell ∷ punctuate after_value more
unfolding punctuate
value-token None more plain = refl
value-token (Some s) more plain = rw plain refl

rest-tokens : (names : List (List ℕ)) (cells : List (Option (List ℕ))) (more : List Lexeme)
    → punctuate after_value (rest_lexemes names cells more) ≡ members names cells ++ (end_object ∷ punctuate after_value more)
unfolding punctuate
rest-tokens [] cells more = refl
rest-tokens (name ∷ names) [] more = refl
rest-tokens (name ∷ names) (cell ∷ cells) more =
    ap (λ (l : List Token). key name ∷ l)
    (value-token cell (rest_lexemes names cells more) (no-colon names cells more) ∙ ap (λ (l : List Token). cell_token cell ∷ l) (rest-tokens names cells more))

row-tokens : (names : List (List ℕ)) (cells : List (Option (List ℕ))) (more : List Lexeme)
    → punctuate fresh (row_lexemes names cells more) ≡ members names cells ++ (end_object ∷ punctuate after_value more)
unfolding punctuate
row-tokens [] cells more = refl
row-tokens (name ∷ names) [] more = refl
row-tokens (name ∷ names) (cell ∷ cells) more =
    ap (λ (l : List Token). key name ∷ l)
    (value-token cell (rest_lexemes names cells more) (no-colon names cells more) ∙ ap (λ (l : List Token). cell_token cell ∷ l) (rest-tokens names cells more))

cut-object : (names : List (List ℕ)) (row : List (Option (List ℕ))) (more : List Token)
    → begin_object ∷ (members names row ++ (end_object ∷ more)) ≡ object_of names row ++ more
cut-object names row more = ap (λ (l : List Token). begin_object ∷ l) (sym (append_assoc (members names row) (end_object ∷ []) more))

later-tokens : (names : List (List ℕ)) (rows : List (List (Option (List ℕ))))
    → punctuate after_value (rows_lexemes false names rows (token end_array ∷ [])) ≡ flat_map (object_of names) rows ++ (end_array ∷ [])
unfolding punctuate
later-tokens names [] = refl
later-tokens names (row ∷ rows) =
    ap (λ (l : List Token). begin_object ∷ l)
    (row-tokens names row (rows_lexemes false names rows (token end_array ∷ [])) ∙ ap (λ (l : List Token). members names row ++ (end_object ∷ l)) (later-tokens names rows))
    ∙ cut-object names row (flat_map (object_of names) rows ++ (end_array ∷ []))
    ∙ sym (append_assoc (object_of names row) (flat_map (object_of names) rows) (end_array ∷ []))

rows-tokens : (names : List (List ℕ)) (rows : List (List (Option (List ℕ))))
    → punctuate fresh (rows_lexemes true names rows (token end_array ∷ [])) ≡ flat_map (object_of names) rows ++ (end_array ∷ [])
unfolding punctuate
rows-tokens names [] = refl
rows-tokens names (row ∷ rows) =
    ap (λ (l : List Token). begin_object ∷ l)
    (row-tokens names row (rows_lexemes false names rows (token end_array ∷ [])) ∙ ap (λ (l : List Token). members names row ++ (end_object ∷ l)) (later-tokens names rows))
    ∙ cut-object names row (flat_map (object_of names) rows ++ (end_array ∷ []))
    ∙ sym (append_assoc (object_of names row) (flat_map (object_of names) rows) (end_array ∷ []))

table-tokens : (names : List (List ℕ)) (rows : List (List (Option (List ℕ)))) → tokens (table_text form.Json names rows) ≡ array_of names rows
unfolding punctuate
table-tokens names rows = ap (punctuate fresh) (lex-table names rows) ∙ ap (λ (l : List Token). begin_array ∷ l) (rows-tokens names rows)

-- ---- the value of the tokens

read-cell : (depth : ℕ) (cell : Option (List ℕ)) (more : List Token) → value depth (cell_token cell ∷ more) ≡ Some (cell_value cell, more)
unfolding value
read-cell zero None more = refl
read-cell zero (Some text) more = refl
read-cell (suc depth) None more = refl
read-cell (suc depth) (Some text) more = refl

-- the members of a row; the number bounds the turns
read-members : (depth turns : ℕ) (names : List (List ℕ)) (cells : List (Option (List ℕ))) (more : List Token)
    → length (members names cells) < turns → json.members (value depth) turns (members names cells ++ (end_object ∷ more)) ≡ Some (row_members names cells, more)
unfolding json.members
read-members depth zero names cells more few = absurd (omega (arith, few))
read-members depth (suc turns) [] cells more few = refl
read-members depth (suc turns) (name ∷ names) [] more few = refl
read-members depth (suc turns) (name ∷ names) (cell ∷ cells) more few =
    ap (λ (r : Option (Json × List Token)). option_and_then (λ p. parse_map (member name p.0) (json.members (value depth) turns p.1)) r)
    (read-cell depth cell (members names cells ++ (end_object ∷ more)))
    ∙ ap (parse_map (member name (cell_value cell))) (read-members depth turns names cells more (omega (arith, few)))

read-row : (depth : ℕ) (names : List (List ℕ)) (cells : List (Option (List ℕ))) (more : List Token)
    → value (suc depth) (object_of names cells ++ more) ≡ Some (object (row_members names cells), more)
unfolding value
read-row depth names cells more =
    let rest : List Token = members names cells ++ (end_object ∷ more) in
    let size : length (members names cells) < length rest = rw (length-append (members names cells) (end_object ∷ more)) (omega arith) in
    ap (λ (l : List Token). value (suc depth) (begin_object ∷ l)) (append_assoc (members names cells) (end_object ∷ []) more)
    ∙ ap (parse_map object) (read-members depth (length rest) names cells more size)

read-rows : (depth turns : ℕ) (names : List (List ℕ)) (rows : List (List (Option (List ℕ)))) → length rows < turns
    → items (value (suc depth)) turns (flat_map (object_of names) rows ++ (end_array ∷ [])) ≡ Some (row_items names rows, [])
unfolding items
read-rows depth zero names rows few = absurd (omega (arith, few))
read-rows depth (suc turns) names [] few = refl
read-rows depth (suc turns) names (row ∷ rows) few =
    let more : List Token = flat_map (object_of names) rows ++ (end_array ∷ []) in
    ap (λ (l : List Token). items (value (suc depth)) (suc turns) l) (append_assoc (object_of names row) (flat_map (object_of names) rows) (end_array ∷ []))
    ∙ ap (λ (r : Option (Json × List Token)). option_and_then (λ p. parse_map (item p.0) (items (value (suc depth)) turns p.1)) r) (read-row depth names row more)
    ∙ ap (parse_map (item (object (row_members names row)))) (read-rows depth turns names rows (omega (arith, few)))

few-rows : (names : List (List ℕ)) (rows : List (List (Option (List ℕ)))) → length rows < length (flat_map (object_of names) rows ++ (end_array ∷ []))
few-rows names [] = omega arith
few-rows names (row ∷ rows) =
    let more : List Token = flat_map (object_of names) rows ++ (end_array ∷ []) in
    let cut : flat_map (object_of names) (row ∷ rows) ++ (end_array ∷ []) ≡ object_of names row ++ more =
    append_assoc (object_of names row) (flat_map (object_of names) rows) (end_array ∷ []) in
    let size : length ((members names row ++ (end_object ∷ [])) ++ more) ≡ length (members names row ++ (end_object ∷ [])) + length more =
    length-append (members names row ++ (end_object ∷ [])) more in
    subst (λ (l : List Token). suc (length rows) < length l) (sym cut) (omega (arith, size, few-rows names rows))

pub json-reads-back : JsonReadsBack
unfolding value
json-reads-back names rows =
    let all : List Token = flat_map (object_of names) rows ++ (end_array ∷ []) in
    ap (λ (ts : List Token). option_and_then (λ p. if_last p.0 p.1) (value 128 ts)) (table-tokens names rows)
    ∙ ap (λ (r : Option (Items × List Token)). option_and_then (λ p. if_last p.0 p.1) (parse_map array r)) (read-rows 126 (length all) names rows (few-rows names rows))
