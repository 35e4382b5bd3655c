-- The lines of a proof file as they are written, one word after another.
use Rattle.std.proofs.Common.{◌≡◌, ℕ, ◌+◌, ◌<◌, List, [], ◌∷◌, ◌++◌, map, length, get_or, take, drop, ◌∙◌, sym, ap, refl, arith, append_assoc, length-append}
use Rattle.std.specs.Prelude.{codes}
use Rattle.std.specs.List.{join_with_byte}
use Rattle.std.proofs.lemmas.Fmt.{decimal_digit}
use Rattle.std.proofs.lemmas.List.{append-nil, map-append, take_more, drop_more}
use Rattle.std.proofs.lemmas.List.Concat.{flat_map-append}
use Rattle.definitions.specs.believed.ProofText.{token_text}
use Rattle.refutation.specs.declared.omissions.Omission.{Omission}
use Rattle.refutation.specs.declared.omissions.ProofForm.TheVariants.{One, Two}
use Rattle.refutation.specs.declared.token.TreeToken.{TreeToken}
use Rattle.refutation.specs.Proofs.{meant}
use Rattle.refutation.specs.Lines.{form_text, line_text, spaced, pair_words, token_words}

-- the first line of each form
pub first_line : form_text One ≡ codes "pict-proof 1\n"
first_line = ap (λ text. codes "pict-proof " ++ text ++ 10 ∷ []) (decimal_digit 1 (omega arith))

pub second_line : form_text Two ≡ codes "pict-proof 2\n"
second_line = ap (λ text. codes "pict-proof " ++ text ++ 10 ∷ []) (decimal_digit 2 (omega arith))

-- one more item behind those before it
pub spaced-take_more : {X : Type 0} (text : X → List ℕ) (items : List X) (i : ℕ) (d : X) → i < length items
    → length (spaced (map text (take (i + 1) items))) ≡ length (spaced (map text (take i items))) + length (32 ∷ text (get_or items i d))
spaced-take_more text items i d within =
    let item = get_or items i d in
    let words : map text (take (i + 1) items) ≡ map text (take i items) ++ text item ∷ [] =
    ap (map text) (take_more items i d within) ∙ map-append text (take i items) (item ∷ []) in
    ap (λ ws. length (spaced ws)) words ∙ ap length (flat_map-append (λ word. 32 ∷ word) (map text (take i items)) (text item ∷ []))
    ∙ length-append (spaced (map text (take i items))) (spaced (text item ∷ [])) ∙ ap (λ t. length (spaced (map text (take i items))) + length t) (append-nil (32 ∷ text item))

-- and those behind it
pub spaced-drop_more : {X : Type 0} (text : X → List ℕ) (items : List X) (i : ℕ) (d : X) → i < length items
    → spaced (map text (drop i items)) ≡ 32 ∷ text (get_or items i d) ++ spaced (map text (drop (i + 1) items))
spaced-drop_more text items i d within = ap (λ rest. spaced (map text rest)) (drop_more items i d within)

-- the words of a line, the first without a space
join_spaced : (word : List ℕ) (words : List (List ℕ)) → join_with_byte 32 (word ∷ words) ≡ word ++ spaced words
join_spaced word [] = sym (append-nil word)
join_spaced word (next ∷ words) = ap (λ rest. word ++ 32 ∷ rest) (join_spaced next words)

map_meant : (tokens : List TreeToken) → map token_text (map meant tokens) ≡ token_words tokens
map_meant [] = refl
map_meant (token ∷ tokens) = ap (λ words. token_text (meant token) ∷ words) (map_meant tokens)

-- the line of an omission in its parts
pub line_parts : (omission : Omission) → line_text omission
    ≡ codes "omit" ++ (spaced (pair_words omission.tuple) ++ (codes " :" ++ (spaced (token_words omission.tree) ++ codes "\n")))
line_parts omission =
    let pairs = pair_words omission.tuple in
    let tokens = token_words omission.tree in
    ap (λ words. join_with_byte 32 (codes "omit" ∷ pairs ++ codes ":" ∷ words) ++ 10 ∷ []) (map_meant omission.tree)
    ∙ ap (λ text. text ++ 10 ∷ []) (join_spaced (codes "omit") (pairs ++ codes ":" ∷ tokens))
    ∙ ap (λ text. (codes "omit" ++ text) ++ 10 ∷ []) (flat_map-append (λ word. 32 ∷ word) pairs (codes ":" ∷ tokens))
    ∙ ap (λ text. codes "omit" ++ text) (append_assoc (spaced pairs) (codes " :" ++ spaced tokens) (codes "\n"))

-- so many bytes
pub length-line_text : (omission : Omission) → length (line_text omission)
    ≡ length (spaced (pair_words omission.tuple)) + length (spaced (token_words omission.tree)) + 7
length-line_text omission =
    let pairs = spaced (pair_words omission.tuple) in
    let tokens = spaced (token_words omission.tree) in
    omega (
      arith,
      ap length (line_parts omission),
      length-append pairs (codes " :" ++ (tokens ++ codes "\n")),
      length-append tokens (codes "\n"),
    )

-- what the parts leave, one put after another
pub parts_put : (omission : Omission) (before : List ℕ)
    → ((((before ++ codes "omit") ++ spaced (pair_words omission.tuple)) ++ codes " :") ++ spaced (token_words omission.tree)) ++ codes "\n"
    ≡ before ++ line_text omission
parts_put omission before = rw (line_parts omission) (simp append_assoc)
