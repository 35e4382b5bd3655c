-- A text without the backslashes that quote, from place to place.
use Rattle.std.proofs.Common.{◌≡◌, ℕ, ◌+◌, ◌-◌, ◌<◌, ◌≤◌, true, false, List, [], ◌∷◌, ◌++◌, length, take, drop}
use Rattle.std.proofs.Common.{get_or, refl, ap, sym, subst, arith, ◌∙◌, append_assoc, get_or-drop, length-drop}
use Rattle.std.proofs.lemmas.Bool.Decides.{nat_tests}
use Rattle.std.proofs.lemmas.List.{drop-drop, take_more}
use Rattle.std.proofs.lemmas.Str.{IsCharBoundary-after_ascii, IsCharBoundary-start}
use Rattle.std.specs.Str.{IsUtf8, IsCharBoundary}
use Rattle.model_lex.specs.Tokens.{quotes_next}
use Rattle.model_lex.specs.believed.Tokens.{unquoted}
use Rattle.model_lex.proofs.Quoting.{two_bytes}

-- at a byte that no backslash quotes, and at one that a backslash quotes
plain_here : (text : List ℕ) → 0 < length text → quotes_next text ≡ false → unquoted text ≡ get_or text 0 0 ∷ unquoted (drop 1 text)
plain_here [] some quotes = absurd (omega arith)
plain_here (b ∷ []) some quotes = refl
plain_here (b ∷ next ∷ rest) some quotes = rw quotes refl

quoted_here : (text : List ℕ) → quotes_next text ≡ true → unquoted text ≡ get_or text 1 0 ∷ unquoted (drop 2 text)
quoted_here [] quotes = absurd (grind (arith, nat_tests))
quoted_here (b ∷ []) quotes = absurd (grind (arith, nat_tests))
quoted_here (b ∷ next ∷ rest) quotes = rw quotes refl

backslash : (text : List ℕ) → quotes_next text ≡ true → get_or text 0 0 < 128
backslash [] quotes = omega arith
backslash (b ∷ rest) quotes = grind (arith, nat_tests)

-- the text is copied up to a place, and read up to another
pub record Unquoting (text plain : List ℕ) (start at : ℕ) : Type 0 where
  pub order : start ≤ at
  pub within : at ≤ length text
  pub cut : IsCharBoundary text start
  pub same : unquoted text ≡ plain ++ (take (at - start) (drop start text) ++ unquoted (drop at text))

pub begins : (text plain : List ℕ) → plain ≡ [] → IsUtf8 text → Unquoting text plain 0 0
begins text plain none utf8 = record { order = omega arith; within = omega arith; cut = IsCharBoundary-start text utf8; same = rw none refl }

module _ (text plain : List ℕ) (start at : ℕ) (here : Unquoting text plain start at) (short : at < length text) where
  left : 0 < length (drop at text)
  left = omega (arith, length-drop at text)

  place : (k : ℕ) → get_or (drop at text) k 0 ≡ get_or text (at + k) 0
  place k = get_or-drop at text k 0

  -- at a byte that no backslash quotes
  pub passes : quotes_next (drop at text) ≡ false → Unquoting text plain start (at + 1)
  passes quotes =
      let rest : unquoted (drop at text) ≡ get_or text at 0 ∷ unquoted (drop (at + 1) text) =
      plain_here (drop at text) left quotes
      ∙ (ap (λ byte. byte ∷ unquoted (drop 1 (drop at text))) (place 0 ∙ ap (λ k. get_or text k 0) (omega arith))
      ∙ ap (λ behind. get_or text at 0 ∷ unquoted behind) (drop-drop 1 at text)) in
      let longer : at + 1 - start ≡ (at - start) + 1 = omega (arith, here.order) in
      let fits : at - start < length (drop start text) = omega (arith, length-drop start text, here.order) in
      let last : get_or (drop start text) (at - start) 0 ≡ get_or text at 0 = get_or-drop start text (at - start) 0 ∙ ap (λ k. get_or text k 0) (omega (arith, here.order)) in
      let piece : take (at + 1 - start) (drop start text) ≡ take (at - start) (drop start text) ++ get_or text at 0 ∷ [] =
      ap (λ n. take n (drop start text)) longer
      ∙ (take_more (drop start text) (at - start) 0 fits ∙ ap (λ byte. take (at - start) (drop start text) ++ byte ∷ []) last) in
      record {
        order = omega (arith, here.order);
        within = omega arith;
        cut = here.cut;
        same = here.same
            ∙ ap (λ behind. plain ++ behind)
            (ap (λ behind. take (at - start) (drop start text) ++ behind) rest
            ∙ (sym (append_assoc (take (at - start) (drop start text)) (get_or text at 0 ∷ []) (unquoted (drop (at + 1) text)))
            ∙ ap (λ piece. piece ++ unquoted (drop (at + 1) text)) (sym piece)));
      }

  -- at a backslash that quotes: the piece before it is copied
  pub copies : (copied : List ℕ) → IsUtf8 text → quotes_next (drop at text) ≡ true → copied ≡ plain ++ take (at - start) (drop start text) → Unquoting text copied (at + 1) (at + 2)
  copies copied utf8 quotes is =
      let two : 2 ≤ length (drop at text) = two_bytes (drop at text) quotes in
      let fits : at + 1 < length text = omega (arith, length-drop at text) in
      let mark : get_or text at 0 < 128 = subst (λ byte. byte < 128) (place 0 ∙ ap (λ k. get_or text k 0) (omega arith)) (backslash (drop at text) quotes) in
      let rest : unquoted (drop at text) ≡ get_or text (at + 1) 0 ∷ unquoted (drop (at + 2) text) =
      quoted_here (drop at text) quotes
      ∙ (ap (λ byte. byte ∷ unquoted (drop 2 (drop at text))) (place 1) ∙ ap (λ behind. get_or text (at + 1) 0 ∷ unquoted behind) (drop-drop 2 at text)) in
      let one : at + 2 - (at + 1) ≡ 1 = omega arith in
      let some : 0 < length (drop (at + 1) text) = omega (arith, length-drop (at + 1) text) in
      let first : get_or (drop (at + 1) text) 0 0 ≡ get_or text (at + 1) 0 = get_or-drop (at + 1) text 0 0 ∙ ap (λ k. get_or text k 0) (omega arith) in
      let piece : take (at + 2 - (at + 1)) (drop (at + 1) text) ≡ get_or text (at + 1) 0 ∷ [] =
      ap (λ n. take n (drop (at + 1) text)) one ∙ (take_more (drop (at + 1) text) 0 0 some ∙ ap (λ byte. byte ∷ []) first) in
      record {
        order = omega arith;
        within = omega (arith, fits);
        cut = IsCharBoundary-after_ascii text at utf8 short mark;
        same = here.same
            ∙ (ap (λ behind. plain ++ (take (at - start) (drop start text) ++ behind)) rest
            ∙ (sym (append_assoc plain (take (at - start) (drop start text)) (get_or text (at + 1) 0 ∷ unquoted (drop (at + 2) text)))
            ∙ (ap (λ front. front ++ (get_or text (at + 1) 0 ∷ unquoted (drop (at + 2) text))) (sym is) ∙ ap (λ piece. copied ++ (piece ++ unquoted (drop (at + 2) text))) (sym piece))));
      }
