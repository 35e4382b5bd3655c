-- A text with the backslashes that quote, from place to place.
use Rattle.std.proofs.Common.{◌≡◌, ℕ, ◌+◌, ◌-◌, ◌<◌, ◌≤◌, true, false, List, [], ◌∷◌, ◌++◌, length, take, take_all, drop}
use Rattle.std.proofs.Common.{get_or, refl, ap, sym, arith, ◌∙◌, append_assoc, append-nil, get_or-drop, length-drop}
use Rattle.std.proofs.lemmas.Bool.Decides.{nat_tests}
use Rattle.std.proofs.lemmas.List.{drop_all, drop-drop, take_more}
use Rattle.std.proofs.lemmas.Str.{IsCharBoundary-before_ascii, IsCharBoundary-start}
use Rattle.std.specs.Str.{IsUtf8, IsCharBoundary}
use Rattle.model_lex.specs.believed.Tokens.{is_quotable}
use Rattle.constraint_ast.specs.believed.RuleText.{quoted}

-- at a byte that is quoted, and at another
plain_here : (text : List ℕ) → 0 < length text → is_quotable (get_or text 0 0) ≡ false → quoted text ≡ get_or text 0 0 ∷ quoted (drop 1 text)
plain_here [] some other = absurd (omega arith)
plain_here (b ∷ rest) some other = rw other refl

quoted_here : (text : List ℕ) → 0 < length text → is_quotable (get_or text 0 0) ≡ true → quoted text ≡ 92 ∷ get_or text 0 0 ∷ quoted (drop 1 text)
quoted_here [] some quotes = absurd (omega arith)
quoted_here (b ∷ rest) some quotes = rw quotes refl

ascii_quotable : (b : ℕ) → is_quotable b ≡ true → b < 128
ascii_quotable b quotes = grind (arith, nat_tests)

-- the text is written up to a place, and read up to another
pub record Quoting (text old now : List ℕ) (start at : ℕ) : Type 0 where
  pub order : start ≤ at
  pub within : at ≤ length text
  pub cut : IsCharBoundary text start
  pub same : old ++ quoted text ≡ now ++ (take (at - start) (drop start text) ++ quoted (drop at text))

pub begins : (text old now : List ℕ) → now ≡ old → IsUtf8 text → Quoting text old now 0 0
begins text old now is utf8 = record { order = omega arith; within = omega arith; cut = IsCharBoundary-start text utf8; same = ap (λ written. written ++ quoted text) (sym is) }

module _ (text old now : List ℕ) (start at : ℕ) (here : Quoting text old now start at) where
  -- at the end
  pub ends : length text ≤ at → (written : List ℕ) → written ≡ now ++ drop start text → written ≡ old ++ quoted text
  ends over written is =
      let rest : quoted (drop at text) ≡ [] = ap quoted (drop_all at text over) in
      let all : take (at - start) (drop start text) ≡ drop start text = take_all (at - start) (drop start text) (omega (arith, length-drop start text, here.order)) in
      is ∙ sym (here.same ∙ ap (λ piece. now ++ piece) (ap (λ behind. take (at - start) (drop start text) ++ behind) rest ∙ (append-nil (take (at - start) (drop start text)) ∙ all)))

  module _ (short : at < length text) where
    left : 0 < length (drop at text)
    left = omega (arith, length-drop at text)

    first : get_or (drop at text) 0 0 ≡ get_or text at 0
    first = get_or-drop at text 0 0 ∙ ap (λ k. get_or text k 0) (omega arith)

    -- at a byte that isn't quoted
    pub passes : is_quotable (get_or text at 0) ≡ false → Quoting text old now start (at + 1)
    passes other =
        let rest : quoted (drop at text) ≡ get_or text at 0 ∷ quoted (drop (at + 1) text) =
        plain_here (drop at text) left (ap is_quotable first ∙ other)
        ∙ (ap (λ byte. byte ∷ quoted (drop 1 (drop at text))) first ∙ ap (λ behind. get_or text at 0 ∷ quoted behind) (drop-drop 1 at text)) in
        let longer : at + 1 - start ≡ (at - start) + 1 = omega (arith, here.order) in
        let fits : at - start < length (drop start text) = omega (arith, length-drop start text, here.order) in
        let last : get_or (drop start text) (at - start) 0 ≡ get_or text at 0 = get_or-drop start text (at - start) 0 ∙ ap (λ k. get_or text k 0) (omega (arith, here.order)) in
        let piece : take (at + 1 - start) (drop start text) ≡ take (at - start) (drop start text) ++ get_or text at 0 ∷ [] =
        ap (λ n. take n (drop start text)) longer ∙ (take_more (drop start text) (at - start) 0 fits ∙ ap (λ byte. take (at - start) (drop start text) ++ byte ∷ []) last) in
        record {
          order = omega (arith, here.order);
          within = omega arith;
          cut = here.cut;
          same = here.same
              ∙ ap (λ behind. now ++ behind)
              (ap (λ behind. take (at - start) (drop start text) ++ behind) rest
              ∙ (sym (append_assoc (take (at - start) (drop start text)) (get_or text at 0 ∷ []) (quoted (drop (at + 1) text)))
              ∙ ap (λ piece. piece ++ quoted (drop (at + 1) text)) (sym piece)));
        }

    -- the text may be cut before a byte that is quoted
    pub cut_here : is_quotable (get_or text at 0) ≡ true → IsCharBoundary text at
    cut_here quotes = IsCharBoundary-before_ascii text at short (ascii_quotable (get_or text at 0) quotes)

    -- at such a byte: the piece before it is written, and a backslash
    pub copies : is_quotable (get_or text at 0) ≡ true → (piece written : List ℕ)
        → piece ≡ now ++ take (at - start) (drop start text) → written ≡ piece ++ 92 ∷ [] → Quoting text old written at (at + 1)
    copies quotes piece written is and =
        let rest : quoted (drop at text) ≡ 92 ∷ get_or text at 0 ∷ quoted (drop (at + 1) text) =
        quoted_here (drop at text) left (ap is_quotable first ∙ quotes)
        ∙ (ap (λ byte. 92 ∷ byte ∷ quoted (drop 1 (drop at text))) first ∙ ap (λ behind. 92 ∷ get_or text at 0 ∷ quoted behind) (drop-drop 1 at text)) in
        let one : at + 1 - at ≡ 1 = omega arith in
        let byte : take (at + 1 - at) (drop at text) ≡ get_or text at 0 ∷ [] = ap (λ n. take n (drop at text)) one
        ∙ (take_more (drop at text) 0 0 left ∙ ap (λ byte. byte ∷ []) first) in
        let before : List ℕ = take (at - start) (drop start text) in
        let behind : List ℕ = get_or text at 0 ∷ quoted (drop (at + 1) text) in
        record {
          order = omega arith;
          within = omega arith;
          cut = cut_here quotes;
          same = here.same
              ∙ (ap (λ tail. now ++ (before ++ tail)) rest
              ∙ (sym (append_assoc now before (92 ∷ behind))
              ∙ (ap (λ front. front ++ 92 ∷ behind) (sym is)
              ∙ (sym (append_assoc piece (92 ∷ []) behind) ∙ (ap (λ front. front ++ behind) (sym and) ∙ ap (λ tail. written ++ (tail ++ quoted (drop (at + 1) text))) (sym byte))))));
        }
