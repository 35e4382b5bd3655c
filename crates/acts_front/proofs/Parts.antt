-- The parts of a list of tokens.
use Rattle.std.proofs.Common.{◌≡◌, ℕ, ◌+◌, ◌<◌, ◌≤◌, Bool, true, false, ◌&&◌, List, [], ◌∷◌, ◌++◌, length, map, take}
use Rattle.std.proofs.Common.{drop, get_or, refl, sym, ap, ◌∙◌, append_assoc, append-nil, drop-cons, add-one, arith}
use Rattle.std.proofs.lemmas.List.{map-append, take_more, take_all, drop_all}
use Rattle.std.specs.Prelude.{◌==◌}
use Rattle.acts_front.specs.believed.Tokens.{Token}
use Rattle.acts_front.specs.believed.Constraints.{open_behind, parts_behind, put_first}

-- tokens before the first part
abbrev pub front_of : List Token → List (List Token) → List (List Token)
front_of front [] = front ∷ []
front_of front (part ∷ parts) = (front ++ part) ∷ parts

front_more : (front : List Token) (token : Token) (parts : List (List Token)) → front_of front (put_first token parts) ≡ front_of (front ++ token ∷ []) parts
front_more front token [] = refl
front_more front token (part ∷ parts) = ap (λ first. first ∷ parts) (sym (append_assoc front (token ∷ []) part))

-- there is always a part
some_part : (mark : Token → Bool) (opened : ℕ) (tokens : List Token) → front_of [] (parts_behind mark opened tokens) ≡ parts_behind mark opened tokens
some_part mark opened [] = refl
some_part mark opened (token ∷ tokens) = at ((opened == 0) && mark token) refl (parts_behind mark (open_behind token opened) tokens)
  where
    first : (parts : List (List Token)) → front_of [] (put_first token parts) ≡ put_first token parts
    first [] = refl
    first (part ∷ parts) = refl

    at : (marks : Bool) → ((opened == 0) && mark token) ≡ marks → (parts : List (List Token))
        → front_of [] (parts_behind mark opened (token ∷ tokens)) ≡ parts_behind mark opened (token ∷ tokens)
    at true e parts = rw e refl
    at false e parts = rw e (first (parts_behind mark (open_behind token opened) tokens))

module _ (mark : Token → Bool) {T : Type 0} (seen : T → Token) (tokens : List T) where
  -- no mark stands outside parentheses before a place, at which so many are open
  pub record IsCut (opened place : ℕ) : Type 0 where
    pub few : opened ≤ place
    pub parts : parts_behind mark 0 (map seen tokens) ≡ front_of (map seen (take place tokens)) (parts_behind mark opened (map seen (drop place tokens)))

  pub cut_begins : IsCut 0 0
  cut_begins = record { few = omega arith; parts = sym (some_part mark 0 (map seen tokens)) }

  module _ (opened place : ℕ) (d : T) (cut : IsCut opened place) (within : place < length tokens) where
    here : drop place tokens ≡ get_or tokens place d ∷ drop (place + 1) tokens
    here = rw (drop-cons tokens place d, add-one) refl

    -- one stands here
    pub cut_here : opened ≡ 0 → mark (seen (get_or tokens place d)) ≡ true
        → parts_behind mark 0 (map seen tokens) ≡ map seen (take place tokens) ∷ parts_behind mark 0 (map seen (drop (place + 1) tokens))
    cut_here outside marks =
        let step : parts_behind mark opened (map seen (drop place tokens)) ≡ [] ∷ parts_behind mark 0 (map seen (drop (place + 1) tokens)) =
        ap (λ left. parts_behind mark opened (map seen left)) here ∙ rw (outside, marks) refl in
        cut.parts ∙ (ap (front_of (map seen (take place tokens))) step
        ∙ ap (λ first. first ∷ parts_behind mark 0 (map seen (drop (place + 1) tokens))) (append-nil (map seen (take place tokens))))

    -- another token does
    pub cut_behind : ((opened == 0) && mark (seen (get_or tokens place d))) ≡ false → (more : ℕ)
        → more ≡ open_behind (seen (get_or tokens place d)) opened → more ≤ opened + 1 → IsCut more (place + 1)
    cut_behind other more is most =
        let step : parts_behind mark opened (map seen (drop place tokens)) ≡ put_first (seen (get_or tokens place d)) (parts_behind mark more (map seen (drop (place + 1) tokens))) =
        ap (λ left. parts_behind mark opened (map seen left)) here
        ∙ (rw other refl ∙ ap (λ n. put_first (seen (get_or tokens place d)) (parts_behind mark n (map seen (drop (place + 1) tokens)))) (sym is)) in
        let front : map seen (take (place + 1) tokens) ≡ map seen (take place tokens) ++ seen (get_or tokens place d) ∷ [] =
        ap (map seen) (take_more tokens place d within) ∙ map-append seen (take place tokens) (get_or tokens place d ∷ []) in
        record {
          few = omega (arith, cut.few);
          parts = cut.parts
              ∙ (ap (front_of (map seen (take place tokens))) step
              ∙ (front_more (map seen (take place tokens)) (seen (get_or tokens place d)) (parts_behind mark more (map seen (drop (place + 1) tokens)))
              ∙ ap (λ first. front_of first (parts_behind mark more (map seen (drop (place + 1) tokens)))) (sym front)));
        }

  -- all tokens are seen
  pub cut_nowhere : (opened place : ℕ) → IsCut opened place → length tokens ≤ place → parts_behind mark 0 (map seen tokens) ≡ map seen tokens ∷ []
  cut_nowhere opened place cut all =
      cut.parts
      ∙ (ap (λ left. front_of (map seen (take place tokens)) (parts_behind mark opened (map seen left))) (drop_all place tokens all)
      ∙ (ap (λ first. first ∷ []) (append-nil (map seen (take place tokens))) ∙ ap (λ list. map seen list ∷ []) (take_all place tokens all)))
