-- Where the comment of a line begins.
use Rattle.std.proofs.Common.{◌≡◌, ℕ, suc, ◌+◌, ◌<◌, Bool, true, false, not, ◌&&◌, List, [], ◌∷◌, ◌++◌, length, take, drop}
use Rattle.std.proofs.Common.{get_or, refl, sym, ap, ◌∙◌, append_assoc, append-nil, codes, drop-cons, add-one, arith}
use Rattle.std.proofs.lemmas.Bool.Decides.{nat_tests}
use Rattle.std.proofs.lemmas.List.{take_more}
use Rattle.std.specs.List.{starts_with}
use Rattle.std.specs.Prelude.{nat_eq, ◌==◌, if◌then◌else◌}
use Rattle.acts_front.specs.believed.Lines.{before_comment}

abbrev begins : List ℕ → Bool
begins text = starts_with nat_eq text (codes "--")

nothing_before : (quoted : Bool) (text : List ℕ) → quoted ≡ false → begins text ≡ true → before_comment quoted text ≡ []
nothing_before quoted [] outside here = refl
nothing_before quoted (b ∷ []) outside here = let h : (45 == b) && false ≡ true = here in grind (arith, nat_tests)
nothing_before quoted (b ∷ next ∷ rest) outside here = let h : (45 == b) && ((45 == next) && true) ≡ true = here in grind (arith, nat_tests)

one_before : (quoted : Bool) (b : ℕ) (rest : List ℕ) → (not quoted && begins (b ∷ rest)) ≡ false
    → before_comment quoted (b ∷ rest) ≡ b ∷ before_comment (if b == 34 then not quoted else quoted) rest
one_before quoted b [] elsewhere = refl
one_before quoted b (next ∷ rest) elsewhere = let h : not quoted && ((45 == b) && ((45 == next) && true)) ≡ false = elsewhere in grind (arith, nat_tests)

-- what stands before the comment, once the bytes before a place are seen
pub record Seen (line : List ℕ) (quoted : Bool) (at : ℕ) : Type 0 where
  pub before : before_comment false line ≡ take at line ++ before_comment quoted (drop at line)

pub seen_first : (line : List ℕ) → Seen line false 0
seen_first line = record { before = refl }

-- a comment begins here
pub seen_all : (line : List ℕ) (quoted : Bool) (at : ℕ) → Seen line quoted at → quoted ≡ false → begins (drop at line) ≡ true → before_comment false line ≡ take at line
seen_all line quoted at seen outside here =
    seen.before ∙ (ap (λ rest. take at line ++ rest) (nothing_before quoted (drop at line) outside here) ∙ append-nil (take at line))

-- or another byte stands here
pub seen_more : (line : List ℕ) (quoted next : Bool) (at b : ℕ) → Seen line quoted at → at < length line → get_or line at 0 ≡ b → (not quoted && begins (drop at line)) ≡ false
    → next ≡ (if b == 34 then not quoted else quoted) → Seen line next (at + 1)
seen_more line quoted next at b seen within here elsewhere is =
    let rest : drop at line ≡ b ∷ drop (at + 1) line = rw (drop-cons line at 0, add-one) (ap (λ first. first ∷ drop (suc at) line) here) in
    let step : before_comment quoted (drop at line) ≡ b ∷ before_comment next (drop (at + 1) line) =
    ap (before_comment quoted) rest
    ∙ (one_before quoted b (drop (at + 1) line) (ap (λ text. not quoted && begins text) (sym rest) ∙ elsewhere)
    ∙ ap (λ q. b ∷ before_comment q (drop (at + 1) line)) (sym is)) in
    record {
      before = seen.before
          ∙ (ap (λ left. take at line ++ left) step
          ∙ (sym (append_assoc (take at line) (b ∷ []) (before_comment next (drop (at + 1) line)))
          ∙ ap (λ front. front ++ before_comment next (drop (at + 1) line)) (ap (λ last. take at line ++ last ∷ []) (sym here) ∙ sym (take_more line at 0 within))));
    }
