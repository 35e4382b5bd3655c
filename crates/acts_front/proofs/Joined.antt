-- Texts in a row, with another between two.
use Rattle.std.proofs.Common.{◌≡◌, ℕ, ◌+◌, ◌-◌, ◌<◌, ◌≤◌, List, [], ◌∷◌, ◌++◌, length, map, take}
use Rattle.std.proofs.Common.{drop, get_or, sym, ap, ◌∙◌, append_assoc, append-nil, drop-cons, arith}
use Rattle.std.proofs.lemmas.Grind.{flat_map-append}
use Rattle.std.proofs.lemmas.List.{take_more, take_rest}
use Rattle.std.proofs.lemmas.List.Folds.{flat_map-map}
use Rattle.std.specs.List.{flat_map}
use Rattle.model_parse.specs.believed.Written.{joined}

module _ {A : Type 0} (text : A → List ℕ) (between before : List ℕ) where
  -- one more text behind others
  pub one_more : (others : List A) (i : ℕ) (d : A) → i < length others
      → ((before ++ flat_map (λ item. between ++ text item) (take i others)) ++ between) ++ text (get_or others i d) ≡ before ++ flat_map (λ item. between ++ text item) (take (i + 1) others)
  one_more others i d within =
      let more : flat_map (λ item. between ++ text item) (take (i + 1) others) ≡ flat_map (λ item. between ++ text item) (take i others) ++ (between ++ text (get_or others i d)) =
      ap (flat_map (λ item. between ++ text item)) (take_more others i d within)
      ∙ (flat_map-append (λ item. between ++ text item) (take i others) (get_or others i d ∷ [])
      ∙ ap (λ last. flat_map (λ item. between ++ text item) (take i others) ++ last) (append-nil (between ++ text (get_or others i d)))) in
      append_assoc (before ++ flat_map (λ item. between ++ text item) (take i others)) between (text (get_or others i d))
      ∙ (append_assoc before (flat_map (λ item. between ++ text item) (take i others)) (between ++ text (get_or others i d)) ∙ ap (λ rest. before ++ rest) (sym more))

  -- a first text and others
  pub all_joined : (first : A) (others : List A) → (before ++ text first) ++ flat_map (λ item. between ++ text item) others ≡ before ++ joined between (map text (first ∷ others))
  all_joined first others =
      append_assoc before (text first) (flat_map (λ item. between ++ text item) others)
      ∙ ap (λ rest. before ++ (text first ++ rest)) (sym (flat_map-map (λ next. between ++ next) text others))

  -- the same of all texts, once the first is there
  pub all_put : (texts : List A) (d : A) (middle : List ℕ) → 1 ≤ length texts → middle ≡ before ++ text (get_or texts 0 d)
      → middle ++ flat_map (λ item. between ++ text item) (take (length texts - 1) (drop 1 texts)) ≡ before ++ joined between (map text texts)
  all_put texts d middle some is =
      ap (λ front. front ++ flat_map (λ item. between ++ text item) (take (length texts - 1) (drop 1 texts))) is
      ∙ (ap (λ others. (before ++ text (get_or texts 0 d)) ++ flat_map (λ item. between ++ text item) others) (take_rest texts 1)
      ∙ (all_joined (get_or texts 0 d) (drop 1 texts)
      ∙ ap (λ list. before ++ joined between (map text list)) (sym (drop-cons texts 0 d (omega arith)))))
