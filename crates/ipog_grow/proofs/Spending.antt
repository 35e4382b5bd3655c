-- The first question that costs more than it may, as the questions are asked one after another.
use Rattle.std.proofs.Common.{◌≡◌, ℕ, ◌+◌, ◌<◌, Bool, List, [], ◌∷◌, ◌++◌, take, drop, get_or, length, find, Option, Some, None, ◌∙◌, sym, ap, refl}
use Rattle.std.specs.Option.{option_or}
use Rattle.std.proofs.lemmas.List.{take_more, take-append-drop}
use Rattle.std.proofs.lemmas.List.Folds.{find-append}
use Rattle.std.proofs.lemmas.Option.{none-some}

module _ {X : Type 0} (over : X → Bool) where
  -- where no earlier item passes, the first is among the later ones
  pub find-later : (xs ys : List X) → find over xs ≡ None → find over (xs ++ ys) ≡ find over ys
  find-later xs ys none = find-append over xs ys ∙ ap (λ found. option_or found (find over ys)) none

  -- an earlier one is the first
  pub find-earlier : (x : X) (xs ys : List X) → find over xs ≡ Some x → find over (xs ++ ys) ≡ Some x
  find-earlier x xs ys some = find-append over xs ys ∙ ap (λ found. option_or found (find over ys)) some

  pub find-more : (xs : List X) (i : ℕ) (d : X) → i < length xs → find over (take i xs) ≡ None → find over (take (i + 1) xs) ≡ find over (get_or xs i d ∷ [])
  find-more xs i d within none = ap (find over) (take_more xs i d within) ∙ find-later (take i xs) (get_or xs i d ∷ []) none

  pub find-at : (xs : List X) (i : ℕ) (d x : X) → i < length xs → find over (take i xs) ≡ None → find over (get_or xs i d ∷ []) ≡ Some x → find over xs ≡ Some x
  find-at xs i d x within none some =
      ap (find over) (sym (take-append-drop (i + 1) xs)) ∙ find-earlier x (take (i + 1) xs) (drop (i + 1) xs) (find-more xs i d within none ∙ some)

  -- where none passes in a whole, none does in a part
  pub find-none : (xs ys : List X) → find over (xs ++ ys) ≡ None → (find over xs ≡ None) × (find over ys ≡ None)
  find-none xs ys none = at (find over xs) (sym (find-append over xs ys) ∙ none)
    where
      at : (first : Option X) → option_or first (find over ys) ≡ None → (first ≡ None) × (find over ys ≡ None)
      at None none = (refl, none)
      at (Some x) none = absurd (none-some x (sym none))
