-- Texts that grow part by part.
use Rattle.std.proofs.Common.{◌≡◌, ℕ, ◌+◌, ◌<◌, List, [], ◌∷◌, ◌++◌, length, map, take, get_or, slice_get, None, inl, inr, refl, sym, ap, ◌∙◌, arith, append_assoc}
use Rattle.std.specs.List.{flat_map, join_with_byte}
use Rattle.std.proofs.lemmas.Grind.{flat_map-append}
use Rattle.std.proofs.lemmas.List.{append-nil, get_or_past, length-map, length-take-le, map_more, take_more}
use Rattle.std.proofs.lemmas.Bool.{cases_lt}
use Rattle.std.proofs.lemmas.Option.{none-some, slice_get-get_or}
use Rattle.seq_cover.specs.ReportText.{part_behind}

-- a part behind the others
join_push : (mark : ℕ) (parts : List (List ℕ)) (part : List ℕ) → join_with_byte mark (parts ++ part ∷ []) ≡ join_with_byte mark parts ++ part_behind mark (length parts) part
join_push mark [] part = refl
join_push mark (first ∷ []) part = refl
join_push mark (first ∷ second ∷ parts) part =
    ap (λ rest. first ++ mark ∷ rest) (join_push mark (second ∷ parts) part)
    ∙ sym (append_assoc first (mark ∷ join_with_byte mark (second ∷ parts)) (mark ∷ part))

-- the parts so far, and one more behind the text so far
pub joined_more : {X : Type 0} (mark : ℕ) (f : X → List ℕ) (xs : List X) (i : ℕ) (d item : X) (before text new : List ℕ) → i < length xs → item ≡ get_or xs i d
    → text ≡ before ++ join_with_byte mark (map f (take i xs)) → new ≡ text ++ part_behind mark i (f item)
    → new ≡ before ++ join_with_byte mark (map f (take (i + 1) xs))
joined_more mark f xs i d item before text new within is so_far more =
    let parts = map f (take i xs) in
    let many : length parts ≡ i = length-map (take i xs) f ∙ length-take-le i xs (omega arith) in
    more ∙ ap (λ t. t ++ part_behind mark i (f item)) so_far ∙ append_assoc before (join_with_byte mark parts) (part_behind mark i (f item))
    ∙ ap (λ t. before ++ t)
    (ap (λ n. join_with_byte mark parts ++ part_behind mark n (f item)) (sym many) ∙ sym (join_push mark parts (f item))
    ∙ ap (λ x. join_with_byte mark (parts ++ f x ∷ [])) is ∙ ap (join_with_byte mark) (sym (map_more f xs i d within)))

-- pieces one behind another
pub pieces_more : {X : Type 0} (f : X → List ℕ) (xs : List X) (i : ℕ) (d item : X) (before text new : List ℕ) → i < length xs → item ≡ get_or xs i d
    → text ≡ before ++ flat_map f (take i xs) → new ≡ text ++ f item → new ≡ before ++ flat_map f (take (i + 1) xs)
pieces_more f xs i d item before text new within is so_far more =
    more ∙ ap (λ t. t ++ f item) so_far ∙ append_assoc before (flat_map f (take i xs)) (f item)
    ∙ ap (λ t. before ++ t)
    (ap (λ x. flat_map f (take i xs) ++ f x) is ∙ ap (λ t. flat_map f (take i xs) ++ t) (sym (append-nil (f (get_or xs i d))))
    ∙ sym (flat_map-append f (take i xs) (get_or xs i d ∷ [])) ∙ ap (flat_map f) (sym (take_more xs i d within)))

-- past the names there is none
pub no_name : (names : List (List ℕ)) (event : ℕ) → None ≡ slice_get names event → get_or names event [] ≡ []
no_name names event none = elim (cases_lt event (length names)) [
  | inl within ↦ absurd (none-some (get_or names event []) (none ∙ slice_get-get_or names event [] within))
  | inr past ↦ get_or_past names event [] past
]

-- three texts behind one, of which the middle one is another
pub three_behind : (before first middle last text after new : List ℕ) → text ≡ before ++ first → after ≡ text ++ middle → new ≡ after ++ last
    → new ≡ before ++ (first ++ (middle ++ last))
three_behind before first middle last text after new one two three =
    three ∙ ap (λ t. t ++ last) (two ∙ ap (λ t. t ++ middle) one) ∙ append_assoc (before ++ first) middle last ∙ append_assoc before first (middle ++ last)
