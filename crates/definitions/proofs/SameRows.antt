-- Partial rows that contain each other.
use Rattle.std.proofs.Common.{◌≡◌, ℕ, Bool, true, false, cond, not, ◌||◌, List, [], ◌∷◌, ◌++◌, map, length, filter, Option, Some, None, unwrap_or, nat_eq, All, ◌∙◌, sym, ap, refl}
use Rattle.std.specs.Option.{option_eq}
use Rattle.std.specs.Bool.{Decides}
use Rattle.std.specs.Cmp.Lexicographic.{pointwise}
use Rattle.std.proofs.lemmas.Bool.Decides.{Decides-eqb}
use Rattle.std.specs.List.{list_any}
use Rattle.std.proofs.lemmas.Bool.{false≢true, and_from}
use Rattle.std.proofs.lemmas.List.Elements.{filter-append, All-cons, All-filter, All-head, All-tail}
use Rattle.std.proofs.lemmas.Slice.Eq.{slice_eq-Decides}
use Rattle.std.proofs.lemmas.List.{append-nil}
use Rattle.value_text.proofs.ListLemmas.{or_twice}
use Rattle.definitions.proofs.Members.{same_answer}
use Rattle.definitions.proofs.PartialRowLemmas.{same-sym, same-trans, same_row_is}
use Rattle.cov_model.proofs.CellLemmas.{contains-refl}
use Rattle.cov_model.specs.believed.Rows.{contains}
use Rattle.definitions.specs.believed.Seeds.{is_same_row, distinct_by}

-- an item among those of which none is the same as an earlier one, and one more at the end
module _ {X : Type 0} (row : X → List (Option ℕ)) where
  abbrev pub has_same : List X → X → Bool
  has_same items x = list_any (λ y. is_same_row (row y) (row x)) items

  abbrev apart : X → X → Bool
  apart y z = not (is_same_row (row y) (row z))

  -- what is the same as an item is the same as another that is the same as it
  same_moves : (y z x : X) → is_same_row (row y) (row z) ≡ true → is_same_row (row z) (row x) ≡ is_same_row (row y) (row x)
  same_moves y z x same = same_answer (is_same_row (row z) (row x)) (is_same_row (row y) (row x)) (same-trans (row y) (row z) (row x) same)
      (same-trans (row z) (row y) (row x) (same-sym (row z) (row y) ∙ same))

  any_apart : (y x : X) (items : List X) → (is_same_row (row y) (row x) || has_same (filter (apart y) items) x)
      ≡ (is_same_row (row y) (row x) || has_same items x)
  any_apart y x [] = refl
  any_apart y x (z ∷ items) = by_case (is_same_row (row y) (row z)) refl (any_apart y x items)
    where
      over : (a b c d : Bool) → (a || c) ≡ (a || d) → (a || (b || c)) ≡ (a || (b || d))
      over true b c d e = refl
      over false b c d e = ap (λ (k : Bool). b || k) e

      by_case : (b : Bool) → is_same_row (row y) (row z) ≡ b
          → (is_same_row (row y) (row x) || has_same (filter (apart y) items) x) ≡ (is_same_row (row y) (row x) || has_same items x)
          → (is_same_row (row y) (row x) || has_same (cond (not b) (z ∷ filter (apart y) items) (filter (apart y) items)) x)
          ≡ (is_same_row (row y) (row x) || (is_same_row (row z) (row x) || has_same items x))
      by_case true same later =
          later ∙ or_twice (is_same_row (row y) (row x)) (has_same items x)
          ∙ ap (λ (b : Bool). is_same_row (row y) (row x) || (b || has_same items x)) (sym (same_moves y z x same))
      by_case false differs later = over (is_same_row (row y) (row x)) (is_same_row (row z) (row x)) (has_same (filter (apart y) items) x)
          (has_same items x) later

  pub distinct_by-push : (items : List X) (x : X) → distinct_by row (items ++ x ∷ []) ≡ cond (has_same (distinct_by row items) x) (distinct_by row items)
      (distinct_by row items ++ x ∷ [])
  distinct_by-push [] x = refl
  distinct_by-push (y ∷ items) x =
      ap (λ found. y ∷ filter (apart y) found) (distinct_by-push items x)
      ∙ by_case (has_same (distinct_by row items) x) (is_same_row (row y) (row x)) refl
      ∙ ap (λ (b : Bool). cond b (distinct_by row (y ∷ items)) (distinct_by row (y ∷ items) ++ x ∷ [])) (sym (any_apart y x (distinct_by row items)))
    where
      by_case : (known same : Bool) → is_same_row (row y) (row x) ≡ same
          → y ∷ filter (apart y) (cond known (distinct_by row items) (distinct_by row items ++ x ∷ [])) ≡ cond (same || known) (distinct_by row (y ∷ items))
          (distinct_by row (y ∷ items) ++ x ∷ [])
      by_case true true is = refl
      by_case true false is = refl
      by_case false true is = ap (λ rest. y ∷ rest) (filter-append (apart y) (distinct_by row items) (x ∷ [])
          ∙ ap (λ (b : Bool). filter (apart y) (distinct_by row items) ++ cond (not b) (x ∷ []) []) is ∙ append-nil (filter (apart y) (distinct_by row items)))
      by_case false false is = ap (λ rest. y ∷ rest) (filter-append (apart y) (distinct_by row items) (x ∷ [])
          ∙ ap (λ (b : Bool). filter (apart y) (distinct_by row items) ++ cond (not b) (x ∷ []) []) is)

  -- what is so of each item is so of those
  pub distinct_by-all : (P : X → Type 0) (items : List X) → All P items → All P (distinct_by row items)
  distinct_by-all P [] all = all
  distinct_by-all P (x ∷ items) all =
      All-cons P x (filter (apart x) (distinct_by row items)) (All-head P x items all)
      (All-filter (apart x) P (distinct_by row items) (distinct_by-all P items (All-tail P x items all)))

-- rows of one length are the same exactly if their places are equal
abbrev pub equal_cells : List (Option ℕ) → List (Option ℕ) → Bool
equal_cells a b = pointwise (option_eq nat_eq) a b

cell_decides : (a b : Option ℕ) → Decides (option_eq nat_eq a b) (a ≡ b)
cell_decides None None = (λ e. refl, λ e. refl)
cell_decides None (Some w) = (λ e. absurd (false≢true e), λ e. cc)
cell_decides (Some v) None = (λ e. absurd (false≢true e), λ e. cc)
cell_decides (Some v) (Some w) = (
  λ e. ap (λ (u : ℕ). Some u) ((Decides-eqb v w).0 e),
  λ e. (Decides-eqb v w).1 (ap (λ (o : Option ℕ). unwrap_or o v) e),
)

same_is_equal : (known row : List (Option ℕ)) → length known ≡ length row → equal_cells row known ≡ is_same_row known row
same_is_equal known row long =
    let decides = slice_eq-Decides cell_decides row known (equal_cells row known) refl in
    same_answer (equal_cells row known) (is_same_row known row)
    (λ equal. ap (λ other. is_same_row other row) (sym (decides.0 equal)) ∙ and_from (contains row row) (contains row row) (contains-refl row)
    (contains-refl row))
    (λ same. decides.1 (sym (same_row_is known row long same)))

-- so a set of rows that compares places knows the rows that are the same
pub known_by_places : {K : Type 0} (cells : K → List (Option ℕ)) (keys : List K) (row : List (Option ℕ))
    → All (λ known. length known ≡ length row) (map cells keys)
    → list_any (λ key. equal_cells row (cells key)) keys ≡ list_any (λ known. is_same_row known row) (map cells keys)
known_by_places cells [] row all = refl
known_by_places cells (key ∷ keys) row all =
    ap (λ (b : Bool). b || list_any (λ other. equal_cells row (cells other)) keys)
    (same_is_equal (cells key) row (All-head (λ known. length known ≡ length row) (cells key) (map cells keys) all))
    ∙ ap (λ (b : Bool). is_same_row (cells key) row || b)
    (known_by_places cells keys row (All-tail (λ known. length known ≡ length row) (cells key) (map cells keys) all))
