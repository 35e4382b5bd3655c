-- What a loop over a list has found so far.
use Rattle.std.proofs.Common.{◌≡◌, ◌∙◌, ◌++◌, ◌∷◌, ◌+◌, ◌<◌, ◌≤◌, ℕ, Bool, true, false, List, [], Option, Some, None, ap, sym, refl, length, drop}
use Rattle.std.specs.Prelude.{find, filter_map, cond}
use Rattle.std.specs.List.{slice_index_or}
use Rattle.std.proofs.lemmas.List.{append_assoc, drop_all, drop_more}

module _ {X : Type 0} (p : X → Bool) (xs : List X) (i : ℕ) (d : X) (all : Option X) (lt : i < length xs) (so_far : find p (drop i xs) ≡ all) where
  step : find p (slice_index_or xs i d ∷ drop (i + 1) xs) ≡ all
  step = ap (find p) (sym (drop_more xs i d lt)) ∙ so_far

  pub found : p (slice_index_or xs i d) ≡ true → Some (slice_index_or xs i d) ≡ all
  found is = ap (λ b. cond b (Some (slice_index_or xs i d)) (find p (drop (i + 1) xs))) (sym is) ∙ step

  pub passed : p (slice_index_or xs i d) ≡ false → find p (drop (i + 1) xs) ≡ all
  passed is = ap (λ b. cond b (Some (slice_index_or xs i d)) (find p (drop (i + 1) xs))) (sym is) ∙ step

pub none_left : {X : Type 0} (p : X → Bool) (xs : List X) (i : ℕ) (all : Option X) → length xs ≤ i → find p (drop i xs) ≡ all → None ≡ all
none_left p xs i all le so_far = ap (find p) (sym (drop_all i xs le)) ∙ so_far

-- the values of a function that gives some, behind those before
module _ {X Y : Type 0} (f : X → Option Y) (xs : List X) (i : ℕ) (d : X) (before all : List Y) (lt : i < length xs) (so_far : before ++ filter_map f (drop i xs) ≡ all) where
  filter_step : before ++ filter_map f (slice_index_or xs i d ∷ drop (i + 1) xs) ≡ all
  filter_step = ap (λ ys. before ++ filter_map f ys) (sym (drop_more xs i d lt)) ∙ so_far

  pub kept : (y : Y) → f (slice_index_or xs i d) ≡ Some y → (before ++ y ∷ []) ++ filter_map f (drop (i + 1) xs) ≡ all
  kept y is = let next : filter_map f (slice_index_or xs i d ∷ drop (i + 1) xs) ≡ y ∷ filter_map f (drop (i + 1) xs) = rw is refl in
      append_assoc before (y ∷ []) (filter_map f (drop (i + 1) xs)) ∙ ap (λ ys. before ++ ys) (sym next) ∙ filter_step

  pub left_out : f (slice_index_or xs i d) ≡ None → before ++ filter_map f (drop (i + 1) xs) ≡ all
  left_out is = let next : filter_map f (slice_index_or xs i d ∷ drop (i + 1) xs) ≡ filter_map f (drop (i + 1) xs) = rw is refl in
      ap (λ ys. before ++ ys) (sym next) ∙ filter_step
