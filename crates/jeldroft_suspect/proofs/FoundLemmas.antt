-- The combinations that are found are of the model.
use Rattle.std.proofs.Common.{◌≡◌, ℕ, zero, suc, ◌<◌, Bool, List, [], ◌∷◌, map, filter, flat_map, length, All, Option, ap, subst, sym}
use Rattle.std.specs.Prelude.{count_by}
use Rattle.std.specs.List.{range_with_len}
use Rattle.std.proofs.lemmas.List.Elements.{All-append, All-cons, All-filter, All-head, All-map, All-nil, All-tail, All-weaker}
use Rattle.cov_model.specs.believed.Slices.{value_numbers}
use Rattle.cov_model.specs.believed.Sound.{ModelView, param_at}
use Rattle.cov_model.specs.believed.Valid.{param_numbers}
use Rattle.definitions.specs.believed.Demand.{choose}
use Rattle.suspect_tuples.specs.believed.Suspects.{failing_rows, has_tuple, is_smallest, passing_rows, suspect_sets, suspect_tuples, suspects, tuples_on}
use Rattle.suspect_tuples.specs.Told.{found_seen, suspects_seen}
use Rattle.suspect_tuples.specs.declared.suspect_list.Found.{Found}
use Rattle.suspect_tuples.specs.declared.suspect_list.Suspects.{Suspects}
use Rattle.jeldroft_suspect.specs.Due.{ArePairsFound}
use Rattle.jeldroft_suspect.specs.SuspectsText.{ArePairsOf, IsPairOf}
use Rattle.value_text.proofs.ListLemmas.{below_all}

all_of_flat_map : {X Y : Type 0} (f : X → List Y) (P : Y → Type 0) (xs : List X) → All (λ x. All P (f x)) xs → All P (flat_map f xs)
all_of_flat_map f P [] each = All-nil P
all_of_flat_map f P (x ∷ xs) each = All-append P (f x) (flat_map f xs) (All-head (λ y. All P (f y)) x xs each) (all_of_flat_map f P xs (All-tail (λ y. All P (f y)) x xs each))

-- what is taken of items has what they have
chosen_have : (P : ℕ → Type 0) (k : ℕ) (xs : List ℕ) → All P xs → All (All P) (choose k xs)
chosen_have P zero xs have = All-cons (All P) [] [] (All-nil P) (All-nil (All P))
chosen_have P (suc k) [] have = All-nil (All P)
chosen_have P (suc k) (x ∷ xs) have =
    let here = All-head P x xs have in
    let rest = All-tail P x xs have in
    All-append (All P) (map (λ f. x ∷ f) (choose k xs)) (choose (suc k) xs)
    (All-map (All P) (λ f. x ∷ f) (choose k xs) (All-weaker (All P) (λ f. All P (x ∷ f)) (λ f is. All-cons P x f here is) (choose k xs) (chosen_have P k xs rest)))
    (chosen_have P (suc k) xs rest)

module _ (m : ModelView) where
  tuples_are : (set : List ℕ) → All (λ p. p < length m.params) set → All (ArePairsOf m) (tuples_on m set)
  tuples_are [] exist = All-cons (ArePairsOf m) [] [] (All-nil (IsPairOf m)) (All-nil (ArePairsOf m))
  tuples_are (p ∷ set) exist =
      let here = All-head (λ q. q < length m.params) p set exist in
      let rest = tuples_are set (All-tail (λ q. q < length m.params) p set exist) in
      all_of_flat_map (λ v. map (λ pairs. (p, v) ∷ pairs) (tuples_on m set)) (ArePairsOf m) (value_numbers m p)
      (All-weaker (λ v. v < length (param_at m.params p).values) (λ v. All (ArePairsOf m) (map (λ pairs. (p, v) ∷ pairs) (tuples_on m set)))
      (λ v below. All-map (ArePairsOf m) (λ pairs. (p, v) ∷ pairs) (tuples_on m set)
      (All-weaker (ArePairsOf m) (λ pairs. ArePairsOf m ((p, v) ∷ pairs)) (λ pairs are. All-cons (IsPairOf m) (p, v) pairs (here, below) are) (tuples_on m set) rest))
      (value_numbers m p) (below_all (length (param_at m.params p).values)))

  sets_are : All (All (λ p. p < length m.params)) (suspect_sets m)
  sets_are =
      all_of_flat_map (λ k. choose k (param_numbers m)) (All (λ p. p < length m.params)) (range_with_len 1 m.demand.order)
      (λ k d within. chosen_have (λ p. p < length m.params) _ (param_numbers m) (below_all (length m.params)))

  pub found_are : (passing failing : List (List (Option ℕ))) → All (λ found. ArePairsOf m found.0) (suspect_tuples m passing failing)
  found_are passing failing =
      let all = flat_map (tuples_on m) (suspect_sets m) in
      All-map (λ (found : List (ℕ × ℕ) × ℕ). ArePairsOf m found.0) (λ tuple. (tuple, count_by (has_tuple tuple) failing)) (filter (is_smallest passing failing) all)
      (All-filter (is_smallest passing failing) (ArePairsOf m) all
      (all_of_flat_map (tuples_on m) (ArePairsOf m) (suspect_sets m) (All-weaker (All (λ p. p < length m.params)) (λ set. All (ArePairsOf m) (tuples_on m set)) (λ set exist. tuples_are set exist) (suspect_sets m) sets_are)))

  -- and so those that the program holds
  pub found_pairs : (rows : List (List (Option ℕ))) (failed : List Bool) (held : Suspects) → suspects_seen held ≡ suspects m rows failed → ArePairsFound m held.found
  found_pairs rows failed held is =
      let same : map found_seen held.found ≡ suspect_tuples m (passing_rows rows failed) (failing_rows rows failed) = ap (λ told. told.found) is in
      of_map held.found (subst (All (λ found. ArePairsOf m found.0)) (sym same) (found_are (passing_rows rows failed) (failing_rows rows failed)))
    where
      of_map : (list : List Found) → All (λ found. ArePairsOf m found.0) (map found_seen list) → ArePairsFound m list
      of_map [] are = All-nil (λ found. ArePairsOf m found.tuple)
      of_map (found ∷ list) are =
          All-cons (λ other. ArePairsOf m other.tuple) found list (All-head (λ other. ArePairsOf m other.0) (found_seen found) (map found_seen list) are)
          (of_map list (All-tail (λ other. ArePairsOf m other.0) (found_seen found) (map found_seen list) are))
