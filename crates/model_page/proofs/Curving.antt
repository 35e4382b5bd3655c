-- The numbers of tests of a curve never fall, and are at most all; and its points.
use Rattle.std.proofs.Common.{◌≡◌, ℕ, ◌+◌, ◌*◌, ◌%◌, ◌<◌, ◌≤◌, List, [], ◌∷◌, All, length, get_or, map, refl, sym, ap, subst, arith, zero-add}
use Rattle.std.specs.Prelude.{◌/◌, AllPairs, Option, min}
use Rattle.std.specs.List.{range_with_len}
use Rattle.std.proofs.Math.Nat.{add-mul, div-add-mod', mul-le-mul_right, mul_comm}
use Rattle.std.proofs.lemmas.List.Elements.{All-cons}
use Rattle.std.proofs.lemmas.List.FromFn.{get_or-map-range_with_len, length-map-range_with_len}
use Rattle.std.proofs.lemmas.List.Kept.{AllPairs-cons}
use Rattle.std.proofs.lemmas.Nat.{div_below, le-div}
use Rattle.cov_model.specs.believed.Sound.{ModelView}
use Rattle.suite_facts.specs.believed.Coverages.{point_of}
use Rattle.model_page.specs.Seen.{point_seen}
use Rattle.model_page.specs.believed.Curves.{curve_counts, point_at}

-- the end of a step
module _ (count steps : ℕ) where
  ends : ℕ → ℕ
  ends i = (i + 1) * count / steps

  ends_rise : (i j : ℕ) → 0 < steps → i ≤ j → ends i ≤ ends j
  unfolding ends
  ends_rise i j some before =
      let more : (i + 1) * count ≤ (j + 1) * count = mul-le-mul_right count (omega (arith, before)) in
      let back : (i + 1) * count / steps * steps + (i + 1) * count % steps ≡ (i + 1) * count = div-add-mod' ((i + 1) * count) steps in
      le-div ((i + 1) * count / steps) ((j + 1) * count) steps some (omega (arith, more, back))

  pub ends_within : (i : ℕ) → i < steps → (i + 1) * count / steps ≤ count
  ends_within i inside =
      let least : (i + 1) * count ≤ steps * count = mul-le-mul_right count (omega (arith, inside)) in
      let below : (i + 1) * count < (count + 1) * steps = omega (arith, least, inside, add-mul count 1 steps, mul_comm steps count) in
      let less : (i + 1) * count / steps < count + 1 = div_below ((i + 1) * count) steps (count + 1) (omega (arith, inside)) below in
      omega (arith, less)

  steps_within : All (λ n. n ≤ count) (map (λ i. (i + 1) * count / steps) (range_with_len 0 steps))
  steps_within k d inside =
      let within : k < steps = omega (arith, inside, length-map-range_with_len (λ i. (i + 1) * count / steps) 0 steps) in
      subst (λ n. n ≤ count) (sym (get_or-map-range_with_len (λ i. (i + 1) * count / steps) 0 steps k k d within (zero-add k))) (ends_within k within)

  steps_rise : AllPairs (λ a b. a ≤ b) (map (λ i. (i + 1) * count / steps) (range_with_len 0 steps))
  unfolding ends
  steps_rise i j d before inside =
      let long = length-map-range_with_len (λ k. (k + 1) * count / steps) 0 steps in
      let late : j < steps = omega (arith, inside, long) in
      let early : i < steps = omega (arith, before, late) in
      rw (
        get_or-map-range_with_len (λ k. (k + 1) * count / steps) 0 steps i i d early (zero-add i),
        get_or-map-range_with_len (λ k. (k + 1) * count / steps) 0 steps j j d late (zero-add j),
      )
      (ends_rise i j (omega (arith, late)) (omega (arith, before)))

pub counts_rise : (count : ℕ) (counts : List ℕ) → counts ≡ curve_counts count → AllPairs (λ a b. a ≤ b) counts
counts_rise count counts are =
    let steps = min count 199 in
    subst (AllPairs (λ a b. a ≤ b)) (sym are)
    (AllPairs-cons (λ a b. a ≤ b) 0 (map (λ i. (i + 1) * count / steps) (range_with_len 0 steps)) (λ k d inside. omega arith) (steps_rise count steps))

pub counts_within : (count : ℕ) (counts : List ℕ) → counts ≡ curve_counts count → All (λ n. n ≤ count) counts
counts_within count counts are =
    let steps = min count 199 in
    subst (All (λ n. n ≤ count)) (sym are)
    (All-cons (λ n. n ≤ count) 0 (map (λ i. (i + 1) * count / steps) (range_with_len 0 steps)) (omega arith) (steps_within count steps))

-- the points of the curve as a picture takes them
pub points_are : (m : ModelView) (rows : List (List (Option ℕ))) (counts : List ℕ) → map point_seen (map (point_of m rows) counts) ≡ map (point_at m rows) counts
points_are m rows [] = refl
points_are m rows (n ∷ counts) = ap (λ points. point_at m rows n ∷ points) (points_are m rows counts)
