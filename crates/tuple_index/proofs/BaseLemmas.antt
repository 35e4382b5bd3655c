-- The bases of sets, one after another.
use Rattle.std.proofs.Common.{inl, inr, ◌≡◌, ℕ, ◌+◌, ◌<◌, ◌≤◌, List, [], ◌∷◌, ◌++◌, take, length, get_or, ◌∙◌, sym, ap, arith}
use Rattle.std.specs.Prelude.{sum}
use Rattle.std.proofs.lemmas.Bool.{cases_eq}
use Rattle.std.proofs.lemmas.List.{take_more, length_push, get_or_push, get_or_append_left}
use Rattle.std.proofs.lemmas.List.Sums.{sum_by_push, sum_by_more_le}
use Rattle.tuple_index.specs.Kept.{AreBases}

-- the bases of the first i sets, and the sum of their sizes
pub record BasesSoFar (sizes bases : List ℕ) (total i : ℕ) : Type 0 where
  pub summed : total ≡ sum (take i sizes)
  pub long : length bases ≡ i
  pub sums : (k : ℕ) → k < i → get_or bases k 0 ≡ sum (take k sizes)

pub total_more : (sizes bases : List ℕ) (total i : ℕ) → BasesSoFar sizes bases total i → i < length sizes → total + get_or sizes i 0 ≡ sum (take (i + 1) sizes)
total_more sizes bases total i so_far within =
    let longer = ap sum (take_more sizes i 0 within) ∙ sum_by_push (λ n. n) (take i sizes) (get_or sizes i 0) in
    omega (arith, so_far.summed, longer)

pub total_within : (sizes bases : List ℕ) (total i : ℕ) → BasesSoFar sizes bases total i → i < length sizes → total + get_or sizes i 0 ≤ sum sizes
total_within sizes bases total i so_far within = omega (arith, so_far.summed, sum_by_more_le (λ n. n) sizes i 0 within)

pub bases_step : (sizes bases next : List ℕ) (total i : ℕ) → BasesSoFar sizes bases total i → i < length sizes → next ≡ bases ++ total ∷ []
    → BasesSoFar sizes next (total + get_or sizes i 0) (i + 1)
bases_step sizes bases next total i so_far within pushed = record {
  summed = total_more sizes bases total i so_far within;
  long = ap length pushed ∙ length_push bases total ∙ ap (λ n. n + 1) so_far.long;
  sums = λ k below.
      elim (cases_eq k i) [
        | inl here ↦ ap (λ bs. get_or bs k 0) pushed ∙ get_or_push bases total 0 k (so_far.long ∙ sym here) ∙ so_far.summed
            ∙ ap (λ n. sum (take n sizes)) (sym here)
        | inr apart ↦ ap (λ bs. get_or bs k 0) pushed ∙ get_or_append_left bases (total ∷ []) 0 k (omega (arith, so_far.long, below, apart))
            ∙ so_far.sums k (omega (arith, below, apart))
      ];
}

pub bases_end : (sizes bases : List ℕ) (total i : ℕ) → BasesSoFar sizes bases total i → length sizes ≤ i → i ≤ length sizes → AreBases sizes bases
bases_end sizes bases total i so_far past most = record {
  as_many = omega (arith, so_far.long, past, most);
  sums = λ k below. so_far.sums k (omega (arith, below, past));
}
