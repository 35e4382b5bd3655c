-- How many neighbouring places are marked, counted word by word.
use Rattle.std.proofs.Common.{inl, inr, ◌≡◌, ◌≢◌, ℕ, zero, suc, ◌+◌, ◌*◌, ◌-◌, ◌/◌, ◌%◌, ◌^◌, ◌<◌, ◌≤◌, Bool, false, cond, List, ◌++◌, length, take, drop, get_or, ◌∙◌, sym, ap, arith}
use Rattle.std.specs.List.{count_by}
use Rattle.std.specs.Prelude.{count_ones}
use Rattle.std.proofs.lemmas.Bool.{cases_eq}
use Rattle.std.proofs.lemmas.List.{at_drop_more, drop-drop, drop-take, length-take, take-append-drop, take-take}
use Rattle.std.proofs.lemmas.List.Sums.{count_by-le-length, sum_by-append, sum_by-cons}
use Rattle.std.proofs.lemmas.Nat.{ones_cat, ones_le_self, zero_from_ones}
use Rattle.std.proofs.lemmas.Nat.Bits.{bit_at-suc, bit_at-zero, bit_at_lowest, same_from_bits}
use Rattle.bit_table.specs.Marks.{AreMarksFrom}

digit : (d : ℕ) → d < 2 → count_ones d ≡ d
digit d small = elim (cases_eq d 0) [
  | inl none ↦ let few = ones_le_self d in omega (arith, few, none)
  | inr some ↦
      let few = ones_le_self d in
      let not_none : count_ones d ≢ 0 = λ none. some (zero_from_ones d none) in
      omega (arith, few, small, some, not_none)
]

-- as many bits of a word are set as places are marked whose marks it has
pub ones_counted : (count : ℕ) (marks : List Bool) (from word : ℕ) → AreMarksFrom marks from count word → from + count ≤ length marks
    → count_ones word ≡ count_by (λ mark. mark) (take count (drop from marks))
ones_counted zero marks from word are within =
    let none : word ≡ 0 = same_from_bits word 0 (λ i. are.no_other i (omega arith) ∙ sym (bit_at-zero i)) in
    let few = ones_le_self word in
    omega (arith, few, none)
ones_counted (suc count) marks from word are within =
    let whole : word / 2 * 2 ^ 1 + word % 2 ≡ word = omega arith in
    let low : word % 2 < 2 ^ 1 = omega arith in
    let cut : count_ones word ≡ count_ones (word / 2) + count_ones (word % 2) = ap count_ones (sym whole) ∙ ones_cat 1 (word / 2) (word % 2) low in
    let start : from + 0 ≡ from = omega arith in
    let first : word % 2 ≡ cond (get_or marks from false) 1 0 =
    sym (bit_at_lowest word) ∙ are.each 0 (omega arith) ∙ ap (λ k. cond (get_or marks k false) 1 0) start in
    let later = ones_counted count marks (from + 1) (word / 2) (record {
      each = λ i below.
          let next : from + suc i ≡ from + 1 + i = omega arith in
          sym (bit_at-suc word i) ∙ are.each (suc i) (omega (arith, below)) ∙ ap (λ k. cond (get_or marks k false) 1 0) next;
      no_other = λ i past. sym (bit_at-suc word i) ∙ are.no_other (suc i) (omega (arith, past));
    }) (omega (arith, within)) in
    let opened : count_by (λ mark. mark) (take (suc count) (drop from marks))
    ≡ cond (get_or marks from false) 1 0 + count_by (λ mark. mark) (take count (drop (from + 1) marks)) =
    at_drop_more (λ ms. count_by (λ mark. mark) (take (suc count) ms)) marks from false (omega (arith, within))
    ∙ sum_by-cons (λ mark. cond mark 1 0) (get_or marks from false) (take count (drop (from + 1) marks)) in
    omega (arith, cut, digit (word % 2) low, first, later, opened)

take_both : {X : Type 0} (n k : ℕ) (xs : List X) → take (n + k) xs ≡ take n xs ++ take k (drop n xs)
take_both n k xs =
    let whole = take-append-drop n (take (n + k) xs) in
    sym (rw (take-take n (n + k) xs (omega arith), drop-take n k xs) at whole)

-- one word more
pub more_counted : (marks : List Bool) (from place near word marked : ℕ) → from ≤ place → place + near ≤ length marks → AreMarksFrom marks place near word
    → marked ≡ count_by (λ mark. mark) (take (place - from) (drop from marks))
    → marked + count_ones word ≡ count_by (λ mark. mark) (take (place + near - from) (drop from marks))
more_counted marks from place near word marked begun within are counted =
    let here = ones_counted near marks place word are within in
    let longer : place + near - from ≡ place - from + near = omega (arith, begun) in
    let at : from + (place - from) ≡ place = omega (arith, begun) in
    let rest : drop (place - from) (drop from marks) ≡ drop place marks = drop-drop (place - from) from marks ∙ ap (λ k. drop k marks) at in
    let whole : count_by (λ mark. mark) (take (place + near - from) (drop from marks))
    ≡ count_by (λ mark. mark) (take (place - from) (drop from marks)) + count_by (λ mark. mark) (take near (drop place marks)) =
    ap (λ n. count_by (λ mark. mark) (take n (drop from marks))) longer
    ∙ ap (count_by (λ mark. mark)) (take_both (place - from) near (drop from marks))
    ∙ sum_by-append (λ mark. cond mark 1 0) (take (place - from) (drop from marks)) (take near (drop (place - from) (drop from marks)))
    ∙ ap (λ ms. count_by (λ mark. mark) (take (place - from) (drop from marks)) + count_by (λ mark. mark) (take near ms)) rest in
    omega (arith, here, counted, whole)

-- a count is no more than the places
pub few_counted : (marks : List Bool) (from n : ℕ) → count_by (λ mark. mark) (take n (drop from marks)) ≤ n
few_counted marks from n =
    let most = count_by-le-length (λ mark. mark) (take n (drop from marks)) in
    let long = length-take n (drop from marks) in
    omega (arith, most, long)
