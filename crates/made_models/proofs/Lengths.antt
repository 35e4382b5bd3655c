-- Made models are short.
use Rattle.std.proofs.Common.{◌≡◌, ℕ, zero, suc, ◌+◌, ◌*◌, ◌-◌, ◌%◌, ◌^◌, ◌<◌, ◌≤◌, List, ◌++◌, length, get_or, sym, subst, arith, length-append}
use Rattle.std.specs.Prelude.{codes, decimal}
use Rattle.std.specs.List.{flat_map, range_with_len, sum_by}
use Rattle.std.proofs.Math.Nat.{mod-lt}
use Rattle.std.proofs.lemmas.Fmt.{length-decimal-le}
use Rattle.std.proofs.lemmas.List.Concat.{length-flat_map}
use Rattle.std.proofs.lemmas.List.FromFn.{get_or-range_with_len, length-range_with_len}
use Rattle.std.proofs.lemmas.List.Sums.{sum_by-le}
use Rattle.made_models.specs.believed.MadeModel.{Forbidden, constraint_line, constraint_lines, forbidden, made_text, parameter_line, parameter_lines, value_behind, value_count, word}

-- so many pieces of at most so many bytes
pieces : (f : ℕ → List ℕ) (most count : ℕ) → ((i : ℕ) → i < count → length (f i) ≤ most) → length (flat_map f (range_with_len 0 count)) ≤ count * most
pieces f most count each =
    let sums = sum_by-le (λ i. length (f i)) most (range_with_len 0 count) (λ k d within.
    let inside : k < count = omega (arith, within, length-range_with_len 0 count) in
    let same : get_or (range_with_len 0 count) k d ≡ k = omega (arith, get_or-range_with_len 0 count k d inside) in
    subst (λ i. length (f i) ≤ most) (sym same) (each k inside)) in
    subst (λ n. n ≤ count * most) (sym (length-flat_map f (range_with_len 0 count)))
    (subst (λ n. sum_by (λ i. length (f i)) (range_with_len 0 count) ≤ n * most) (length-range_with_len 0 count) sums)

-- a text of at most so many bytes
record IsWithin (text : List ℕ) (most : ℕ) : Type 0 where
  short : length text ≤ most

both : {x y : List ℕ} {m n : ℕ} → IsWithin x m → IsWithin y n → IsWithin (x ++ y) (m + n)
both {x} {y} {m} {n} first second = record { short = omega (arith, length-append x y, first.short, second.short) }

fixed : (text : List ℕ) → IsWithin text (length text)
fixed text = record { short = omega arith }

digits : (n : ℕ) → n < 100 → IsWithin (decimal n) 2
digits n small = record { short = length-decimal-le 2 n (omega arith) (omega (arith, small)) (omega (arith, small)) }

value_within : (v : ℕ) → v < 7 → IsWithin (value_behind v) 5
value_within zero small = record { short = omega arith }
value_within (suc v) small = both (fixed (codes ", v")) (digits (suc v) (omega (arith, small)))

values_within : (count : ℕ) → count ≤ 7 → IsWithin (flat_map value_behind (range_with_len 0 count)) 35
values_within count few = record { short = omega (arith, few, pieces value_behind 5 count (λ v inside. (value_within v (omega (arith, inside, few))).short)) }

parameter_within : (i count : ℕ) → i < 60 → count ≤ 7 → IsWithin (parameter_line i count) 41
parameter_within i count small few =
    both (both (both (both (fixed (codes "P")) (digits i (omega (arith, small)))) (fixed (codes ": "))) (values_within count few)) (fixed (codes "\n"))

constraint_within : (pair : Forbidden) → pair.first < 100 → pair.first_value < 100 → pair.second < 100 → pair.second_value < 100 → IsWithin (constraint_line pair) 38
constraint_within pair first first_value second second_value =
    both (both (both (both (both (both (both (both (fixed (codes "IF [P")) (digits pair.first first)) (fixed (codes "] = \"v"))) (digits pair.first_value first_value))
    (fixed (codes "\" THEN [P"))) (digits pair.second second)) (fixed (codes "] <> \"v"))) (digits pair.second_value second_value)) (fixed (codes "\";\n"))

-- a parameter has two to seven values, and those behind the first are at most six
few_values : (n i : ℕ) → value_count n i ≤ 7
few_values n i =
    let some : 0 < 6 = omega arith in
    omega (arith, mod-lt (word n i) some)

value_drawn : (n i w : ℕ) → 1 + w % (value_count n i - 1) < 100
value_drawn n i w =
    let some : 0 < value_count n i - 1 = omega arith in
    omega (arith, few_values n i, mod-lt w some)

-- a made model has fewer than 2^12 bytes
pub made_text_is_short : (n : ℕ) → length (made_text n) < 2 ^ 12
unfolding parameter_lines constraint_lines
made_text_is_short n =
    omega (
      arith,
      length-append (parameter_lines n 60) (constraint_lines n 30),
      pieces (λ i. parameter_line i (value_count n i)) 41 60 (λ i inside. (parameter_within i (value_count n i) inside (few_values n i)).short),
      pieces (λ k. constraint_line (forbidden n k)) 38 30 (λ k inside. (constraint_within (forbidden n k)
          (omega arith) (value_drawn n (forbidden n k).first (word n (60 + 4 * k + 2))) (omega arith) (value_drawn n (forbidden n k).second (word n (60 + 4 * k + 3)))).short),
    )
