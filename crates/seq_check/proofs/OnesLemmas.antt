-- How many bits of a number are set.
use Rattle.std.proofs.Common.{◌≡◌, ◌≢◌, ℕ, zero, suc, ◌+◌, ◌*◌, ◌/◌, ◌%◌, ◌^◌, ◌<◌, inl, inr, refl, sym, ap}
use Rattle.std.proofs.Common.{subst, ◌∙◌, arith, pow_pos, pow-suc, mod-lt, div-lt_iff_lt-mul, div-add-mod'}
use Rattle.std.specs.Int.{bit_at}
use Rattle.std.specs.Int.RustNames.{count_ones}
use Rattle.std.proofs.lemmas.Bool.{cases_eq}
use Rattle.std.proofs.lemmas.Nat.{ones_cat, ones_le_self, zero_from_ones}
use Rattle.std.proofs.lemmas.Nat.Bits.{bit_at_cat_low}
use Rattle.seq_check.proofs.Counting.{among, among-same, among-suc, one_if}
use Rattle.seq_check.specs.EventSets.{in_set, size_of}
use Rattle.seq_check.specs.declared.event_set.EventSet.{EventSet}
use Rattle.seq_check.proofs.SetLemmas.{is_one}

-- one digit
digit : (n : ℕ) → n < 2 → count_ones n ≡ one_if (is_one n)
digit n small = elim (cases_eq n 0) [
  | inl none ↦ let few = ones_le_self n in let zero_ones : count_ones n ≡ 0 = omega (arith, few, none) in zero_ones ∙ sym (ap (λ k. one_if (is_one k)) none)
  | inr some ↦
      let few = ones_le_self n in
      let not_none : count_ones n ≢ 0 = λ none. some (zero_from_ones n none) in
      let one : n ≡ 1 = omega (arith, some) in
      let one_ones : count_ones n ≡ 1 = omega (arith, few, one, not_none) in
      one_ones ∙ sym (ap (λ k. one_if (is_one k)) one)
]

-- half of a range
high_small : (n p : ℕ) → 0 < p → n < 2 * p → n / p < 2
high_small n p some below = (div-lt_iff_lt-mul {k = p} {x = n} {y = 2} some).1 below

pub ones_are : (k n : ℕ) → n < 2 ^ k → count_ones n ≡ among (λ i. is_one (bit_at n i)) k
ones_are zero n fits = let few = ones_le_self n in omega (arith, few)
ones_are (suc k) n fits =
    let high = n / 2 ^ k in
    let low = n % 2 ^ k in
    let some : 0 < 2 ^ k = pow_pos k in
    let low_fits : low < 2 ^ k = mod-lt n some in
    let whole : high * 2 ^ k + low ≡ n = div-add-mod' n (2 ^ k) in
    let small : high < 2 = high_small n (2 ^ k) some (omega (arith, pow-suc 2 k, fits)) in
    let same : (i : ℕ) → i < k → is_one (bit_at low i) ≡ is_one (bit_at n i) = λ i below.
    ap is_one (sym (bit_at_cat_low high k low i below) ∙ ap (λ m. bit_at m i) whole) in
    let top : high % 2 ≡ high = omega (arith, small) in
    let parts : count_ones n ≡ count_ones high + count_ones low = ap count_ones (sym whole) ∙ ones_cat k high low low_fits in
    let rest = ones_are k low low_fits ∙ among-same (λ i. is_one (bit_at low i)) (λ i. is_one (bit_at n i)) k same in
    let first : count_ones high ≡ one_if (is_one (bit_at n k)) = digit high small ∙ ap (λ m. one_if (is_one m)) (sym top) in
    omega (arith, parts, rest, first, among-suc (λ i. is_one (bit_at n i)) k)

-- the size of a set, by its events
pub size_is : (set : EventSet) (n : ℕ) → n ≡ 64 → size_of set ≡ among (in_set set) n
unfolding size_of
size_is set n all = ap (among (in_set set)) (sym all)

pub ones_size : (set : EventSet) → set.bits < 2 ^ 64 → count_ones set.bits ≡ size_of set
ones_size set fits = all 64 refl
  where
    all : (n : ℕ) → n ≡ 64 → count_ones set.bits ≡ size_of set
    all n is = ones_are n set.bits (subst (λ k. set.bits < 2 ^ k) (sym is) fits) ∙ sym (size_is set n is)
