-- Sums of bits.
use Rattle.std.proofs.Common.{◌≡◌, ℕ, zero, suc, ◌+◌, ◌-◌, ◌*◌, ◌^◌, ◌/◌, ◌%◌, ◌<◌, ◌≤◌, true, false, List, length, ◌∙◌, sym, ap, refl, set, get_or, bit_or, nat_eq, inl, inr, w64, arith}
use Rattle.std.specs.Prelude.{◌==◌, if◌then◌else◌, take}
use Rattle.std.specs.Prelude.{min, slice_index}
use Rattle.std.specs.Int.{bit_at}
use Rattle.std.specs.Int.Count.{ones}
use Rattle.std.specs.Int.Bits.{bit_and}
use Rattle.std.proofs.lemmas.Nat.{ones_cat}
use Rattle.std.proofs.lemmas.Nat.Bits.{bit_at-suc, bit_at_lowest, bit_at_and, bit_at-zero, bit_at-lt, bit_at_set_other, bit_at_set_same}
use Rattle.std.proofs.lemmas.Nat.Bits.{bit_at_clear_other, bit_at_clear_same}
use Rattle.std.specs.Int.{bit_not}
use Rattle.std.proofs.lemmas.Bool.{cases_eq, cases_lt}
use Rattle.std.proofs.lemmas.Bool.Decides.{nat_tests}
use Rattle.std.proofs.lemmas.List.{get_or-set_same, get_or-set_other, get_or_past, get_or-take, length-take}
use Rattle.uncovered_table.specs.Words.{bit_in, common, sum_to}

pub sum-first : (f : ℕ → ℕ) (n : ℕ) → sum_to f (suc n) ≡ f 0 + sum_to (λ i. f (suc i)) n
sum-first f zero = omega arith
sum-first f (suc n) = let before = sum-first f n in omega (arith, before)

pub sum-same : (f g : ℕ → ℕ) (n : ℕ) → ((i : ℕ) → i < n → f i ≡ g i) → sum_to f n ≡ sum_to g n
sum-same f g zero same = refl
sum-same f g (suc n) same =
    let before = sum-same f g n (λ i below. same i (omega arith)) in
    let here : f n ≡ g n = same n (omega arith) in
    omega (arith, before, here)

pub sum-more : (f : ℕ → ℕ) (a b : ℕ) → sum_to f (a + b) ≡ sum_to f a + sum_to (λ i. f (a + i)) b
sum-more f a zero = ap (sum_to f) (let e : a + 0 ≡ a = omega arith in e) ∙ (let e : sum_to f a ≡ sum_to f a + 0 = omega arith in e)
sum-more f a (suc b) =
    let before = sum-more f a b in
    let next : a + suc b ≡ suc (a + b) = omega arith in
    ap (sum_to f) next ∙ (let e : sum_to f (a + b) + f (a + b) ≡ sum_to f a + (sum_to (λ i. f (a + i)) b + f (a + b)) = omega (arith, before) in e)

-- the bits of a number that are set
digit : (n : ℕ) → n < 2 → ones n ≡ n
unfolding ones
digit zero below = refl
digit (suc zero) below = refl
digit (suc (suc n)) below = absurd (omega arith)

ones-sum : (k n : ℕ) → n < 2 ^ k → ones n ≡ sum_to (bit_at n) k
unfolding ones
ones-sum zero n below = let none : n ≡ 0 = omega arith in ap ones none
ones-sum (suc k) n below =
    let half : n / 2 < 2 ^ k = omega arith in
    let whole : n / 2 * 2 ^ 1 + n % 2 ≡ n = omega arith in
    let low : n % 2 < 2 ^ 1 = omega arith in
    let cut : ones n ≡ ones (n / 2) + ones (n % 2) = ap ones (sym whole) ∙ ones_cat 1 (n / 2) (n % 2) low in
    let rest = ones-sum k (n / 2) half in
    let last = digit (n % 2) low in
    let first = sum-first (bit_at n) k in
    let lowest = bit_at_lowest n in
    let others = sum-same (λ i. bit_at n (suc i)) (bit_at (n / 2)) k (λ i within. bit_at-suc n i) in
    omega (arith, cut, rest, last, first, lowest, others)

-- a bit of both is at most 1
pub sum-most : (words mask : List ℕ) (n : ℕ) → sum_to (common words mask) n ≤ n
sum-most words mask zero = omega arith
sum-most words mask (suc n) =
    let before = sum-most words mask n in
    let bit = bit_at-lt (slice_index words (n / 64)) (n % 64) in
    omega (arith, before, bit)

-- one word more
pub sum-word : (words mask : List ℕ) (i : ℕ) → bit_and (slice_index words i) (slice_index mask i) < 2 ^ 64
    → sum_to (common words mask) (64 * (i + 1)) ≡ sum_to (common words mask) (64 * i) + ones (bit_and (slice_index words i) (slice_index mask i))
sum-word words mask i fits =
    let split : 64 * (i + 1) ≡ 64 * i + 64 = omega arith in
    let more = sum-more (common words mask) (64 * i) 64 in
    let here = ones-sum 64 (bit_and (slice_index words i) (slice_index mask i)) fits in
    let same = sum-same (λ j. common words mask (64 * i + j)) (bit_at (bit_and (slice_index words i) (slice_index mask i))) 64 (λ j within. at j within) in
    ap (sum_to (common words mask)) split ∙ more ∙ (let e : sum_to (common words mask) (64 * i) + sum_to (λ j. common words mask (64 * i + j)) 64
    ≡ sum_to (common words mask) (64 * i) + ones (bit_and (slice_index words i) (slice_index mask i)) = ap (λ n. sum_to (common words mask) (64 * i) + n) (same ∙ sym here) in e)
  where
    at : (j : ℕ) → j < 64 → common words mask (64 * i + j) ≡ bit_at (bit_and (slice_index words i) (slice_index mask i)) j
    at j within =
        let word : (64 * i + j) / 64 ≡ i = omega arith in
        let place : (64 * i + j) % 64 ≡ j = omega arith in
        ap (λ n. min (bit_at (slice_index words n) ((64 * i + j) % 64)) (bit_at (slice_index mask n) ((64 * i + j) % 64))) word
        ∙ ap (λ n. min (bit_at (slice_index words i) n) (bit_at (slice_index mask i) n)) place
        ∙ sym (bit_at_and (slice_index words i) (slice_index mask i) j)

-- the sum ends where nothing more comes
sum-tail : (f : ℕ → ℕ) (n more : ℕ) → ((i : ℕ) → n ≤ i → f i ≡ 0) → sum_to f (n + more) ≡ sum_to f n
sum-tail f n zero none = ap (sum_to f) (let e : n + 0 ≡ n = omega arith in e)
sum-tail f n (suc more) none =
    let before = sum-tail f n more none in
    let here = none (n + more) (omega arith) in
    ap (sum_to f) (let e : n + suc more ≡ suc (n + more) = omega arith in e)
    ∙ (let e : sum_to f (n + more) + f (n + more) ≡ sum_to f n = omega (arith, before, here) in e)

pub sum-ends : (f : ℕ → ℕ) (n k : ℕ) → ((i : ℕ) → n ≤ i → f i ≡ 0) → ((i : ℕ) → k ≤ i → f i ≡ 0) → sum_to f n ≡ sum_to f k
sum-ends f n k past beyond =
    elim (cases_lt n k) [
      | inl less ↦ sym (sum-tail f n (k - n) past) ∙ ap (sum_to f) (let e : n + (k - n) ≡ k = omega (arith, less) in e)
      | inr least ↦ ap (sum_to f) (let e : n ≡ k + (n - k) = omega (arith, least) in e) ∙ sum-tail f k (n - k) beyond
    ]

-- past the end no bit is set
pub bit-past : (words : List ℕ) (k : ℕ) → 64 * length words ≤ k → bit_in words k ≡ 0
bit-past words k past = ap (λ word. bit_at word (k % 64)) (get_or_past words (k / 64) 0 (omega (arith, past))) ∙ bit_at-zero (k % 64)

pub bit-small : (words : List ℕ) (k : ℕ) → bit_in words k ≤ 1
bit-small words k = let less = bit_at-lt (slice_index words (k / 64)) (k % 64) in omega (arith, less)

-- a bit that is set, and the others
pub set-bit : (words : List ℕ) (place k : ℕ) → place < 64 * length words
    → bit_in (set words (place / 64) (bit_or (get_or words (place / 64) 0) (1 * 2 ^ (place % 64) % 2 ^ 64))) k ≡ (if k == place then 1 else bit_in words k)
set-bit words place k within =
    let word = bit_or (get_or words (place / 64) 0) (1 * 2 ^ (place % 64) % 2 ^ 64) in
    let inside : place / 64 < length words = omega (arith, within) in
    elim (cases_eq k place) [
      | inl same ↦
          let test : nat_eq k place ≡ true = grind (arith, nat_tests) in
          ap (bit_in (set words (place / 64) word)) same ∙ ap (λ w. bit_at w (place % 64)) (get_or-set_same words (place / 64) word 0 inside)
          ∙ bit_at_set_same w64 (get_or words (place / 64) 0) (place % 64) (omega arith) ∙ sym (ap (λ b. if b then 1 else bit_in words k) test)
      | inr apart ↦
          let test : nat_eq k place ≡ false = grind (arith, nat_tests) in
          elim (cases_eq (k / 64) (place / 64)) [
            | inl here ↦
                let bit : k % 64 ≡ place % 64 → ⊥ = λ same. apart (omega (arith, same, here)) in
                ap (λ n. bit_at (get_or (set words (place / 64) word) n 0) (k % 64)) here
                ∙ ap (λ w. bit_at w (k % 64)) (get_or-set_same words (place / 64) word 0 inside)
                ∙ bit_at_set_other w64 (get_or words (place / 64) 0) (place % 64) (omega arith) (k % 64) bit
                ∙ ap (λ n. bit_at (get_or words n 0) (k % 64)) (sym here) ∙ sym (ap (λ b. if b then 1 else bit_in words k) test)
            | inr elsewhere ↦
                ap (λ w. bit_at w (k % 64)) (get_or-set_other words (place / 64) (k / 64) word 0 elsewhere)
                ∙ sym (ap (λ b. if b then 1 else bit_in words k) test)
          ]
    ]

-- a bit that is cleared, and the others
pub clear-bit : (words : List ℕ) (place k was : ℕ) → place / 64 < length words → was ≡ get_or words (place / 64) 0
    → bit_in (set words (place / 64) (bit_and was (bit_not w64 (1 * 2 ^ (place % 64) % 2 ^ 64)))) k ≡ (if k == place then 0 else bit_in words k)
clear-bit words place k was inside read =
    let word = bit_and was (bit_not w64 (1 * 2 ^ (place % 64) % 2 ^ 64)) in
    elim (cases_eq k place) [
      | inl same ↦
          let test : nat_eq k place ≡ true = grind (arith, nat_tests) in
          ap (bit_in (set words (place / 64) word)) same ∙ ap (λ w. bit_at w (place % 64)) (get_or-set_same words (place / 64) word 0 inside)
          ∙ bit_at_clear_same w64 was (place % 64) (omega arith) ∙ sym (ap (λ b. if b then 0 else bit_in words k) test)
      | inr apart ↦
          let test : nat_eq k place ≡ false = grind (arith, nat_tests) in
          elim (cases_eq (k / 64) (place / 64)) [
            | inl here ↦
                let bit : k % 64 ≡ place % 64 → ⊥ = λ same. apart (omega (arith, same, here)) in
                ap (λ n. bit_at (get_or (set words (place / 64) word) n 0) (k % 64)) here
                ∙ ap (λ w. bit_at w (k % 64)) (get_or-set_same words (place / 64) word 0 inside)
                ∙ bit_at_clear_other w64 was (place % 64) (omega arith) (k % 64) (omega arith) bit ∙ ap (λ w. bit_at w (k % 64)) read
                ∙ ap (λ n. bit_at (get_or words n 0) (k % 64)) (sym here) ∙ sym (ap (λ b. if b then 0 else bit_in words k) test)
            | inr elsewhere ↦
                ap (λ w. bit_at w (k % 64)) (get_or-set_other words (place / 64) (k / 64) word 0 elsewhere)
                ∙ sym (ap (λ b. if b then 0 else bit_in words k) test)
          ]
    ]

-- a bit that is not set needs no clearing
pub clear-none : (words : List ℕ) (place k : ℕ) → bit_in words place ≡ 0 → bit_in words k ≡ (if k == place then 0 else bit_in words k)
clear-none words place k none =
    elim (cases_eq k place) [
      | inl same ↦
          let test : nat_eq k place ≡ true = grind (arith, nat_tests) in
          ap (bit_in words) same ∙ none ∙ sym (ap (λ b. if b then 0 else bit_in words k) test)
      | inr apart ↦ let test : nat_eq k place ≡ false = grind (arith, nat_tests) in sym (ap (λ b. if b then 0 else bit_in words k) test)
    ]

-- words without those at the end that have no bit
pub bit-used : (words : List ℕ) (count k : ℕ) → count ≤ length words → ((i : ℕ) → count ≤ i → get_or words i 0 ≡ 0) → bit_in (take count words) k ≡ bit_in words k
bit-used words count k within rest =
    ap (λ word. bit_at word (k % 64))
    (elim (cases_lt (k / 64) count) [
      | inl below ↦ get_or-take count words (k / 64) 0 below
      | inr past ↦ get_or_past (take count words) (k / 64) 0 (omega (arith, past, length-take count words)) ∙ sym (rest (k / 64) past)
    ])
