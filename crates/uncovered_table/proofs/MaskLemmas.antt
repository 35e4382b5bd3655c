-- What is common with a mask of digits, a bit for each parameter that has one; masks and words without these bits, by one parameter more.
use Rattle.std.proofs.Common.{◌≡◌, ℕ, zero, suc, ◌+◌, ◌-◌, ◌<◌, ◌≤◌, ◌||◌, Bool, true, false, List, [], ◌∷◌, ◌++◌, length, Option, Some, None, ◌∙◌, sym, ap, refl, arith, inl, inr}
use Rattle.std.specs.Prelude.{◌==◌, if◌then◌else◌, min}
use Rattle.std.specs.List.{list_any}
use Rattle.std.proofs.Math.Bool.{or-true, or-false, or_assoc}
use Rattle.std.proofs.lemmas.Bool.{cases_eq, cases_lt}
use Rattle.std.proofs.lemmas.Bool.Decides.{nat_tests}
use Rattle.definitions.specs.believed.Demand.{is_among}
use Rattle.uncovered_table.specs.Words.{bit_in, sum_to}
use Rattle.uncovered_table.specs.Masks.{AreAll, AreWithout, IsCleared, IsMask, begin_at, bit_for, hot, restricted}
use Rattle.uncovered_table.proofs.WordLemmas.{bit-small, sum-more, sum-same}

no_sum : (w : ℕ → ℕ) (n : ℕ) → sum_to (λ d. min (w d) 0) n ≡ 0
no_sum w zero = refl
no_sum w (suc n) = let before = no_sum w n in omega (arith, before)

-- before its place nothing is common, and behind it one bit
none_yet : (w : ℕ → ℕ) (e n : ℕ) → n ≤ e → sum_to (λ d. min (w d) (hot (Some e) d)) n ≡ 0
none_yet w e zero less = refl
none_yet w e (suc n) less =
    let before = none_yet w e n (omega arith) in
    let other : hot (Some e) n ≡ 0 = grind (arith, nat_tests) in
    omega (arith, before, other)

one_bit : (w : ℕ → ℕ) (e n : ℕ) → ((d : ℕ) → w d ≤ 1) → e < n → sum_to (λ d. min (w d) (hot (Some e) d)) n ≡ w e
one_bit w e zero small within = absurd (omega arith)
one_bit w e (suc n) small within =
    elim (cases_eq n e) [
      | inl here ↦
          let before = none_yet w e n (omega (arith, here)) in
          let own : hot (Some e) n ≡ 1 = grind (arith, nat_tests) in
          let most = small n in
          let same : w n ≡ w e = ap w here in
          omega (arith, before, own, most, same)
      | inr apart ↦
          let before = one_bit w e n small (omega (arith, apart)) in
          let other : hot (Some e) n ≡ 0 = grind (arith, nat_tests) in
          omega (arith, before, other)
    ]

-- the places of one parameter
pub hot-sum : (w : ℕ → ℕ) (o : Option ℕ) (n : ℕ) → ((d : ℕ) → w d ≤ 1) → ((d : ℕ) → o ≡ Some d → d < n) → sum_to (λ d. min (w d) (hot o d)) n ≡ bit_for o w
hot-sum w None n small within = no_sum w n
hot-sum w (Some e) n small within = one_bit w e n small (within e refl)

-- and of the first ones
pub mask-sum : (count : ℕ → ℕ) (digits : ℕ → Option ℕ) (mask bits : ℕ → ℕ) (params n : ℕ) → n ≤ params → IsMask count digits params mask
    → ((p d : ℕ) → digits p ≡ Some d → d < count p) → ((k : ℕ) → bits k ≤ 1)
    → sum_to (λ k. min (bits k) (mask k)) (begin_at count n) ≡ sum_to (λ p. bit_for (digits p) (λ d. bits (begin_at count p + d))) n
mask-sum count digits mask bits params zero within is below small = refl
mask-sum count digits mask bits params (suc n) within is below small =
    let more = sum-more (λ k. min (bits k) (mask k)) (begin_at count n) (count n) in
    let before = mask-sum count digits mask bits params n (omega (arith, within)) is below small in
    let same = sum-same (λ d. min (bits (begin_at count n + d)) (mask (begin_at count n + d))) (λ d. min (bits (begin_at count n + d)) (hot (digits n) d)) (count n)
    (λ d inside. ap (min (bits (begin_at count n + d))) (is.bits n d (omega (arith, within)) inside)) in
    let here = hot-sum (λ d. bits (begin_at count n + d)) (digits n) (count n) (λ d. small (begin_at count n + d)) (below n) in
    omega (arith, more, before, same, here)

-- the bits of a parameter come before those of the next ones
pub begins-rise : (count : ℕ → ℕ) (p q : ℕ) → p < q → begin_at count p + count p ≤ begin_at count q
begins-rise count p zero less = absurd (omega (arith, less))
begins-rise count p (suc q) less =
    elim (cases_eq p q) [
      | inl last ↦ let same = ap (λ r. begin_at count r + count r) last in omega (arith, same)
      | inr apart ↦ let before = begins-rise count p q (omega (arith, less, apart)) in omega (arith, before)
    ]

-- a bit belongs to one digit of one parameter
pub begins-apart : (count : ℕ → ℕ) (p q d e : ℕ) → d < count p → e < count q → begin_at count p + d ≡ begin_at count q + e → p ≡ q
begins-apart count p q d e below less same =
    elim (cases_eq p q) [
      | inl here ↦ here
      | inr apart ↦
          elim (cases_lt p q) [
            | inl before ↦ absurd (let rise = begins-rise count p q before in omega (arith, rise, below, same))
            | inr least ↦ absurd (let rise = begins-rise count q p (omega (arith, least, apart)) in omega (arith, rise, less, same))
          ]
    ]

any-more : (params : List ℕ) (p q : ℕ) → list_any (λ k. k == q) (params ++ p ∷ []) ≡ (list_any (λ k. k == q) params || (p == q))
any-more [] p q = or-false (p == q)
any-more (r ∷ params) p q = ap (λ b. (r == q) || b) (any-more params p q) ∙ sym (or_assoc (r == q) (list_any (λ k. k == q) params) (p == q))

-- the digits of one parameter more, where it has none and where it has one
no_hot : (b : Bool) (o : Option ℕ) (d : ℕ) → hot o d ≡ 0 → hot (if b then o else None) d ≡ 0
no_hot true o d none = none
no_hot false o d none = refl

restricted-none : (digits : ℕ → Option ℕ) (params : List ℕ) (p q e : ℕ) → digits p ≡ None
    → hot (restricted (params ++ p ∷ []) digits q) e ≡ hot (restricted params digits q) e
restricted-none digits params p q e none =
    elim (cases_eq q p) [
      | inl here ↦
          let off : hot (digits q) e ≡ 0 = ap (λ o. hot o e) (ap digits here ∙ none) in
          no_hot (is_among (params ++ p ∷ []) q) (digits q) e off ∙ sym (no_hot (is_among params q) (digits q) e off)
      | inr apart ↦
          let test : (p == q) ≡ false = grind (arith, nat_tests) in
          ap (λ b. hot (if b then digits q else None) e)
          (any-more params p q ∙ ap (λ b. is_among params q || b) test ∙ or-false (is_among params q))
    ]

restricted-some : (count : ℕ → ℕ) (digits : ℕ → Option ℕ) (params : List ℕ) (p x q e : ℕ) → digits p ≡ Some x → x < count p → e < count q
    → hot (restricted (params ++ p ∷ []) digits q) e
    ≡ (if begin_at count q + e == begin_at count p + x then 1 else hot (restricted params digits q) e)
restricted-some count digits params p x q e some below less =
    let listed = any-more params p q in
    elim (cases_eq q p) [
      | inl here ↦
          let first = ap (begin_at count) here in
          let test : (p == q) ≡ true = grind (arith, nat_tests) in
          let given : digits q ≡ Some x = ap digits here ∙ some in
          ap (λ b. hot (if b then digits q else None) e) (listed ∙ ap (λ b. is_among params q || b) test ∙ or-true (is_among params q))
          ∙ ap (λ o. hot o e) given
          ∙ elim (cases_eq x e) [
            | inl same ↦
                let on : hot (Some x) e ≡ 1 = grind (arith, nat_tests) in
                let place : (begin_at count q + e == begin_at count p + x) ≡ true = grind (arith, nat_tests, first) in
                on ∙ sym (ap (λ b. if b then 1 else hot (restricted params digits q) e) place)
            | inr apart ↦
                let off : hot (Some x) e ≡ 0 = grind (arith, nat_tests) in
                let place : (begin_at count q + e == begin_at count p + x) ≡ false = grind (arith, nat_tests, first) in
                off ∙ sym (ap (λ b. if b then 1 else hot (restricted params digits q) e) place
                ∙ no_hot (is_among params q) (digits q) e (ap (λ o. hot o e) given ∙ off))
          ]
      | inr apart ↦
          let test : (p == q) ≡ false = grind (arith, nat_tests) in
          let place : (begin_at count q + e == begin_at count p + x) ≡ false = elim (cases_eq (begin_at count q + e) (begin_at count p + x)) [
            | inl same ↦ absurd (apart (begins-apart count q p e x less below same))
            | inr differs ↦ grind (arith, nat_tests)
          ] in
          ap (λ b. hot (if b then digits q else None) e) (listed ∙ ap (λ b. is_among params q || b) test ∙ or-false (is_among params q))
          ∙ sym (ap (λ b. if b then 1 else hot (restricted params digits q) e) place)
    ]

-- the mask of no parameter, and of one more
pub mask-start : (count : ℕ → ℕ) (digits : ℕ → Option ℕ) (n : ℕ) (mask : ℕ → ℕ) → ((k : ℕ) → mask k ≡ 0) → IsMask count (restricted [] digits) n mask
mask-start count digits n mask none = record { bits = λ p d before below. none (begin_at count p + d); rest = λ k least. none k }

pub mask-none : (count : ℕ → ℕ) (digits : ℕ → Option ℕ) (n : ℕ) (mask : ℕ → ℕ) (params : List ℕ) (p : ℕ) → IsMask count (restricted params digits) n mask
    → digits p ≡ None → IsMask count (restricted (params ++ p ∷ []) digits) n mask
mask-none count digits n mask params p is none = record {
  bits = λ q d before below. is.bits q d before below ∙ sym (restricted-none digits params p q d none);
  rest = is.rest;
}

pub mask-some : (count : ℕ → ℕ) (digits : ℕ → Option ℕ) (n : ℕ) (mask next : ℕ → ℕ) (params : List ℕ) (p x : ℕ) → IsMask count (restricted params digits) n mask
    → p < n → digits p ≡ Some x → x < count p → ((k : ℕ) → next k ≡ (if k == begin_at count p + x then 1 else mask k))
    → IsMask count (restricted (params ++ p ∷ []) digits) n next
mask-some count digits n mask next params p x is within some inside made = record {
  bits =
      λ q d before below.
      made (begin_at count q + d) ∙ ap (λ k. if begin_at count q + d == begin_at count p + x then 1 else k) (is.bits q d before below)
      ∙ sym (restricted-some count digits params p x q d some inside below);
  rest =
      λ k least.
      let rise = begins-rise count p n within in
      let test : (k == begin_at count p + x) ≡ false = grind (arith, nat_tests, rise, least) in
      made k ∙ ap (λ b. if b then 1 else mask k) test ∙ is.rest k least;
}

-- words without the digits of no parameter, and of one more
pub cleared-start : (count : ℕ → ℕ) (digits : ℕ → Option ℕ) (old : List ℕ) → IsCleared count (restricted [] digits) old old
cleared-start count digits old = record {
  long = refl;
  bits = λ p d below. let small = bit-small old (begin_at count p + d) in omega (arith, small);
}

pub without-digit : (count : ℕ → ℕ) (digits : ℕ → Option ℕ) (p begin x : ℕ) (old new : List ℕ) → digits p ≡ Some x → begin ≡ begin_at count p
    → length new ≡ length old → ((k : ℕ) → bit_in new k ≡ (if k == begin + x then 0 else bit_in old k)) → AreWithout count digits p old new
without-digit count digits p begin x old new given at long each = record {
  long = long;
  none = λ none. absurd (let never : Some x ≡ None = sym given ∙ none in cc);
  some =
      λ d is k.
      let both : Some x ≡ Some d = sym given ∙ is in
      let same : x ≡ d = cc in
      let place : begin + x ≡ begin_at count p + d = omega (arith, at, same) in
      each k ∙ ap (λ n. if k == n then 0 else bit_in old k) place;
}

without_one : (b : Bool) (n h : ℕ) → (if b then 0 else min n (1 - h)) ≡ min n (1 - (if b then 1 else h))
without_one true n h = omega arith
without_one false n h = refl

pub cleared-more : (count : ℕ → ℕ) (digits : ℕ → Option ℕ) (params : List ℕ) (p : ℕ) (old now next : List ℕ) → ((d : ℕ) → digits p ≡ Some d → d < count p)
    → IsCleared count (restricted params digits) old now → AreWithout count digits p now next
    → IsCleared count (restricted (params ++ p ∷ []) digits) old next
cleared-more count digits params p old now next below is without = record {
  long = without.long ∙ is.long;
  bits = λ q d less. by_digit q d less (digits p) refl;
}
  where
    by_digit : (q d : ℕ) → d < count q → (o : Option ℕ) → digits p ≡ o
        → bit_in next (begin_at count q + d) ≡ min (bit_in old (begin_at count q + d)) (1 - hot (restricted (params ++ p ∷ []) digits q) d)
    by_digit q d less None given =
        without.none given (begin_at count q + d) ∙ is.bits q d less
        ∙ ap (λ h. min (bit_in old (begin_at count q + d)) (1 - h)) (sym (restricted-none digits params p q d given))
    by_digit q d less (Some x) given =
        let place = begin_at count q + d in
        without.some x given place ∙ ap (λ n. if place == begin_at count p + x then 0 else n) (is.bits q d less)
        ∙ without_one (place == begin_at count p + x) (bit_in old place) (hot (restricted params digits q) d)
        ∙ ap (λ h. min (bit_in old place) (1 - h)) (sym (restricted-some count digits params p x q d given (below x given) less))

pub all-start : (count : ℕ → ℕ) (mask : ℕ → ℕ) → ((k : ℕ) → mask k ≡ 0) → AreAll count [] mask
all-start count mask none = record { bits = λ p d below. none (begin_at count p + d) }

pub all-more : (count : ℕ → ℕ) (params : List ℕ) (mask next : ℕ → ℕ) (p : ℕ) → AreAll count params mask
    → ((k : ℕ) → begin_at count p ≤ k → k < begin_at count p + count p → next k ≡ 1)
    → ((k : ℕ) → (begin_at count p ≤ k → k < begin_at count p + count p → ⊥) → next k ≡ mask k) → AreAll count (params ++ p ∷ []) next
all-more count params mask next p are inside outside = record {
  bits =
      λ q d below.
      let listed = any-more params p q in
      elim (cases_eq p q) [
        | inl here ↦
            let first = ap (begin_at count) here in
            let long = ap count here in
            let test : (p == q) ≡ true = grind (arith, nat_tests) in
            inside (begin_at count q + d) (omega (arith, first)) (omega (arith, first, long, below))
            ∙ sym (ap (λ b. if b then 1 else 0) (listed ∙ ap (λ b. list_any (λ k. k == q) params || b) test ∙ or-true (list_any (λ k. k == q) params)))
        | inr apart ↦
            let test : (p == q) ≡ false = grind (arith, nat_tests) in
            outside (begin_at count q + d)
            (λ least less. apart (begins-apart count p q (begin_at count q + d - begin_at count p) d (omega (arith, least, less)) below (omega (arith, least))))
            ∙ are.bits q d below
            ∙ sym (ap (λ b. if b then 1 else 0) (listed ∙ ap (λ b. list_any (λ k. k == q) params || b) test ∙ or-false (list_any (λ k. k == q) params)))
      ];
}
