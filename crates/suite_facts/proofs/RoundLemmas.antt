-- Round numbers rise, and so do those below a number with the number itself.
use Rattle.std.proofs.Common.{◌≡◌, ℕ, ◌+◌, ◌<◌, ◌≤◌, Bool, true, List, [], ◌∷◌, ◌++◌, length, get_or, take, All, inl, inr, refl, ◌∙◌, sym, ap, subst, arith}
use Rattle.std.specs.Prelude.{AllPairs, nat_le, nat_lt, ◌&&◌}
use Rattle.std.specs.List.{filter}
use Rattle.std.proofs.lemmas.Bool.{and_parts, cases_lt, leb-true, ltb-true}
use Rattle.std.proofs.lemmas.List.{get_or_append_left, get_or_push, length_push, take_more}
use Rattle.std.proofs.lemmas.List.Elements.{All-cons, All-nil, All-push, All-weaker, filter-append, filter_passes}
use Rattle.std.proofs.lemmas.List.Kept.{AllPairs-cons, AllPairs-filter}
use Rattle.suite_facts.specs.believed.Facts.{round_counts, round_numbers}

-- each number is at least the one before
rises : ℕ → List ℕ → Bool
rises least [] = true
rises least (n ∷ numbers) = nat_le least n && rises n numbers

rises_far : (least : ℕ) (numbers : List ℕ) → rises least numbers ≡ true → All (λ n. least ≤ n) numbers × AllPairs (λ a b. a ≤ b) numbers
unfolding rises
rises_far least [] rising = (All-nil (λ n. least ≤ n), λ i j d before within. absurd (omega arith))
rises_far least (n ∷ numbers) rising =
    let parts = and_parts (nat_le least n) (rises n numbers) rising in
    let rest = rises_far n numbers parts.1 in
    let first : least ≤ n = leb-true least n parts.0 in (
      All-cons (λ k. least ≤ k) n numbers first (All-weaker (λ k. n ≤ k) (λ k. least ≤ k) (λ k above. omega (arith, first, above)) numbers rest.0),
      AllPairs-cons (λ a b. a ≤ b) n numbers rest.0 rest.1,
    )

-- one more at the end
pairs_push : (numbers : List ℕ) (last : ℕ) → All (λ n. n ≤ last) numbers → AllPairs (λ a b. a ≤ b) numbers → AllPairs (λ a b. a ≤ b) (numbers ++ last ∷ [])
pairs_push numbers last below pairs i j d before within =
    let long = length_push numbers last in
    let earlier : i < length numbers = omega (arith, before, within, long) in
    let low = get_or_append_left numbers (last ∷ []) d i earlier in
    elim (cases_lt j (length numbers)) [
      | inl inside ↦ rw (low, get_or_append_left numbers (last ∷ []) d j inside) (pairs i j d before inside)
      | inr past ↦ rw (low, get_or_push numbers last d j (omega (arith, past, within, long))) (below i d earlier)
    ]

below : (count : ℕ) → All (λ n. n ≤ count) (filter (λ n. nat_lt n count) round_numbers)
below count =
    All-weaker (λ n. nat_lt n count ≡ true) (λ n. n ≤ count) (λ n less. omega (arith, ltb-true n count less)) (filter (λ n. nat_lt n count) round_numbers)
    (filter_passes (λ n. nat_lt n count) round_numbers)

pub rounds_rise : (count : ℕ) (counts : List ℕ) → counts ≡ round_counts count → AllPairs (λ a b. a ≤ b) counts
unfolding rises
rounds_rise count counts are =
    subst (AllPairs (λ a b. a ≤ b)) (sym are)
    (pairs_push (filter (λ n. nat_lt n count) round_numbers) count (below count)
    (AllPairs-filter (λ a b. a ≤ b) (λ n. nat_lt n count) round_numbers (rises_far 0 round_numbers refl).1))

pub rounds_within : (count : ℕ) (counts : List ℕ) → counts ≡ round_counts count → All (λ n. n ≤ count) counts
rounds_within count counts are =
    subst (All (λ n. n ≤ count)) (sym are) (All-push (λ n. n ≤ count) (filter (λ n. nat_lt n count) round_numbers) count (below count) (omega arith))

-- one round number more
pub below_more : (count : ℕ) (numbers : List ℕ) (i : ℕ) → i < length numbers
    → filter (λ n. nat_lt n count) (take (i + 1) numbers) ≡ filter (λ n. nat_lt n count) (take i numbers) ++ filter (λ n. nat_lt n count) (get_or numbers i 0 ∷ [])
below_more count numbers i within =
    ap (filter (λ n. nat_lt n count)) (take_more numbers i 0 within) ∙ filter-append (λ n. nat_lt n count) (take i numbers) (get_or numbers i 0 ∷ [])
