-- Which of the names behind a program's name is the first that is missing or empty.
use Rattle.std.proofs.Common.{◌≡◌, ℕ, ◌+◌, ◌<◌, ◌≤◌, Bool, true, false, cond, if◌then◌else◌, List, [], length, get_or, take, nat_lt}
use Rattle.std.proofs.Common.{position, Option, Some, None, inl, inr, sym, ap, ap₂, ◌∙◌, arith}
use Rattle.std.specs.Prelude.{◌==◌, option_map}
use Rattle.std.specs.Option.{option_or}
use Rattle.std.proofs.lemmas.Bool.{cases_Bool, cases_lt, eqb-false, false≢true, le-ltb}
use Rattle.std.proofs.lemmas.List.{get_or-take, get_or_past, length-take, take_all}
use Rattle.std.proofs.lemmas.List.Sums.{position_or_len_is}
use Rattle.value_text.proofs.ListLemmas.{position_is}
use Rattle.definitions.specs.believed.Words.{missing_name}
use Rattle.tuple_index.proofs.ListingLemmas.{apart_test}

-- none passes, by all of them
pub placed_nowhere : {X : Type 0} (p : X → Bool) (xs : List X) (i : ℕ) (d : X) → length xs ≤ i
    → i ≤ length xs → ((k : ℕ) → k < i → p (get_or xs k d) ≡ false) → position p xs ≡ None
placed_nowhere p xs i d past within fails =
    ap (λ n. cond (nat_lt n (length xs)) (Some n) None) (position_or_len_is p xs i d within fails (λ inside. absurd (omega (arith, inside, past))))
    ∙ ap (λ b. cond b (Some i) None) (le-ltb i (length xs) past)

is_same : (n m : ℕ) → n ≡ m → (n == m) ≡ true
is_same n m same = elim (cases_Bool (n == m)) [
  | inl equal ↦ equal
  | inr differs ↦ absurd (eqb-false n m differs same)
]

abbrev is_empty : List ℕ → Bool
is_empty name = length name == 0

abbrev by_parts : ℕ → Option ℕ → Bool → Option ℕ
by_parts many place enough = option_or (option_map (λ i. i + 1) place) (if enough then None else Some (many + 1))

module _ (words : List (List ℕ)) where
  -- there are more words than the numbers of those that aren't empty
  reaches : (count : ℕ) → ((k : ℕ) → k < count → is_empty (get_or words k []) ≡ false) → count ≤ length words
  reaches count given = elim (cases_lt (length words) count) [
    | inl less ↦ absurd (false≢true (sym (given (length words) less) ∙ ap is_empty (get_or_past words (length words) [] (omega arith))))
    | inr enough ↦ enough
  ]

  pub none_missing : (count : ℕ) → ((k : ℕ) → k < count → is_empty (get_or words k []) ≡ false) → missing_name count words ≡ None
  none_missing count given =
      let enough = reaches count given in
      let taken : length (take count words) ≡ count = omega (arith, length-take count words, enough) in
      ap₂ (by_parts (length words))
      (placed_nowhere is_empty (take count words) count [] (omega (arith, taken)) (omega (arith, taken))
      (λ k before. ap is_empty (get_or-take count words k [] before) ∙ given k before))
      (is_same (length (take count words)) count taken)

  pub first_missing : (count place : ℕ) → place < count → ((k : ℕ) → k < place → is_empty (get_or words k []) ≡ false)
      → is_empty (get_or words place []) ≡ true → missing_name count words ≡ Some (place + 1)
  first_missing count place within given empty = elim (cases_lt place (length words)) [
    | inl inside ↦
        ap (λ found. by_parts (length words) found (length (take count words) == count))
        (position_is is_empty (take count words) place [] (omega (arith, length-take count words, within, inside))
        (λ k before. ap is_empty (get_or-take count words k [] (omega (arith, before, within))) ∙ given k before)
        (ap is_empty (get_or-take count words place [] within) ∙ empty))
    | inr past ↦
        let many : length words ≡ place = (let enough = reaches place given in omega (arith, enough, past)) in
        let all : take count words ≡ words = take_all count words (omega (arith, many, within)) in
        ap₂ (by_parts (length words))
        (ap (position is_empty) all
        ∙ placed_nowhere is_empty words place [] (omega (arith, many)) (omega (arith, many)) given)
        (ap (λ list. length list == count) all ∙ apart_test (length words) count (omega (arith, many, within)))
        ∙ ap (λ n. Some (n + 1)) many
  ]
