-- Rows that are looked up by the bits of words.
use Rattle.std.proofs.Common.{inl, inr, ◌≡◌, ℕ, zero, suc, ◌+◌, ◌*◌, ◌^◌, ◌-◌, ◌/◌, ◌%◌, ◌<◌, ◌≤◌, Bool, true, false, ◌&&◌, List, [], ◌∷◌, ◌++◌}
use Rattle.std.proofs.Common.{length, take, drop, length-drop, get_or, All, Option, Some, None, is_some, unwrap_or, eqb, bit_and, w64, refl, sym, ap, subst, ◌∙◌, arith, length-append}
use Rattle.std.specs.Int.{bit_at, trailing_zeros}
use Rattle.std.specs.List.{list_any}
use Rattle.std.specs.Prelude.{min, nat_lt, remove, slice_get}
use Rattle.std.proofs.lemmas.Bool.{cases_eq, cases_lt, false_from_ne_true, false≢true, le-ltb, lt-ltb, ne_eqb, or_from, or_left, or_right}
use Rattle.std.proofs.lemmas.Option.{slice_get-get_or, slice_get_within}
use Rattle.std.proofs.lemmas.List.{get_or_past, take_all}
use Rattle.std.proofs.lemmas.List.Elements.{All-get_or}
use Rattle.std.proofs.lemmas.List.Folds.{list_all-append}
use Rattle.std.proofs.lemmas.List.Sums.{AllPass-from_list_all}
use Rattle.std.proofs.lemmas.Nat.Bits.{bit_at-lt, bit_at-trailing_zeros, bit_at_and}
use Rattle.cov_model.specs.Fits.{FitsModel}
use Rattle.cov_model.specs.believed.Rows.{is_assigned, value_in}
use Rattle.cov_model.specs.believed.Sound.{ModelView, no_param, param_at}
use Rattle.definitions.specs.believed.Demand.{is_among}
use Rattle.definitions.proofs.Members.{any_member, of_among}
use Rattle.suspect_tuples.specs.Edges.{is_had}
use Rattle.suspect_tuples.specs.RowBits.{MarkHaving, MarksHaving, has_at}
use Rattle.suspect_tuples.specs.RowTables.{AreParamSets}
use Rattle.suspect_tuples.specs.believed.Suspects.{gives, has_tuple}
use Rattle.suspect_tuples.specs.ValueRows.{AreGiven, AreValueRows, KeepsHaving, KeepsPair, is_many, words_in}
use Rattle.suspect_tuples.specs.declared.value_rows.ValueRows.{ValueRows}
use Rattle.suspect_tuples.specs.declared.value_rows.ValueRows.TheVariants.{Few, Many}
use Rattle.bit_table.proofs.MarkLemmas.{unmarked_word}
use Rattle.suspect_tuples.proofs.RowSetLemmas.{has_here, has_none}
use Rattle.suspect_tuples.proofs.ValueRowLemmas.{each_pushed}

pub params_begin : (m : ModelView) (rows : List (List (Option ℕ))) → AreParamSets m rows 0 []
params_begin m rows = record { long = refl; each = λ p below. absurd (omega (arith, below)) }

pub params_more : (m : ModelView) (rows : List (List (Option ℕ))) (p : ℕ) (sets : List (List ValueRows)) (last : List ValueRows) → AreParamSets m rows p sets
    → AreValueRows rows p (length (param_at m.params p).values) last → AreParamSets m rows (p + 1) (sets ++ last ∷ [])
params_more m rows p sets last are lasts = record {
  long = length-append sets (last ∷ []) ∙ ap (λ n. n + 1) are.long;
  each = each_pushed (λ q set. AreValueRows rows q (length (param_at m.params q).values) set) sets last [] p are.long are.each lasts;
}

-- a value that a parameter of the model doesn't have is given by no row
gives_not : (m : ModelView) (row : List (Option ℕ)) (pair : ℕ × ℕ) → FitsModel m row → length (param_at m.params pair.0).values ≤ pair.1
    → gives row pair ≡ false
gives_not m row pair fits past = at (is_assigned row pair.0) refl
  where
    at : (b : Bool) → is_assigned row pair.0 ≡ b → (b && eqb (value_in row pair.0) pair.1) ≡ false
    at false given = refl
    at true given = ne_eqb (value_in row pair.0) pair.1 (λ same. omega (arith, same, fits.exist pair.0 given, past))

none_have : (m : ModelView) (rows : List (List (Option ℕ))) (pair : ℕ × ℕ) → All (λ row. FitsModel m row) rows
    → length (param_at m.params pair.0).values ≤ pair.1 → (at : ℕ) → has_at rows (pair ∷ []) at ≡ false
none_have m rows pair fits past at = elim (cases_lt at (length rows)) [
  | inl within ↦ has_here rows (pair ∷ []) at [] within ∙ ap (λ b. b && true) (gives_not m (get_or rows at []) pair (fits at [] within) past)
  | inr after ↦ has_none rows (pair ∷ []) at after
]

-- what is kept for a pair
kept_pair : (rows : List (List (Option ℕ))) (pair : ℕ × ℕ) (sets : List ValueRows) → ((other : ValueRows) → pair.1 < length sets
    → KeepsHaving rows (pair ∷ []) (get_or sets pair.1 other)) → (length sets ≤ pair.1 → (at : ℕ) → has_at rows (pair ∷ []) at ≡ false)
    → KeepsPair rows pair (slice_get sets pair.1)
kept_pair rows pair sets keeps none = by_kept (slice_get sets pair.1) refl
  where
    none_within : (xs : List ValueRows) (i : ℕ) → i < length xs → slice_get xs i ≡ None → ⊥
    none_within [] i within is = omega (arith, within)
    none_within (x ∷ xs) zero within is = false≢true (sym (ap is_some is))
    none_within (x ∷ xs) (suc i) within is = none_within xs i (omega (arith, within)) is

    in_range : pair.1 < length sets → slice_get sets pair.1 ≡ None → (at : ℕ) → has_at rows (pair ∷ []) at ≡ false
    in_range within is at = absurd (none_within sets pair.1 within is)

    by_kept : (kept : Option ValueRows) → slice_get sets pair.1 ≡ kept → KeepsPair rows pair kept
    by_kept (Some kept) is =
        let inside = slice_get_within sets pair.1 kept is in
        subst (KeepsHaving rows (pair ∷ [])) (ap (λ (o : Option ValueRows). unwrap_or o kept) (sym (slice_get-get_or sets pair.1 kept inside) ∙ is)) (keeps kept inside)
    by_kept None is = λ at. elim (cases_lt pair.1 (length sets)) [
      | inl within ↦ in_range within is at
      | inr past ↦ none past at
    ]

pub sets_given : (m : ModelView) (rows : List (List (Option ℕ))) (giving : List (List ValueRows)) → All (λ row. FitsModel m row) rows
    → AreParamSets m rows (length m.params) giving → AreGiven rows giving
sets_given m rows giving fits are pair = kept_pair rows pair (get_or giving pair.0 []) (λ other inside. elim (cases_lt pair.0 (length m.params)) [
  | inl exists ↦ (are.each pair.0 exists).each pair.1 other (omega (arith, inside, (are.each pair.0 exists).long))
  | inr beyond ↦ absurd (omega (arith, inside, ap length (get_or_past giving pair.0 [] (omega (arith, are.long, beyond)))))
]) (λ past. elim (cases_lt pair.0 (length m.params)) [
  | inl exists ↦ none_have m rows pair fits (omega (arith, past, (are.each pair.0 exists).long))
  | inr beyond ↦
      none_have m rows pair fits (omega (arith, ap (λ (param : _). length param.values) (get_or_past m.params pair.0 no_param beyond)))
])

-- each row has the empty tuple
pub all_have : (rows : List (List (Option ℕ))) (count at : ℕ) → count ≡ length rows → nat_lt at count ≡ has_at rows [] at
all_have rows count at is = elim (cases_lt at count) [
  | inl within ↦ lt-ltb at count within ∙ sym (has_here rows [] at [] (omega (arith, within, is)))
  | inr past ↦ le-ltb at count past ∙ sym (has_none rows [] at (omega (arith, past, is)))
]

-- the words of a pair that many rows have
pub many_marks : (rows : List (List (Option ℕ))) (pair : ℕ × ℕ) (kept : Option ValueRows) → KeepsPair rows pair kept → is_many kept ≡ true
    → MarkHaving rows (pair ∷ []) (words_in kept)
many_marks rows pair (Some (Many words)) keeps many = keeps
many_marks rows pair (Some (Few list)) keeps many = absurd (false≢true many)
many_marks rows pair None keeps many = absurd (false≢true many)

-- a row that has a tuple has each pair of it
pub member_has : (rows : List (List (Option ℕ))) (tuple : List (ℕ × ℕ)) (i at : ℕ) (d : ℕ × ℕ) → i < length tuple → has_at rows tuple at ≡ true
    → has_at rows (get_or tuple i d ∷ []) at ≡ true
member_has [] tuple i at d within has = absurd (false≢true has)
member_has (row ∷ rows) tuple i zero d within has =
    ap (λ b. b && true) (All-get_or (λ pair. gives row pair ≡ true) tuple i d within (AllPass-from_list_all (gives row) tuple has))
member_has (row ∷ rows) tuple i (suc at) d within has = member_has rows tuple i at d within has

-- the bits of a word of marks
pub word_marks : (rows : List (List (Option ℕ))) (tuple : List (ℕ × ℕ)) (words : List ℕ) (k : ℕ) → MarkHaving rows tuple words
    → MarksHaving rows tuple k (get_or words k 0)
word_marks rows tuple words k mark i small =
    let number : k ≡ (64 * k + i) / 64 = omega (arith, small) in
    let bit : i ≡ (64 * k + i) % 64 = omega (arith, small) in
    ap (λ n. eqb (bit_at (get_or words n 0) i) 1) number ∙ ap (λ b. eqb (bit_at (get_or words ((64 * k + i) / 64) 0) b) 1) bit ∙ mark (64 * k + i)

-- what two words both mark has both tuples
and_bits : (a b i : ℕ) → eqb (bit_at (bit_and a b) i) 1 ≡ (eqb (bit_at a i) 1 && eqb (bit_at b i) 1)
and_bits a b i = ap (λ bit. eqb bit 1) (bit_at_and a b i) ∙ both (bit_at a i) (bit_at b i) (bit_at-lt a i) (bit_at-lt b i)
  where
    both : (x y : ℕ) → x < 2 → y < 2 → eqb (min x y) 1 ≡ (eqb x 1 && eqb y 1)
    both x y small less = elim (cases_eq x 0) [
      | inl none ↦ elim (cases_eq y 0) [
        | inl zero_too ↦ rw (none, zero_too) refl
        | inr other ↦ let one : y ≡ 1 = omega (arith, other, less) in rw (none, one) refl
      ]
      | inr some ↦
          let first : x ≡ 1 = omega (arith, some, small) in
          elim (cases_eq y 0) [
            | inl none ↦ rw (first, none) refl
            | inr other ↦ let one : y ≡ 1 = omega (arith, other, less) in rw (first, one) refl
          ]
    ]

pub has_both_at : (rows : List (List (Option ℕ))) (first second : List (ℕ × ℕ)) (at : ℕ)
    → has_at rows (first ++ second) at ≡ (has_at rows first at && has_at rows second at)
has_both_at [] first second at = refl
has_both_at (row ∷ rows) first second zero = list_all-append (gives row) first second
has_both_at (row ∷ rows) first second (suc at) = has_both_at rows first second at

pub both_marked : (rows : List (List (Option ℕ))) (first second : List (ℕ × ℕ)) (k word other : ℕ) → MarksHaving rows first k word
    → MarksHaving rows second k other → MarksHaving rows (first ++ second) k (bit_and word other)
both_marked rows first second k word other marks others i small =
    and_bits word other i ∙ ap (λ b. b && eqb (bit_at other i) 1) (marks i small) ∙ ap (λ b. has_at rows first (64 * k + i) && b) (others i small)
    ∙ sym (has_both_at rows first second (64 * k + i))

-- a row that has the tuple is found by its mark
pub had_at : (rows : List (List (Option ℕ))) (tuple : List (ℕ × ℕ)) (at : ℕ) → has_at rows tuple at ≡ true → is_had rows tuple ≡ true
had_at [] tuple at has = absurd (false≢true has)
had_at (row ∷ rows) tuple zero has = or_left (has_tuple tuple row) (is_had rows tuple) has
had_at (row ∷ rows) tuple (suc at) has = or_right (has_tuple tuple row) (is_had rows tuple) (had_at rows tuple at has)

pub had_by_word : (rows : List (List (Option ℕ))) (tuple : List (ℕ × ℕ)) (k word : ℕ) → word < 2 ^ 64 → 0 < word → MarksHaving rows tuple k word
    → is_had rows tuple ≡ true
had_by_word rows tuple k word small some marks =
    let lowest = bit_at-trailing_zeros w64 word some small in
    had_at rows tuple (64 * k + trailing_zeros w64 word) (sym (marks (trailing_zeros w64 word) lowest.0) ∙ ap (λ b. eqb b 1) lowest.1)

-- and there is none if no word has a mark
abbrev pub NoneBefore : List (List (Option ℕ)) → List (ℕ × ℕ) → ℕ → Type 0
NoneBefore rows tuple k = (at : ℕ) → at < 64 * k → has_at rows tuple at ≡ false

pub none_more : (rows : List (List (Option ℕ))) (tuple : List (ℕ × ℕ)) (k word : ℕ) → word ≡ 0 → MarksHaving rows tuple k word → NoneBefore rows tuple k
    → NoneBefore rows tuple (k + 1)
none_more rows tuple k word none marks before at within = elim (cases_lt at (64 * k)) [
  | inl earlier ↦ before at earlier
  | inr later ↦
      let here : at ≡ 64 * k + (at - 64 * k) = omega (arith, later) in
      ap (has_at rows tuple) here ∙ sym (marks (at - 64 * k) (omega (arith, within, later))) ∙ unmarked_word word (at - 64 * k) none
]

pub none_had : (rows : List (List (Option ℕ))) (tuple : List (ℕ × ℕ)) → ((at : ℕ) → at < length rows → has_at rows tuple at ≡ false) → is_had rows tuple ≡ false
none_had [] tuple none = refl
none_had (row ∷ rows) tuple none =
    or_from (has_tuple tuple row) (is_had rows tuple) (none 0 (omega arith)) (none_had rows tuple (λ at within. none (suc at) (omega (arith, within))))

-- what stands before a place and behind it is all but the item there
pub without_one : {X : Type 0} (xs : List X) (i : ℕ) → take i xs ++ take (length xs - (i + 1)) (drop (i + 1) xs) ≡ remove xs i
without_one xs i =
    let next : i + 1 ≡ suc i = omega arith in
    ap (λ rest. take i xs ++ rest) (take_all (length xs - (i + 1)) (drop (i + 1) xs) (omega (arith, length-drop (i + 1) xs)))
    ∙ ap (λ n. take i xs ++ drop n xs) next

-- none of these rows has both tuples, and no other row can
pub none_among : (rows : List (List (Option ℕ))) (first second : List (ℕ × ℕ)) (numbers : List ℕ)
    → ((at : ℕ) → has_at rows (first ++ second) at ≡ true → is_among numbers at ≡ true)
    → list_any (λ n. has_at rows first n && has_at rows second n) numbers ≡ false → is_had rows (first ++ second) ≡ false
none_among rows first second numbers all none =
    none_had rows (first ++ second) (λ at within. false_from_ne_true (has_at rows (first ++ second) at) (λ has.
    false≢true (sym none ∙ any_member (λ n. has_at rows first n && has_at rows second n) numbers at (of_among numbers at (all at has))
    (sym (has_both_at rows first second at) ∙ has))))
