-- Open tuples as bits in blocks: what counting and closing make of them.
use Rattle.std.proofs.Common.{inl, inr, ◌≡◌, ℕ, zero, suc, ◌+◌, ◌-◌, ◌*◌, ◌<◌, ◌≤◌, Bool, true, false, ◌||◌, List, [], ◌∷◌, Option, Some}
use Rattle.std.proofs.Common.{None, All, length, get_or, sum_by, ◌∙◌, refl, sym, subst, ap, arith, zero-add}
use Rattle.std.specs.Prelude.{◌==◌, ◌&&◌, min, nat_lt, option_map, slice_set, take, if◌then◌else◌}
use Rattle.std.specs.Option.{option_map_or}
use Rattle.std.specs.List.{filter, last_or}
use Rattle.std.proofs.lemmas.Bool.{and_parts, cases_eq, cases_lt, eq-eqb, false≢true}
use Rattle.std.proofs.lemmas.Bool.Decides.{nat_tests}
use Rattle.std.proofs.lemmas.List.{get_or_past, get_or-set_same, get_or-set_other, length-set}
use Rattle.std.proofs.lemmas.List.Elements.{All-head, All-tail, All-weaker}
use Rattle.std.proofs.lemmas.List.Sums.{sum_by-cons}
use Rattle.std.proofs.Math.Bool.{and-true, or-true}
use Rattle.cov_model.specs.declared.slice.Slice.{Slice}
use Rattle.cov_model.specs.believed.Sound.{ModelView}
use Rattle.definitions.specs.believed.Completion.{column_order}
use Rattle.definitions.specs.believed.Demand.{demanded_sets, is_among}
use Rattle.tuple_index.specs.Kept.{IsKept}
use Rattle.tuple_index.specs.Places.{RisesFrom, ways}
use Rattle.tuple_index.specs.Plan.{plan_of}
use Rattle.uncovered_table.specs.Bits.{InPlay, all_cleared, bit_count, cleared, first_bit, held_bit, held_count, sets_in_play, tuple_count}
use Rattle.uncovered_table.specs.Digits.{AreDigits, joined, number_of, own_values, with_digit}
use Rattle.uncovered_table.specs.Masks.{IsCleared, IsMask, begin_at, bit_for, hot, restricted}
use Rattle.uncovered_table.specs.Pairs.{ArePairs, IsBlockPair, IsPair, IsPartner, Matched, digit_count, pair_bit}
use Rattle.uncovered_table.specs.Places.{ends_with_column, set_at}
use Rattle.uncovered_table.specs.Words.{bit_in, common, sum_to}
use Rattle.uncovered_table.proofs.BitLemmas.{bits_before}
use Rattle.uncovered_table.proofs.DigitLemmas.{digit_test, is_number, joins, number_below, with_digits}
use Rattle.uncovered_table.proofs.GainLemmas.{all_in_play, among_passing, in_play_with, number_within}
use Rattle.uncovered_table.proofs.ValueLemmas.{member_none}
use Rattle.uncovered_table.proofs.WordLemmas.{bit-past, bit-small, sum-ends, sum-first, sum-same}
use Rattle.uncovered_table.proofs.MaskLemmas.{mask-sum}

-- digits that agree on the members make the same number
pub same_members : (values : ℕ → List ℕ) (f g : ℕ → Option ℕ) (set : List ℕ) → ((p : ℕ) → is_among set p ≡ true → f p ≡ g p)
    → number_of values f set ≡ number_of values g set
same_members values f g [] same = refl
same_members values f g (p ∷ set) same =
    let here : is_among (p ∷ set) p ≡ true = ap (λ b. b || is_among set p) (eq-eqb p p refl) in
    ap (λ o. joined o (ways values set) (number_of values f set)) (same p here)
    ∙ ap (joined (g p) (ways values set))
    (same_members values f g set (λ q among. same q (ap (λ b. (p == q) || b) among ∙ or-true (p == q))))

-- digits that make the same number agree on the members
pub same_digits : (values : ℕ → List ℕ) (f g : ℕ → Option ℕ) (set : List ℕ) (n : ℕ) → AreDigits values f → AreDigits values g
    → number_of values f set ≡ Some n → number_of values g set ≡ Some n → (p : ℕ) → is_among set p ≡ true → f p ≡ g p
same_digits values f g [] n below under first second p among = absurd (false≢true among)
same_digits values f g (q ∷ set) n below under first second p among =
    let w = ways values set in
    let a = joins (f q) w (number_of values f set) n first in
    let b = joins (g q) w (number_of values g set) n second in
    let a_less = number_below values f set a.rest below a.later in
    let b_less = number_below values g set b.rest under b.later in
    let equal = eq-eqb (a.digit * w + a.rest) (b.digit * w + b.rest) (sym a.sum ∙ b.sum) in
    let both = and_parts (a.digit == b.digit) (a.rest == b.rest) (sym (digit_test a.digit b.digit w a.rest b.rest a_less b_less) ∙ equal) in
    let digit : a.digit ≡ b.digit = (let test = both.0 in grind (arith, nat_tests)) in
    let rest : a.rest ≡ b.rest = (let test = both.1 in grind (arith, nat_tests)) in
    elim (cases_eq q p) [
      | inl here ↦ ap f (sym here) ∙ a.first ∙ ap Some digit ∙ sym b.first ∙ ap g here
      | inr apart ↦
          let test : (q == p) ≡ false = grind (arith, nat_tests) in
          same_digits values f g set a.rest below under a.later (b.later ∙ ap Some (sym rest)) p
          (subst (λ b. (b || is_among set p) ≡ true) test among)
    ]

-- the number behind a bit
record HeldAt (m : ModelView) (slice : Slice) (digits : ℕ → Option ℕ) (set bit : ℕ) : Type 0 where
  number : ℕ
  is : number_of (own_values m slice) digits (set_at m set) ≡ Some number
  at : first_bit m slice set + number ≡ bit

held_at : (m : ModelView) (slice : Slice) (digits : ℕ → Option ℕ) (set bit : ℕ) → held_bit m slice digits set ≡ Some bit → HeldAt m slice digits set bit
held_at m slice digits set bit = by_number (number_of (own_values m slice) digits (set_at m set)) refl
  where
    by_number : (o : Option ℕ) → number_of (own_values m slice) digits (set_at m set) ≡ o → option_map (λ n. first_bit m slice set + n) o ≡ Some bit
        → HeldAt m slice digits set bit
    by_number None is held = absurd (cc)
    by_number (Some n) is held = let same : first_bit m slice set + n ≡ bit = cc in record { number = n; is = is; at = same }

-- a bit is that of one set, and of one number there
pub record Meets (m : ModelView) (slice : Slice) (f g : ℕ → Option ℕ) (other set : ℕ) : Type 0 where
  pub same : other ≡ set
  pub digits : (p : ℕ) → is_among (set_at m set) p ≡ true → f p ≡ g p

pub meets : (m : ModelView) (slice : Slice) (f g : ℕ → Option ℕ) (c d other set bit : ℕ) → IsKept (plan_of m) → AreDigits (own_values m slice) f
    → AreDigits (own_values m slice) g → InPlay m slice c other → InPlay m slice d set → held_bit m slice f other ≡ Some bit
    → held_bit m slice g set ≡ Some bit → Meets m slice f g other set
meets m slice f g c d other set bit kept below under there here first second =
    let a = held_at m slice f other bit first in
    let b = held_at m slice g set bit second in
    let a_less = number_within m slice f other a.number kept there.exists there.some below a.is in
    let b_less = number_within m slice g set b.number kept here.exists here.some under b.is in
    let same : other ≡ set =
    elim (cases_lt other set) [
      | inl less ↦ absurd (omega (arith, a.at, b.at, a_less, b_less, bits_before m slice other set less))
      | inr least ↦
          elim (cases_lt set other) [
            | inl more ↦ absurd (omega (arith, a.at, b.at, a_less, b_less, bits_before m slice set other more))
            | inr most ↦ omega (arith, least, most)
          ]
    ] in
    let number : a.number ≡ b.number = (let start = ap (first_bit m slice) same in omega (arith, a.at, b.at, start)) in
    record {
      same = same;
      digits =
          same_digits (own_values m slice) f g (set_at m set) b.number below under
          (ap (λ s. number_of (own_values m slice) f (set_at m s)) (sym same) ∙ a.is ∙ ap Some number) b.is;
    }

-- a set is in play for one column
pub one_column : (m : ModelView) (slice : Slice) (c d set : ℕ) → InPlay m slice c set → InPlay m slice d set → c ≡ d
one_column m slice c d set first second = by_last (last_or None (filter (is_among (set_at m set)) (column_order m slice))) first.ends second.ends
  where
    by_last : (o : Option ℕ) → option_map_or (λ q. q == c) o false ≡ true → option_map_or (λ q. q == d) o false ≡ true → c ≡ d
    by_last None a b = absurd (false≢true a)
    by_last (Some q) a b = grind (arith, nat_tests)

-- clearing some bits leaves the others
cleared_else : (o : Option ℕ) (bits : List Bool) (k : ℕ) → is_number o k ≡ false → get_or (cleared o bits) k false ≡ get_or bits k false
cleared_else None bits k other = refl
cleared_else (Some bit) bits k other = get_or-set_other bits bit k false false (λ same. false≢true (sym other ∙ eq-eqb bit k (sym same)))

all_cleared_else : (m : ModelView) (slice : Slice) (f : ℕ → Option ℕ) (bits : List Bool) (sets : List ℕ) (k : ℕ)
    → All (λ set. is_number (held_bit m slice f set) k ≡ false) sets → get_or (all_cleared m slice f bits sets) k false ≡ get_or bits k false
all_cleared_else m slice f bits [] k others = refl
all_cleared_else m slice f bits (set ∷ sets) k others =
    all_cleared_else m slice f (cleared (held_bit m slice f set) bits) sets k (All-tail (λ s. is_number (held_bit m slice f s) k ≡ false) set sets others)
    ∙ cleared_else (held_bit m slice f set) bits k (All-head (λ s. is_number (held_bit m slice f s) k ≡ false) set sets others)

gone_at : (bits : List Bool) (k : ℕ) → get_or (slice_set bits k false) k false ≡ false
gone_at bits k =
    elim (cases_lt k (length bits)) [
      | inl within ↦ get_or-set_same bits k false false within
      | inr past ↦ get_or_past (slice_set bits k false) k false (omega (arith, past, length-set bits k false))
    ]

pub cleared_stays : (o : Option ℕ) (bits : List Bool) (k : ℕ) → get_or bits k false ≡ false → get_or (cleared o bits) k false ≡ false
cleared_stays None bits k none = none
cleared_stays (Some bit) bits k none =
    elim (cases_eq k bit) [
      | inl same ↦ ap (λ i. get_or (slice_set bits bit false) i false) same ∙ gone_at bits bit
      | inr apart ↦ get_or-set_other bits bit k false false apart ∙ none
    ]

all_cleared_stays : (m : ModelView) (slice : Slice) (f : ℕ → Option ℕ) (bits : List Bool) (sets : List ℕ) (k : ℕ) → get_or bits k false ≡ false
    → get_or (all_cleared m slice f bits sets) k false ≡ false
all_cleared_stays m slice f bits [] k none = none
all_cleared_stays m slice f bits (set ∷ sets) k none =
    all_cleared_stays m slice f (cleared (held_bit m slice f set) bits) sets k (cleared_stays (held_bit m slice f set) bits k none)

all_cleared_own : (m : ModelView) (slice : Slice) (f : ℕ → Option ℕ) (bits : List Bool) (sets : List ℕ) (set k : ℕ) → is_among sets set ≡ true
    → held_bit m slice f set ≡ Some k → get_or (all_cleared m slice f bits sets) k false ≡ false
all_cleared_own m slice f bits [] set k among is = absurd (false≢true among)
all_cleared_own m slice f bits (s ∷ sets) set k among is =
    elim (cases_eq s set) [
      | inl here ↦
          all_cleared_stays m slice f (cleared (held_bit m slice f s) bits) sets k
          (ap (λ o. get_or (cleared o bits) k false) (ap (held_bit m slice f) here ∙ is) ∙ gone_at bits k)
      | inr apart ↦
          let test : (s == set) ≡ false = grind (arith, nat_tests) in
          all_cleared_own m slice f (cleared (held_bit m slice f s) bits) sets set k (subst (λ b. (b || is_among sets set) ≡ true) test among) is
    ]

-- the counts of other bits stay, and that of a bit that is cleared is 0
held_kept : (m : ModelView) (slice : Slice) (g : ℕ → Option ℕ) (set : ℕ) (bits next : List Bool)
    → ((k : ℕ) → held_bit m slice g set ≡ Some k → get_or next k false ≡ get_or bits k false) → held_count m slice next g set ≡ held_count m slice bits g set
held_kept m slice g set bits next = by_bit (held_bit m slice g set)
  where
    by_bit : (o : Option ℕ) → ((k : ℕ) → o ≡ Some k → get_or next k false ≡ get_or bits k false) → bit_count next o ≡ bit_count bits o
    by_bit None same = refl
    by_bit (Some k) same = ap (λ b. if b then 1 else 0) (same k refl)

held_gone : (m : ModelView) (slice : Slice) (g : ℕ → Option ℕ) (set : ℕ) (next : List Bool)
    → ((k : ℕ) → held_bit m slice g set ≡ Some k → get_or next k false ≡ false) → held_count m slice next g set ≡ 0
held_gone m slice g set next = by_bit (held_bit m slice g set)
  where
    by_bit : (o : Option ℕ) → ((k : ℕ) → o ≡ Some k → get_or next k false ≡ false) → bit_count next o ≡ 0
    by_bit None none = refl
    by_bit (Some k) none = ap (λ b. if b then 1 else 0) (none k refl)

-- closing a row leaves the count of a set where the row has other digits
row_kept : (m : ModelView) (slice : Slice) (f g : ℕ → Option ℕ) (c d set : ℕ) (bits : List Bool) → IsKept (plan_of m) → AreDigits (own_values m slice) f
    → AreDigits (own_values m slice) g → InPlay m slice d set → ((other : ℕ) → InPlay m slice c other → Meets m slice f g other set → ⊥)
    → held_count m slice (all_cleared m slice f bits (sets_in_play m slice c)) g set ≡ held_count m slice bits g set
row_kept m slice f g c d set bits kept below under here apart =
    held_kept m slice g set bits (all_cleared m slice f bits (sets_in_play m slice c))
    (λ k is. all_cleared_else m slice f bits (sets_in_play m slice c) k
    (All-weaker (InPlay m slice c) (λ other. is_number (held_bit m slice f other) k ≡ false)
    (λ other there. by_bit other there k is (held_bit m slice f other) refl) (sets_in_play m slice c) (all_in_play m slice c)))
  where
    by_bit : (other : ℕ) → InPlay m slice c other → (k : ℕ) → held_bit m slice g set ≡ Some k → (o : Option ℕ) → held_bit m slice f other ≡ o
        → is_number o k ≡ false
    by_bit other there k is None held = refl
    by_bit other there k is (Some b) held =
        elim (cases_eq b k) [
          | inl same ↦ absurd (apart other there (meets m slice f g c d other set k kept below under there here (held ∙ ap Some same) is))
          | inr differs ↦ grind (arith, nat_tests)
        ]

-- items that match keep doing so
pub matched-weaker : (R S : ℕ → ℕ → Type 0) → ((x y : ℕ) → R x y → S x y) → (xs ys : List ℕ) → Matched R xs ys → Matched S xs ys
matched-weaker R S weaker [] [] all = tt
matched-weaker R S weaker [] (y ∷ ys) all = absurd all
matched-weaker R S weaker (x ∷ xs) [] all = absurd all
matched-weaker R S weaker (x ∷ xs) (y ∷ ys) all = (weaker x y all.0, matched-weaker R S weaker xs ys all.1)

pub matched-long : (R : ℕ → ℕ → Type 0) (xs ys : List ℕ) → Matched R xs ys → length xs ≡ length ys
matched-long R [] [] all = refl
matched-long R [] (y ∷ ys) all = absurd all
matched-long R (x ∷ xs) [] all = absurd all
matched-long R (x ∷ xs) (y ∷ ys) all = ap suc (matched-long R xs ys all.1)

pub matched-at : (R : ℕ → ℕ → Type 0) (xs ys : List ℕ) (k : ℕ) → Matched R xs ys → k < length xs → R (get_or xs k 0) (get_or ys k 0)
matched-at R [] ys k all within = absurd (omega (arith, within))
matched-at R (x ∷ xs) [] k all within = absurd all
matched-at R (x ∷ xs) (y ∷ ys) zero all within = all.0
matched-at R (x ∷ xs) (y ∷ ys) (suc k) all within = matched-at R xs ys k all.1 (omega (arith, within))

-- what is known of each item of the second list
pub matched-listed : (R : ℕ → ℕ → Type 0) (P : ℕ → Type 0) (xs ys : List ℕ) → Matched R xs ys → ((y : ℕ) → is_among ys y ≡ true → P y)
    → Matched (λ x y. R x y × P y) xs ys
matched-listed R P [] [] all each = tt
matched-listed R P [] (y ∷ ys) all each = absurd all
matched-listed R P (x ∷ xs) [] all each = absurd all
matched-listed R P (x ∷ xs) (y ∷ ys) all each = (
  (all.0, each y (ap (λ b. b || is_among ys y) (eq-eqb y y refl))),
  matched-listed R P xs ys all.1 (λ z among. each z (ap (λ b. (y == z) || b) among ∙ or-true (y == z))),
)

-- a row that is closed in another column
pub pairs-elsewhere : (m : ModelView) (slice : Slice) (f : ℕ → Option ℕ) (c column : ℕ) (bits : List Bool) (sets partners : List ℕ) (blocks : List (List ℕ))
    → IsKept (plan_of m) → AreDigits (own_values m slice) f → (c ≡ column → ⊥) → ArePairs m slice column bits sets partners blocks
    → ArePairs m slice column (all_cleared m slice f bits (sets_in_play m slice c)) sets partners blocks
pairs-elsewhere m slice f c column bits sets partners blocks kept below apart are = record {
  rise = are.rise;
  pairs =
      matched-weaker (IsPair m slice column bits blocks) (IsPair m slice column (all_cleared m slice f bits (sets_in_play m slice c)) blocks)
      (λ set p is. record {
        partner = is.partner;
        held =
            λ d e g under first second.
            is.held d e g under first second
            ∙ sym (row_kept m slice f g c column set bits kept below under is.partner.plays
            (λ other there meet. apart (one_column m slice c column set (subst (InPlay m slice c) meet.same there) is.partner.plays)));
      })
      sets partners are.pairs;
  enough = are.enough;
  short = are.short;
  fits = are.fits;
}

-- a tuple of a set that is in play for another column, or for none
pub pairs-single : (m : ModelView) (slice : Slice) (column closed bit : ℕ) (bits : List Bool) (sets partners : List ℕ) (blocks : List (List ℕ))
    → IsKept (plan_of m) → first_bit m slice closed ≤ bit → bit < first_bit m slice closed + tuple_count m slice closed
    → (InPlay m slice column closed → ⊥) → ArePairs m slice column bits sets partners blocks
    → ArePairs m slice column (slice_set bits bit false) sets partners blocks
pairs-single m slice column closed bit bits sets partners blocks kept first last out are = record {
  rise = are.rise;
  pairs =
      matched-weaker (IsPair m slice column bits blocks) (IsPair m slice column (slice_set bits bit false) blocks)
      (λ set p is. record {
        partner = is.partner;
        held =
            λ d e g under one two.
            is.held d e g under one two
            ∙ sym (held_kept m slice g set bits (slice_set bits bit false)
            (λ k held. get_or-set_other bits bit k false false (λ same. out (within set is.partner.plays g under k held same))));
      })
      sets partners are.pairs;
  enough = are.enough;
  short = are.short;
  fits = are.fits;
}
  where
    within : (set : ℕ) → InPlay m slice column set → (g : ℕ → Option ℕ) → AreDigits (own_values m slice) g → (k : ℕ) → held_bit m slice g set ≡ Some k → k ≡ bit
        → InPlay m slice column closed
    within set here g under k held same =
        let a = held_at m slice g set k held in
        let less = number_within m slice g set a.number kept here.exists here.some under a.is in
        elim (cases_lt set closed) [
          | inl before ↦ absurd (omega (arith, a.at, less, same, first, bits_before m slice set closed before))
          | inr least ↦
              elim (cases_lt closed set) [
                | inl after ↦ absurd (omega (arith, a.at, same, last, bits_before m slice closed set after))
                | inr most ↦ subst (InPlay m slice column) (let e : set ≡ closed = omega (arith, least, most) in e) here
              ]
        ]

-- what a closed row leaves of the blocks
pub record AreCleared (count : ℕ → ℕ) (digits : ℕ → Option ℕ) (blocks next : List (List ℕ)) (d : ℕ) : Type 0 where
  pub many : length next ≡ length blocks
  pub others : (k : ℕ) → (k ≡ d → ⊥) → get_or next k [] ≡ get_or blocks k []
  pub own : IsCleared count digits (get_or blocks d []) (get_or next d [])

pub other_digit : (digits : ℕ → Option ℕ) (column d p : ℕ) → (p ≡ column → ⊥) → with_digit digits column d p ≡ digits p
other_digit digits column d p apart =
    let test : (p == column) ≡ false = grind (arith, nat_tests) in
    ap (λ b. if b then Some d else digits p) test

pub own_column : (digits : ℕ → Option ℕ) (column d : ℕ) → with_digit digits column d column ≡ Some d
own_column digits column d = ap (λ b. if b then Some d else digits column) (eq-eqb column column refl)

in_play_among : (m : ModelView) (slice : Slice) (column set : ℕ) → InPlay m slice column set → is_among (sets_in_play m slice column) set ≡ true
in_play_among m slice column set play =
    let some = play.some in
    let test : nat_lt 0 (tuple_count m slice set) ≡ true = grind (arith, nat_tests) in
    among_passing (in_play_with m slice column) (length (demanded_sets m)) set play.exists
    ∙ ap (λ b. ends_with_column m slice column (set_at m set) && b) test
    ∙ and-true (ends_with_column m slice column (set_at m set)) ∙ play.ends

-- a row that is closed in the column itself
pub pairs-closed : (m : ModelView) (slice : Slice) (column d : ℕ) (digits : ℕ → Option ℕ) (bits : List Bool) (partners : List ℕ)
    (blocks next : List (List ℕ)) → IsKept (plan_of m) → AreDigits (own_values m slice) digits → d < digit_count m slice column
    → AreCleared (digit_count m slice) (restricted partners digits) blocks next d
    → ArePairs m slice column bits (sets_in_play m slice column) partners blocks
    → ArePairs m slice column (all_cleared m slice (with_digit digits column d) bits (sets_in_play m slice column)) (sets_in_play m slice column) partners next
pairs-closed m slice column d digits bits partners blocks next kept below within made are = record {
  rise = are.rise;
  pairs =
      matched-weaker (λ set p. IsPair m slice column bits blocks set p × (is_among partners p ≡ true))
      (IsPair m slice column (all_cleared m slice (with_digit digits column d) bits (sets_in_play m slice column)) next)
      (λ set p known. record {
        partner = known.0.partner;
        held = λ k e g under first second. by_digit set p known.0 known.1 k e g under first second (digits p) refl;
      })
      (sets_in_play m slice column) partners
      (matched-listed (IsPair m slice column bits blocks) (λ p. is_among partners p ≡ true) (sets_in_play m slice column) partners are.pairs (λ p among. among));
  enough = made.many ∙ are.enough;
  short =
      λ k.
      elim (cases_eq k d) [
        | inl same ↦
            subst (λ n. n ≤ 128) (sym (ap (λ i. length (get_or next i [])) same ∙ made.own.long ∙ ap (λ i. length (get_or blocks i [])) (sym same))) (are.short k)
        | inr apart ↦ subst (λ n. n ≤ 128) (sym (ap length (made.others k apart))) (are.short k)
      ];
  fits = are.fits;
}
  where
    own : (set p : ℕ) → IsPartner m slice column set p → (k e : ℕ) (g : ℕ → Option ℕ) → g column ≡ Some k → g p ≡ Some e → k ≡ d → digits p ≡ Some e
        → held_bit m slice (with_digit digits column d) set ≡ held_bit m slice g set
    own set p partner k e g first second same is =
        ap (option_map (λ n. first_bit m slice set + n))
        (same_members (own_values m slice) (with_digit digits column d) g (set_at m set)
        (λ q among.
        elim (cases_eq q column) [
          | inl here ↦ ap (with_digit digits column d) here ∙ own_column digits column d ∙ ap Some (sym same) ∙ sym first ∙ ap g (sym here)
          | inr apart ↦
              elim (cases_eq q p) [
                | inl here ↦
                    ap (with_digit digits column d) here ∙ other_digit digits column d p partner.apart ∙ is ∙ sym second ∙ ap g (sym here)
                | inr differs ↦
                    let a : (q == column) ≡ false = grind (arith, nat_tests) in
                    let b : (q == p) ≡ false = grind (arith, nat_tests) in
                    absurd (false≢true (sym (sym among ∙ partner.members q ∙ ap (λ x. x || (q == p)) a ∙ b)))
              ]
        ]))

    unmarked : (set p : ℕ) → IsPair m slice column bits blocks set p → (k e : ℕ) (g : ℕ → Option ℕ) → AreDigits (own_values m slice) g → g column ≡ Some k
        → g p ≡ Some e → (k ≡ d → digits p ≡ Some e → ⊥) → pair_bit m slice next k p e ≡ pair_bit m slice blocks k p e
        → pair_bit m slice next k p e ≡ held_count m slice (all_cleared m slice (with_digit digits column d) bits (sets_in_play m slice column)) g set
    unmarked set p is k e g under first second differs stays =
        let f = with_digit digits column d in
        let partner = is.partner in
        stays ∙ is.held k e g under first second
        ∙ sym (row_kept m slice f g column column set bits kept (with_digits (own_values m slice) digits column d below within) under partner.plays
        (λ other there meet.
        let first_same : Some d ≡ Some k =
        sym (own_column digits column d) ∙ meet.digits column (partner.members column ∙ ap (λ b. b || (column == p)) (eq-eqb column column refl)) ∙ first in
        let second_same = sym (other_digit digits column d p partner.apart)
        ∙ meet.digits p (partner.members p ∙ ap (λ b. (p == column) || b) (eq-eqb p p refl) ∙ or-true (p == column)) ∙ second in
        differs (cc) second_same))

    by_digit : (set p : ℕ) → IsPair m slice column bits blocks set p → is_among partners p ≡ true → (k e : ℕ) (g : ℕ → Option ℕ)
        → AreDigits (own_values m slice) g → g column ≡ Some k → g p ≡ Some e → (o : Option ℕ) → digits p ≡ o
        → pair_bit m slice next k p e ≡ held_count m slice (all_cleared m slice (with_digit digits column d) bits (sets_in_play m slice column)) g set
    by_digit set p is among k e g under first second o given =
        let place = begin_at (digit_count m slice) p + e in
        elim (cases_eq k d) [
          | inr apart ↦
              unmarked set p is k e g under first second (λ same x. apart same) (ap (λ block. bit_in block place) (made.others k apart))
          | inl same ↦
              let masks : pair_bit m slice next k p e ≡ min (pair_bit m slice blocks k p e) (1 - hot o e) =
              ap (λ i. bit_in (get_or next i []) place) same ∙ made.own.bits p e (under p e second)
              ∙ ap (λ i. min (bit_in (get_or blocks i []) place) (1 - hot (restricted partners digits p) e)) (sym same)
              ∙ ap (λ b. min (pair_bit m slice blocks k p e) (1 - hot (if b then digits p else None) e)) among
              ∙ ap (λ x. min (pair_bit m slice blocks k p e) (1 - hot x e)) given in
              at o given masks same (bit-small (get_or blocks k []) place)
        ]
      where
        at : (o : Option ℕ) → digits p ≡ o → pair_bit m slice next k p e ≡ min (pair_bit m slice blocks k p e) (1 - hot o e) → k ≡ d
            → pair_bit m slice blocks k p e ≤ 1
            → pair_bit m slice next k p e ≡ held_count m slice (all_cleared m slice (with_digit digits column d) bits (sets_in_play m slice column)) g set
        at None given masks same small =
            unmarked set p is k e g under first second (λ x some. absurd (let never : None ≡ Some e = sym given ∙ some in cc)) (omega (arith, masks, small))
        at (Some v) given masks same small =
            elim (cases_eq v e) [
              | inl here ↦
                  let on : hot (Some v) e ≡ 1 = grind (arith, nat_tests) in
                  let gone : pair_bit m slice next k p e ≡ 0 = omega (arith, masks, on) in
                  let f = with_digit digits column d in
                  gone
                  ∙ sym (held_gone m slice g set (all_cleared m slice f bits (sets_in_play m slice column))
                  (λ b held. all_cleared_own m slice f bits (sets_in_play m slice column) set b (in_play_among m slice column set is.partner.plays)
                  (own set p is.partner k e g first second same (given ∙ ap Some here) ∙ held)))
              | inr apart ↦
                  let off : hot (Some v) e ≡ 0 = grind (arith, nat_tests) in
                  unmarked set p is k e g under first second
                  (λ x some. apart (let equal : Some v ≡ Some e = sym given ∙ some in cc)) (omega (arith, masks, off, small))
            ]

-- a sum over all parameters is that over those that are listed
pub above_among : (a e x : ℕ) (ps : List ℕ) → RisesFrom a e ps → x < a → is_among ps x ≡ false
above_among a e x [] rises less = refl
above_among a e x (p ∷ ps) rises less =
    let least = rises.0 in
    let test : (p == x) ≡ false = grind (arith, nat_tests) in
    ap (λ b. b || is_among ps x) test ∙ above_among (p + 1) e x ps rises.2 (omega (arith, least, less))

first_of : (g : ℕ → ℕ) (lo n : ℕ) → sum_to (λ i. g (lo + i)) (suc n) ≡ g lo + sum_to (λ i. g (lo + 1 + i)) n
first_of g lo n =
    let first = sum-first (λ i. g (lo + i)) n in
    let at : g (lo + 0) ≡ g lo = ap g (let e : lo + 0 ≡ lo = omega arith in e) in
    let same = sum-same (λ i. g (lo + suc i)) (λ i. g (lo + 1 + i)) n (λ i within. ap g (let e : lo + suc i ≡ lo + 1 + i = omega arith in e)) in
    omega (arith, first, at, same)

listed-sum : (g h : ℕ → ℕ) (sets partners : List ℕ) (lo n : ℕ) → Matched (λ set p. g p ≡ h set) sets partners → RisesFrom lo (lo + n) partners
    → ((p : ℕ) → lo ≤ p → is_among partners p ≡ false → g p ≡ 0) → sum_to (λ i. g (lo + i)) n ≡ sum_by h sets
listed-sum g h [] (p ∷ ps) lo n match rises none = absurd match
listed-sum g h (s ∷ ss) [] lo n match rises none = absurd match
listed-sum g h [] [] lo zero match rises none = refl
listed-sum g h [] [] lo (suc n) match rises none =
    let rest = listed-sum g h [] [] (lo + 1) n match tt (λ p least other. none p (omega (arith, least)) other) in
    let here = none lo (omega arith) refl in
    omega (arith, first_of g lo n, here, rest)
listed-sum g h (s ∷ ss) (p ∷ ps) lo zero match rises none = absurd (omega (arith, rises.0, rises.1))
listed-sum g h (s ∷ ss) (p ∷ ps) lo (suc n) match rises none =
    let end : lo + suc n ≡ lo + 1 + n = omega arith in
    elim (cases_eq p lo) [
      | inl here ↦
          let rise : RisesFrom (lo + 1) (lo + 1 + n) ps = subst (λ k. RisesFrom (lo + 1) k ps) end (subst (λ k. RisesFrom (k + 1) (lo + suc n) ps) here rises.2) in
          let rest = listed-sum g h ss ps (lo + 1) n match.1 rise
          (λ q least other.
          let test : (p == q) ≡ false = grind (arith, nat_tests) in
          none q (omega (arith, least)) (ap (λ b. b || is_among ps q) test ∙ other)) in
          let first = ap g (sym here) in
          omega (arith, first_of g lo n, rest, match.0, first, sum_by-cons h s ss)
      | inr apart ↦
          let more : lo + 1 ≤ p = omega (arith, rises.0, apart) in
          let rise : RisesFrom (lo + 1) (lo + 1 + n) (p ∷ ps) = subst (λ k. RisesFrom (lo + 1) k (p ∷ ps)) end (more, rises.1, rises.2) in
          let rest = listed-sum g h (s ∷ ss) (p ∷ ps) (lo + 1) n match rise (λ q least other. none q (omega (arith, least)) other) in
          let here = none lo (omega arith) (above_among (lo + 1) (lo + 1 + n) lo (p ∷ ps) rise (omega arith)) in
          omega (arith, first_of g lo n, rest, here)
    ]

-- a row without a digit of the other parameter has no tuple of the set
pub partner-none : (m : ModelView) (slice : Slice) (column d set p : ℕ) (digits : ℕ → Option ℕ) → IsPartner m slice column set p → digits p ≡ None
    → held_bit m slice (with_digit digits column d) set ≡ None
partner-none m slice column d set p digits partner none =
    ap (option_map (λ n. first_bit m slice set + n))
    (member_none (own_values m slice) (with_digit digits column d) (set_at m set) p
    (partner.members p ∙ ap (λ b. (p == column) || b) (eq-eqb p p refl) ∙ or-true (p == column))
    (other_digit digits column d p partner.apart ∙ none))

-- the bits that a block has in common with a row's mask are those of the open tuples that the row contains
pub pairs-count : (m : ModelView) (slice : Slice) (column d : ℕ) (digits : ℕ → Option ℕ) (mask : List ℕ) (bits : List Bool) (sets partners : List ℕ)
    (blocks : List (List ℕ)) → AreDigits (own_values m slice) digits → d < digit_count m slice column
    → IsMask (digit_count m slice) (restricted partners digits) (length m.params) (bit_in mask) → ArePairs m slice column bits sets partners blocks
    → sum_to (common (get_or blocks d []) mask) (64 * length (get_or blocks d [])) ≡ sum_by (held_count m slice bits (with_digit digits column d)) sets
pairs-count m slice column d digits mask bits sets partners blocks below within masked are =
    let block = get_or blocks d [] in
    let count = digit_count m slice in
    let params = length m.params in
    let own = restricted partners digits in
    let g : ℕ → ℕ = λ p. bit_for (own p) (pair_bit m slice blocks d p) in
    let f = with_digit digits column d in
    sum-ends (common block mask) (64 * length block) (begin_at count params)
    (λ i past. let none = bit-past block i past in omega (arith, none))
    (λ i past. let none = masked.rest i past in omega (arith, none))
    ∙ mask-sum count own (bit_in mask) (bit_in block) params params (omega arith) masked (λ p e. some_own p e (is_among partners p)) (bit-small block)
    ∙ sum-same g (λ i. g (0 + i)) params (λ i inside. ap g (sym (zero-add i)))
    ∙ listed-sum g (held_count m slice bits f) sets partners 0 params
    (matched-weaker (λ set p. IsPair m slice column bits blocks set p × (is_among partners p ≡ true)) (λ set p. g p ≡ held_count m slice bits f set)
    (λ set p known. ap (λ b. bit_for (if b then digits p else None) (pair_bit m slice blocks d p)) known.1 ∙ by_digit set p known.0 (digits p) refl) sets partners
    (matched-listed (IsPair m slice column bits blocks) (λ p. is_among partners p ≡ true) sets partners are.pairs (λ p among. among)))
    (subst (λ k. RisesFrom 0 k partners) (sym (zero-add params)) are.rise)
    (λ p least other. ap (λ b. bit_for (if b then digits p else None) (pair_bit m slice blocks d p)) other)
  where
    some_own : (p e : ℕ) (b : Bool) → (if b then digits p else None) ≡ Some e → e < digit_count m slice p
    some_own p e true is = below p e is
    some_own p e false is = absurd (let never : None ≡ Some e = is in cc)

    by_digit : (set p : ℕ) → IsPair m slice column bits blocks set p → (o : Option ℕ) → digits p ≡ o
        → bit_for (digits p) (pair_bit m slice blocks d p) ≡ held_count m slice bits (with_digit digits column d) set
    by_digit set p is None given =
        ap (λ o. bit_for o (pair_bit m slice blocks d p)) given
        ∙ sym (ap (bit_count bits) (partner-none m slice column d set p digits is.partner given))
    by_digit set p is (Some e) given =
        ap (λ o. bit_for o (pair_bit m slice blocks d p)) given
        ∙ is.held d e (with_digit digits column d) (with_digits (own_values m slice) digits column d below within) (own_column digits column d)
        (other_digit digits column d p is.partner.apart ∙ given)

-- a rising number isn't among those before it
at-least : (a e : ℕ) (ps : List ℕ) (k : ℕ) → RisesFrom a e ps → k < length ps → a ≤ get_or ps k 0
at-least a e [] k rises within = absurd (omega (arith, within))
at-least a e (p ∷ ps) zero rises within = rises.0
at-least a e (p ∷ ps) (suc k) rises within =
    let more = at-least (p + 1) e ps k rises.2 (omega (arith, within)) in
    omega (arith, rises.0, more)

pub unlisted : (a e : ℕ) (ps : List ℕ) (k : ℕ) → RisesFrom a e ps → k < length ps → is_among (take k ps) (get_or ps k 0) ≡ false
unlisted a e [] k rises within = absurd (omega (arith, within))
unlisted a e (p ∷ ps) zero rises within = refl
unlisted a e (p ∷ ps) (suc k) rises within =
    let q = get_or ps k 0 in
    let more : p + 1 ≤ q = at-least (p + 1) e ps k rises.2 (omega (arith, within)) in
    let test : (p == q) ≡ false = grind (arith, nat_tests) in
    ap (λ b. b || is_among (take k ps) q) test ∙ unlisted (p + 1) e ps k rises.2 (omega (arith, within))

-- where the bit in the block isn't set, there is nothing to clear
same_bits : (bits : List Bool) (b : ℕ) → get_or bits b false ≡ false → slice_set bits b false ≡ bits
same_bits [] b none = refl
same_bits (x ∷ bits) zero none = ap (λ y. y ∷ bits) (sym none)
same_bits (x ∷ bits) (suc b) none = ap (λ rest. x ∷ rest) (same_bits bits b none)

pub none-cleared : (m : ModelView) (slice : Slice) (column d set p e : ℕ) (digits : ℕ → Option ℕ) (params : List ℕ) (first bits : List Bool)
    (block now : List ℕ) → AreDigits (own_values m slice) digits → d < digit_count m slice column → IsBlockPair m slice column d first block set p
    → IsCleared (digit_count m slice) (restricted params digits) block now → is_among params p ≡ false
    → ((k : ℕ) → get_or first k false ≡ false → get_or bits k false ≡ false) → digits p ≡ Some e
    → bit_in now (begin_at (digit_count m slice) p + e) ≡ 0 → cleared (held_bit m slice (with_digit digits column d) set) bits ≡ bits
none-cleared m slice column d set p e digits params first bits block now below within pair is other stays given none =
    let f = with_digit digits column d in
    let place = begin_at (digit_count m slice) p + e in
    let kept = is.bits p e (below p e given) ∙ ap (λ b. min (bit_in block place) (1 - hot (if b then digits p else None) e)) other in
    let small = bit-small block place in
    let count : held_count m slice first f set ≡ bit_in block place =
    sym (pair.held e f (with_digits (own_values m slice) digits column d below within) (own_column digits column d)
    (other_digit digits column d p pair.partner.apart ∙ given)) in
    by_bit (held_bit m slice f set) (count ∙ (let gone : bit_in block place ≡ 0 = omega (arith, kept, small, none) in gone))
  where
    marks : Bool → ℕ
    marks t = if t then 1 else 0

    by_test : (t : Bool) → marks t ≡ 0 → t ≡ false
    by_test true one = absurd (omega (arith, one))
    by_test false one = refl

    by_bit : (o : Option ℕ) → bit_count first o ≡ 0 → cleared o bits ≡ bits
    by_bit None count = refl
    by_bit (Some b) count = same_bits bits b (stays b (by_test (get_or first b false) count))
