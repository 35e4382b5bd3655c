-- The pairs of a column at first: the other member of each set in play, and blocks with a bit for each tuple.
use Rattle.std.proofs.Common.{inl, inr, ◌≡◌, ℕ, ◌+◌, ◌*◌, ◌/◌, ◌%◌, ◌<◌, ◌≤◌, ◌⊎◌, Bool, true, false, ◌||◌, List, [], ◌∷◌, ◌++◌, Option, Some, None, All, map}
use Rattle.std.proofs.Common.{length, get_or, sum_by, replicate, take, ◌∙◌, refl, sym, subst, ap, arith, add-one, length-append}
use Rattle.std.specs.Int.{bit_at}
use Rattle.std.specs.Option.{option_map_or}
use Rattle.std.specs.Prelude.{◌==◌, IfSome, nat_lt, option_map, slice_set, if◌then◌else◌}
use Rattle.std.proofs.lemmas.Bool.{cases_eq, cases_lt, eq-eqb, false≢true}
use Rattle.std.proofs.lemmas.Bool.Decides.{nat_tests}
use Rattle.std.proofs.lemmas.List.{get_or_append_left, get_or_past, get_or-replicate}
use Rattle.std.proofs.lemmas.List.{get_or-set_same, get_or-set_other, length-replicate, length-set, take_all, take_more}
use Rattle.std.proofs.lemmas.List.Elements.{All-cons, All-nil}
use Rattle.std.proofs.lemmas.Nat.Bits.{bit_at-zero}
use Rattle.std.proofs.Math.Seq.{get_or-append_seam}
use Rattle.std.proofs.Math.Bool.{or_comm, or-false, or-true}
use Rattle.cov_model.specs.declared.slice.Slice.{Slice}
use Rattle.cov_model.specs.believed.Sound.{ModelView}
use Rattle.definitions.specs.believed.Demand.{demanded_sets, is_among}
use Rattle.tuple_index.specs.Kept.{IsKept}
use Rattle.tuple_index.specs.Places.{RisesFrom, ways}
use Rattle.tuple_index.specs.Plan.{plan_of}
use Rattle.uncovered_table.specs.declared.pairs.PairBits.{PairBits}
use Rattle.uncovered_table.specs.Bits.{InPlay, all_cleared, bit_count, first_bit, held_count, sets_in_play, tuple_count, value_held}
use Rattle.uncovered_table.specs.Kept.{last_column, play_column}
use Rattle.uncovered_table.specs.Digits.{AreDigits, cell_digit, digit_of, joined, number_of, own_values}
use Rattle.uncovered_table.specs.Masks.{AreAll, AreBegins, IsCleared, IsMask, begin_at, restricted}
use Rattle.uncovered_table.specs.Pairs.{AreKept, ArePairs, ArePartners, HasPairs, IsOtherMember, IsPair, IsPartner, Matched, common_count, digit_count}
use Rattle.uncovered_table.specs.Places.{set_at, slice_places}
use Rattle.uncovered_table.specs.Words.{bit_in}
use Rattle.uncovered_table.proofs.BitLemmas.{bits_before}
use Rattle.uncovered_table.proofs.GainLemmas.{number_within}
use Rattle.uncovered_table.proofs.LineLemmas.{column_among}
use Rattle.uncovered_table.proofs.PairLemmas.{AreCleared, matched-listed, matched-weaker, pairs-count, pairs-elsewhere, pairs-single}
use Rattle.uncovered_table.proofs.MaskLemmas.{begins-rise}
use Rattle.uncovered_table.proofs.DigitLemmas.{cell_digits, digit_below}
use Rattle.uncovered_table.proofs.ValueLemmas.{digit_gain, no_gain}
use Rattle.uncovered_table.proofs.WordLemmas.{bit-past, bit-used}

-- one of two members is the column, and this is the other one
record TwoKnown (members : List ℕ) (column e p : ℕ) : Type 0 where
  exists : p < e
  apart : p ≡ column → ⊥
  among : (q : ℕ) → is_among members q ≡ ((q == column) || (q == p))

two-known : (members : List ℕ) (column e next p : ℕ) → is_among members column ≡ true → RisesFrom 0 e members → IsOtherMember members column next p
    → TwoKnown members column e p
two-known [] column e next p listed rises other = absurd (let two = other.two in omega (arith, two))
two-known (a ∷ []) column e next p listed rises other = absurd (let two = other.two in omega (arith, two))
two-known (a ∷ b ∷ c ∷ more) column e next p listed rises other = absurd (let two = other.two in omega (arith, two))
two-known (a ∷ b ∷ []) column e next p listed rises other =
    let low = rises.2.0 in
    let first = rises.1 in
    let second = rises.2.1 in
    elim (cases_eq a column) [
      | inl here ↦
          let test : (a == column) ≡ true = grind (arith, nat_tests) in
          let is : p ≡ b = other.other ∙ ap (λ t. if t then b else a) test in
          record {
            exists = omega (arith, second, is);
            apart = λ same. omega (arith, low, here, is, same);
            among =
                λ q.
                ap (λ t. t || ((b == q) || false)) (turned a q) ∙ ap (λ t. (q == a) || t) (or-false (b == q) ∙ turned b q)
                ∙ ap (λ k. (q == k) || (q == b)) here ∙ ap (λ k. (q == column) || (q == k)) (sym is);
          }
      | inr apart ↦
          let test : (a == column) ≡ false = grind (arith, nat_tests) in
          let is : p ≡ a = other.other ∙ ap (λ t. if t then b else a) test in
          let last : (b == column) ≡ true = sym (or-false (b == column)) ∙ sym (ap (λ t. t || ((b == column) || false)) test) ∙ listed in
          let there : b ≡ column = grind (arith, nat_tests) in
          record {
            exists = omega (arith, first, is);
            apart = λ same. apart (sym is ∙ same);
            among =
                λ q.
                ap (λ t. t || ((b == q) || false)) (turned a q) ∙ ap (λ t. (q == a) || t) (or-false (b == q) ∙ turned b q)
                ∙ or_comm (q == a) (q == b)
                ∙ ap (λ k. (q == k) || (q == a)) there ∙ ap (λ k. (q == column) || (q == k)) (sym is);
          }
    ]
  where
    turned : (k q : ℕ) → (k == q) ≡ (q == k)
    turned k q = grind (arith, nat_tests)

-- a set in play of two members has the column and the other one
pub partner-of : (m : ModelView) (slice : Slice) (column set next p : ℕ) (members : List ℕ) → InPlay m slice column set
    → members ≡ set_at m set → RisesFrom 0 (length m.params) members → IsOtherMember members column next p
    → IsPartner m slice column set p
partner-of m slice column set next p members play own rises other =
    let known = two-known members column (length m.params) next p (ap (λ list. is_among list column) own ∙ column_among m slice column set play) rises other in
    record {
      plays = play;
      exists = known.exists;
      apart = known.apart;
      members = λ q. ap (λ list. is_among list q) (sym own) ∙ known.among q;
    }

-- one item more
pub matched-more : (R : ℕ → ℕ → Type 0) (xs ys : List ℕ) (x y : ℕ) → Matched R xs ys → R x y → Matched R (xs ++ x ∷ []) (ys ++ y ∷ [])
matched-more R [] [] x y all here = (here, tt)
matched-more R [] (b ∷ ys) x y all here = absurd all
matched-more R (a ∷ xs) [] x y all here = absurd all
matched-more R (a ∷ xs) (b ∷ ys) x y all here = (all.0, matched-more R xs ys x y all.1 here)

pub rises-more : (a b p : ℕ) (ps : List ℕ) → a ≤ b → RisesFrom a b ps → b ≤ p → RisesFrom a (p + 1) (ps ++ p ∷ [])
rises-more a b p [] order rises least = (omega (arith, order, least), omega arith, tt)
rises-more a b p (q ∷ ps) order rises least =
    let low = rises.0 in
    let less = rises.1 in
    (low, omega (arith, less, least), rises-more (q + 1) b p ps (omega (arith, less)) rises.2 least)

pub rises-wider : (a b e : ℕ) (ps : List ℕ) → b ≤ e → RisesFrom a b ps → RisesFrom a e ps
rises-wider a b e [] order rises = tt
rises-wider a b e (p ∷ ps) order rises = let less = rises.1 in (rises.0, omega (arith, less, order), rises-wider (p + 1) b e ps order rises.2)

-- where each member has a digit there is a number
record SomeNumber (values : ℕ → List ℕ) (digits : ℕ → Option ℕ) (set : List ℕ) : Type 0 where
  number : ℕ
  is : number_of values digits set ≡ Some number

some_number : (values : ℕ → List ℕ) (digits : ℕ → Option ℕ) (set : List ℕ)
    → ((p : ℕ) → is_among set p ≡ true → (e : ℕ) × (digits p ≡ Some e)) → SomeNumber values digits set
some_number values digits [] each = record { number = 0; is = refl }
some_number values digits (p ∷ set) each =
    let here = each p (ap (λ b. b || is_among set p) (eq-eqb p p refl)) in
    let rest = some_number values digits set (λ q among. each q (ap (λ b. (p == q) || b) among ∙ or-true (p == q))) in
    record {
      number = here.0 * ways values set + rest.number;
      is = ap (λ o. joined o (ways values set) (number_of values digits set)) here.1 ∙ ap (joined (Some here.0) (ways values set)) rest.is;
    }

-- at first each tuple of a set is open
held_open : (m : ModelView) (slice : Slice) (column set p k e : ℕ) (digits : ℕ → Option ℕ) → IsKept (plan_of m) → IsPartner m slice column set p
    → AreDigits (own_values m slice) digits → digits column ≡ Some k → digits p ≡ Some e
    → held_count m slice (replicate (length (slice_places m slice)) true) digits set ≡ 1
held_open m slice column set p k e digits kept partner below first second =
    let some = some_number (own_values m slice) digits (set_at m set)
    (λ q among.
    elim (cases_eq q column) [
      | inl here ↦ (k, ap digits here ∙ first)
      | inr apart ↦
          elim (cases_eq q p) [
            | inl here ↦ (e, ap digits here ∙ second)
            | inr differs ↦
                let a : (q == column) ≡ false = grind (arith, nat_tests) in
                let b : (q == p) ≡ false = grind (arith, nat_tests) in
                absurd (false≢true (sym (sym among ∙ partner.members q ∙ ap (λ x. x || (q == p)) a ∙ b)))
          ]
    ]) in
    let within = number_within m slice digits set some.number kept partner.plays.exists partner.plays.some below some.is in
    let all = bits_before m slice set (length (demanded_sets m)) partner.plays.exists in
    let bit = first_bit m slice set + some.number in
    ap (λ o. bit_count (replicate (length (slice_places m slice)) true) (option_map (λ n. first_bit m slice set + n) o)) some.is
    ∙ ap (λ b. if b then 1 else 0) (get_or-replicate (length (slice_places m slice)) bit true false (omega (arith, within, all)))

-- the pairs of a column at first
pub pairs-new : (m : ModelView) (slice : Slice) (column count : ℕ) (sets partners block : List ℕ) (blocks : List (List ℕ)) → IsKept (plan_of m)
    → ArePartners m slice column sets partners → AreAll (digit_count m slice) partners (bit_in block) → length block ≤ 128
    → begin_at (digit_count m slice) (length m.params) ≤ 64 * 128 → count ≡ digit_count m slice column → blocks ≡ replicate count block
    → ArePairs m slice column (replicate (length (slice_places m slice)) true) sets partners blocks
pairs-new m slice column count sets partners block blocks kept are all few fits many made = record {
  rise = are.rise;
  pairs =
      matched-weaker (λ set p. IsPartner m slice column set p × (is_among partners p ≡ true))
      (IsPair m slice column (replicate (length (slice_places m slice)) true) blocks)
      (λ set p known. record {
        partner = known.0;
        held =
            λ k e digits below first second.
            let inside : k < count = (let less = below column k first in omega (arith, less, many)) in
            at k (begin_at (digit_count m slice) p + e) inside ∙ all.bits p e (below p e second)
            ∙ ap (λ b. if b then 1 else 0) known.1 ∙ sym (held_open m slice column set p k e digits kept known.0 below first second);
      })
      sets partners
      (matched-listed (IsPartner m slice column) (λ p. is_among partners p ≡ true) sets partners are.each (λ p among. among));
  enough = ap length made ∙ length-replicate count block ∙ many;
  short =
      λ k.
      elim (cases_lt k count) [
        | inl less ↦ subst (λ n. n ≤ 128) (sym (ap length (read k less))) few
        | inr past ↦ subst (λ n. n ≤ 128) (sym (ap length (beyond k past))) (omega arith)
      ];
  fits = fits;
}
  where
    read : (k : ℕ) → k < count → get_or blocks k [] ≡ block
    read k less = ap (λ list. get_or list k []) made ∙ get_or-replicate count k block [] less

    beyond : (k : ℕ) → count ≤ k → get_or blocks k [] ≡ []
    beyond k past = get_or_past blocks k [] (let long = ap length made ∙ length-replicate count block in omega (arith, past, long))

    at : (k i : ℕ) → k < count → bit_in (get_or blocks k []) i ≡ bit_in block i
    at k i less = ap (λ words. bit_in words i) (read k less)

-- where the bits of one parameter more begin
pub begins-start : (count : ℕ → ℕ) → AreBegins count 0 (0 ∷ [])
begins-start count = record {
  many = refl;
  each = λ p d within. let first : p ≡ 0 = omega (arith, within) in ap (λ k. get_or (0 ∷ []) k d) first ∙ sym (ap (begin_at count) first);
}

pub begins-more : (count : ℕ → ℕ) (p begin : ℕ) (begins next : List ℕ) → AreBegins count p begins → begin ≡ begin_at count p + count p
    → next ≡ begins ++ begin ∷ [] → AreBegins count (p + 1) next
begins-more count p begin begins next are last put = subst (AreBegins count (p + 1)) (sym put) (record {
  many = length-append begins (begin ∷ []) ∙ ap (λ n. n + 1) are.many;
  each =
      λ q d within.
      elim (cases_lt p q) [
        | inr most ↦ get_or_append_left begins (begin ∷ []) d q (omega (arith, most, are.many)) ∙ are.each q d most
        | inl more ↦
            let here : q ≡ p + 1 = omega (arith, more, within) in
            ap (λ n. get_or (begins ++ begin ∷ []) n d) (here ∙ sym are.many) ∙ get_or-append_seam begins begin [] d
            ∙ last ∙ sym (ap (begin_at count) (here ∙ add-one p))
      ];
})

-- the begin of a parameter, and the end of its bits
pub begin-read : (count : ℕ → ℕ) (params p begin : ℕ) (begins : List ℕ) → AreBegins count params begins → p ≤ params → begin ≡ get_or begins p begin
    → begin ≡ begin_at count p
begin-read count params p begin begins are within read = read ∙ are.each p begin within

-- the bits that are used are all
pub all-used : (count : ℕ → ℕ) (params mask block : List ℕ) (words : ℕ) → AreAll count params (bit_in mask) → words ≤ length mask
    → ((i : ℕ) → words ≤ i → get_or mask i 0 ≡ 0) → block ≡ take words mask → AreAll count params (bit_in block)
all-used count params mask block words all within rest cut = record {
  bits = λ p d below. ap (λ list. bit_in list (begin_at count p + d)) cut ∙ bit-used mask words (begin_at count p + d) within rest ∙ all.bits p d below;
}

-- one block without the bits of digits
pub cleared-blocks : (count : ℕ → ℕ) (digits : ℕ → Option ℕ) (blocks : List (List ℕ)) (d : ℕ) (block : List ℕ) → d < length blocks
    → IsCleared count digits (get_or blocks d []) block → AreCleared count digits blocks (slice_set blocks d block) d
cleared-blocks count digits blocks d block within made = record {
  many = length-set blocks d block;
  others = λ k apart. get_or-set_other blocks d k block [] apart;
  own = subst (IsCleared count digits (get_or blocks d [])) (sym (get_or-set_same blocks d block [] within)) made;
}

pub no-bits : (n k : ℕ) → bit_in (replicate n 0) k ≡ 0
no-bits n k =
    elim (cases_lt (k / 64) n) [
      | inl less ↦ ap (λ word. bit_at word (k % 64)) (get_or-replicate n (k / 64) 0 0 less) ∙ bit_at-zero (k % 64)
      | inr past ↦ bit-past (replicate n 0) k ((let none : ℕ = 0 in let long = length-replicate n none in omega (arith, past, long)))
    ]

-- the partners so far
pub record PartnersTo (m : ModelView) (slice : Slice) (column k next : ℕ) (sets partners : List ℕ) : Type 0 where
  pub rise : RisesFrom 0 next partners
  pub few : next ≤ length m.params
  pub each : Matched (IsPartner m slice column) (take k sets) partners

pub partners-start : (m : ModelView) (slice : Slice) (column : ℕ) (sets : List ℕ) → PartnersTo m slice column 0 0 sets []
partners-start m slice column sets = record { rise = tt; few = omega arith; each = tt }

pub partners-more : (m : ModelView) (slice : Slice) (column k next p : ℕ) (sets partners pushed : List ℕ) → PartnersTo m slice column k next sets partners
    → k < length sets → IsPartner m slice column (get_or sets k 0) p → next ≤ p → pushed ≡ partners ++ p ∷ []
    → PartnersTo m slice column (k + 1) (p + 1) sets pushed
partners-more m slice column k next p sets partners pushed to within here least put = subst (PartnersTo m slice column (k + 1) (p + 1) sets) (sym put) (record {
  rise = rises-more 0 next p partners (omega arith) to.rise least;
  few = let less = here.exists in omega (arith, less);
  each =
      subst (λ list. Matched (IsPartner m slice column) list (partners ++ p ∷ [])) (sym (take_more sets k 0 within))
      (matched-more (IsPartner m slice column) (take k sets) partners (get_or sets k 0) p to.each here);
})

pub partners-all : (m : ModelView) (slice : Slice) (column k next : ℕ) (sets partners : List ℕ) → PartnersTo m slice column k next sets partners
    → length sets ≤ k → ArePartners m slice column sets partners
partners-all m slice column k next sets partners to past = record {
  rise = rises-wider 0 next (length m.params) partners to.few to.rise;
  each = subst (λ list. Matched (IsPartner m slice column) list partners) (take_all k sets past) to.each;
}

pub partners-exist : (P : ℕ → Type 0) (a e : ℕ) (ps : List ℕ) → RisesFrom a e ps → ((p : ℕ) → p < e → P p) → All P ps
partners-exist P a e [] rises each = All-nil P
partners-exist P a e (p ∷ ps) rises each = All-cons P p ps (each p rises.1) (partners-exist P (p + 1) e ps rises.2 each)

-- the pairs of one column more
pub kept-more : (m : ModelView) (slice : Slice) (bits : List Bool) (p : ℕ) (columns next : List (Option PairBits)) (made : Option PairBits)
    → AreKept m slice bits p columns → next ≡ columns ++ made ∷ [] → IfSome made (HasPairs m slice bits p) → AreKept m slice bits (p + 1) next
kept-more m slice bits p columns next made are put here = subst (AreKept m slice bits (p + 1)) (sym put) (record {
  many = length-append columns (made ∷ []) ∙ ap (λ n. n + 1) are.many;
  each =
      λ q within.
      elim (cases_lt q p) [
        | inl below ↦
            subst (λ o. IfSome o (HasPairs m slice bits q)) (sym (get_or_append_left columns (made ∷ []) None q (omega (arith, below, are.many))))
            (are.each q below)
        | inr past ↦
            let last : q ≡ p = omega (arith, past, within) in
            let read : get_or (columns ++ made ∷ []) q None ≡ made =
            ap (λ n. get_or (columns ++ made ∷ []) n None) (last ∙ sym are.many) ∙ get_or-append_seam columns made [] None in
            subst (λ o. IfSome o (HasPairs m slice bits q)) (sym read) (subst (λ n. IfSome made (HasPairs m slice bits n)) (sym last) here)
      ];
})

-- other columns keep their pairs when a row is closed
pub kept-closed : (m : ModelView) (slice : Slice) (f : ℕ → Option ℕ) (bits : List Bool) (column : ℕ) (columns : List (Option PairBits)) (made : Option PairBits)
    → IsKept (plan_of m) → AreDigits (own_values m slice) f → AreKept m slice bits (length m.params) columns
    → IfSome made (HasPairs m slice (all_cleared m slice f bits (sets_in_play m slice column)) column)
    → AreKept m slice (all_cleared m slice f bits (sets_in_play m slice column)) (length m.params) (slice_set columns column made)
kept-closed m slice f bits column columns made kept below are here = record {
  many = length-set columns column made ∙ are.many;
  each =
      λ p within.
      elim (cases_eq p column) [
        | inl same ↦
            let read : get_or (slice_set columns column made) p None ≡ made =
            ap (λ n. get_or (slice_set columns column made) n None) same
            ∙ get_or-set_same columns column made None (omega (arith, same, within, are.many)) in
            subst (λ o. IfSome o (HasPairs m slice (all_cleared m slice f bits (sets_in_play m slice column)) p)) (sym read)
            (subst (λ n. IfSome made (HasPairs m slice (all_cleared m slice f bits (sets_in_play m slice column)) n)) (sym same) here)
        | inr apart ↦
            subst (λ o. IfSome o (HasPairs m slice (all_cleared m slice f bits (sets_in_play m slice column)) p))
            (sym (get_or-set_other columns column p made None apart)) (other p apart (get_or columns p None) (are.each p within))
      ];
}
  where
    other : (p : ℕ) → (p ≡ column → ⊥) → (o : Option PairBits) → IfSome o (HasPairs m slice bits p)
        → IfSome o (HasPairs m slice (all_cleared m slice f bits (sets_in_play m slice column)) p)
    other p apart None has = tt
    other p apart (Some pairs) has =
        pairs-elsewhere m slice f column p bits (sets_in_play m slice p) pairs.partners.items (map (λ block. block.items) pairs.blocks.items) kept below
        (λ same. apart (sym same)) has

-- what closing a single tuple leaves
pub kept-single : (m : ModelView) (slice : Slice) (bits : List Bool) (closed bit : ℕ) (columns next : List (Option PairBits)) → IsKept (plan_of m)
    → first_bit m slice closed ≤ bit → bit < first_bit m slice closed + tuple_count m slice closed → length next ≡ length columns
    → ((p : ℕ) → InPlay m slice p closed → get_or next p None ≡ None)
    → ((p : ℕ) → (get_or next p None ≡ None) ⊎ (get_or next p None ≡ get_or columns p None))
    → AreKept m slice bits (length m.params) columns → AreKept m slice (slice_set bits bit false) (length m.params) next
kept-single m slice bits closed bit columns next kept first last long own others are = record {
  many = long ∙ are.many;
  each = λ p within. elim (others p) [
    | inl none ↦ subst (λ o. IfSome o (HasPairs m slice (slice_set bits bit false) p)) (sym none) tt
    | inr same ↦ by_pairs p (get_or next p None) refl (subst (λ o. IfSome o (HasPairs m slice bits p)) (sym same) (are.each p within))
  ];
}
  where
    by_pairs : (p : ℕ) (o : Option PairBits) → get_or next p None ≡ o → IfSome o (HasPairs m slice bits p)
        → IfSome o (HasPairs m slice (slice_set bits bit false) p)
    by_pairs p None is has = tt
    by_pairs p (Some pairs) is has =
        pairs-single m slice p closed bit bits (sets_in_play m slice p) pairs.partners.items (map (λ block. block.items) pairs.blocks.items) kept first last
        (λ play. let none : None ≡ Some pairs = sym (own p play) ∙ is in absurd (cc)) has

-- a digit has room in a mask
pub digit-room : (count : ℕ → ℕ) (params p begin len : ℕ) (o : Option ℕ) → ((d : ℕ) → o ≡ Some d → d < count p) → p < params
    → begin ≡ begin_at count p → begin_at count params ≤ len → IfSome o (λ d. begin + d < len)
digit-room count params p begin len None below within at fits = tt
digit-room count params p begin len (Some d) below within at fits =
    let rise = begins-rise count p params within in
    let less = below d refl in
    omega (arith, rise, less, at, fits)

-- the column for which a set is in play
pub play-own : (m : ModelView) (slice : Slice) (p set : ℕ) → InPlay m slice p set → play_column m slice set ≡ Some p
play-own m slice p set play =
    let some = play.some in
    let test : nat_lt 0 (tuple_count m slice set) ≡ true = grind (arith, nat_tests) in
    ap (λ b. if b then last_column m slice (set_at m set) else None) test ∙ by_last (last_column m slice (set_at m set)) play.ends
  where
    by_last : (o : Option ℕ) → option_map_or (λ q. q == p) o false ≡ true → o ≡ Some p
    by_last None is = absurd (false≢true is)
    by_last (Some q) is = let same : q ≡ p = grind (arith, nat_tests) in ap Some same

pub forget-own : (columns : List (Option PairBits)) (p : ℕ) → get_or (slice_set columns p None) p None ≡ None
forget-own columns p =
    elim (cases_lt p (length columns)) [
      | inl within ↦ get_or-set_same columns p None None within
      | inr past ↦ get_or_past (slice_set columns p None) p None (omega (arith, past, length-set columns p None))
    ]

-- the gain of a value is what the block of its digit has in common with the row's mask
pub pairs-gain : (m : ModelView) (slice : Slice) (column v : ℕ) (cells : List (Option ℕ)) (mask : List ℕ) (bits : List Bool) (partners : List ℕ)
    (blocks : List (List ℕ)) (o : Option ℕ) → digit_of (own_values m slice column) v ≡ o
    → IsMask (digit_count m slice) (restricted partners (cell_digit (own_values m slice) cells)) (length m.params) (bit_in mask)
    → ArePairs m slice column bits (sets_in_play m slice column) partners blocks
    → common_count blocks mask o ≡ sum_by (value_held m slice bits cells column v) (sets_in_play m slice column)
pairs-gain m slice column v cells mask bits partners blocks None is masked are = no_gain m slice bits cells column v (sets_in_play m slice column) is
pairs-gain m slice column v cells mask bits partners blocks (Some d) is masked are =
    pairs-count m slice column d (cell_digit (own_values m slice) cells) mask bits (sets_in_play m slice column) partners blocks
    (cell_digits (own_values m slice) cells) (digit_below (own_values m slice column) v d is) masked are
    ∙ digit_gain m slice bits cells column v d (sets_in_play m slice column) is

-- a digit has a block
pub digit-block : (m : ModelView) (slice : Slice) (column v n : ℕ) (o : Option ℕ) → digit_of (own_values m slice column) v ≡ o → n ≡ digit_count m slice column
    → IfSome o (λ d. d < n)
digit-block m slice column v n None is many = tt
digit-block m slice column v n (Some d) is many = let less = digit_below (own_values m slice column) v d is in omega (arith, less, many)
