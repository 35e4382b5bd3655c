-- Each step keeps the facts of a table.
use Rattle.std.proofs.Common.{◌≡◌, ℕ, ◌+◌, ◌*◌, ◌/◌, ◌^◌, ◌<◌, ◌++◌, true, false, ◌||◌, List, [], ◌∷◌, length, get_or, set, bit_or, inl, inr, ◌∙◌, refl, sym, ap, subst, arith}
use Rattle.std.specs.Prelude.{◌==◌, All}
use Rattle.std.specs.List.{list_any}
use Rattle.std.proofs.Math.Bool.{or-false}
use Rattle.std.proofs.lemmas.Bool.{cases_eq, eq-eqb, eqb-true, ne_eqb, or_cases, or_right}
use Rattle.std.proofs.lemmas.Nat.{pow_pos}
use Rattle.std.proofs.lemmas.List.{length-set}
use Rattle.std.proofs.lemmas.List.Elements.{All-push, All-set}
use Rattle.std.proofs.lemmas.List.Folds.{list_any-append, list_any_none}
use mathlib.Core.Option.{some}
use lib.ListN.{get_elem?}
use Rattle.bit_table.specs.Words.{mark_at}
use Rattle.bit_table.proofs.SetLemmas.{marked}
use Rattle.definitions.specs.believed.Demand.{is_among}
use Rattle.shared_marks.specs.declared.holding.Holding.{Holding}
use Rattle.shared_marks.specs.Adding.{is_of_word}
use Rattle.shared_marks.specs.Facts.{IsIdle, IsKept, is_marked, is_seen}
use Rattle.shared_marks.specs.Seats.{IsWhole, halved, is_held, joined, marking, noting, other_half, spent, testing}
use Rattle.shared_marks.specs.Steps.{IsMarkStep, IsTest, IsTestStep, has_bit, marking_all, places_of}
use Rattle.shared_marks.proofs.BitLemmas.{bit_marked, bits_marked, places_among}
use Rattle.shared_marks.proofs.SeatLemmas.{any_here, any_set, any_joined, any_alone, slice_there}
use Rattle.shared_marks.proofs.ShareLemmas.{others_spent, shares_joined, shares_kept, shares_split}

-- a seat with a share may hold places
has_share : (held : Holding) → 0 < held.parts → IsIdle held
has_share held share none = absurd (omega (arith, share, none))

-- a mark
pub mark_keeps : (count place by : ℕ) (words : List ℕ) (seats : List Holding) (held : Holding) → IsKept count words seats
    → get_elem? seats by ≡ some held → 0 < held.parts → place / 64 < count
    → IsKept count (marked words place (get_or words (place / 64) 0)) (set seats by (marking place held))
mark_keeps count place by words seats held kept here share inside =
    record {
      as_many = length-set words (place / 64) _ ∙ kept.as_many;
      marked = λ other.
          bit_marked words place other within ∙ ap (λ t. place == other || t) (kept.marked other)
          ∙ sym (any_set (λ h. is_among h.marked other) (place == other) seats by held (marking place held) here refl);
      seen = λ other saw.
          let before = kept.seen other (sym (any_set (λ h. is_among h.seen other) false seats by held (marking place held) here refl) ∙ saw) in
          bit_marked words place other within ∙ or_right (place == other) (mark_at words other) before;
      shares = shares_kept seats by held (marking place held) kept.shares here refl refl;
      idle = All-set IsIdle seats by (marking place held) (has_share (marking place held) share) kept.idle;
    }
  where
    within : place / 64 < length words
    within = omega (arith, inside, kept.as_many)

pub mark_step : (count place by : ℕ) (words : List ℕ) (seats : List Holding) (held : Holding) → IsKept count words seats
    → get_elem? seats by ≡ some held → 0 < held.parts → place / 64 < count → (n p : ℕ) → n ≡ count → p ≡ place
    → IsMarkStep n p held (marking place held)
mark_step count place by words seats held kept here share inside n p counted placed =
    subst (λ n. IsMarkStep n p held (marking place held)) (sym counted)
    (subst (λ p. IsMarkStep count p held (marking place held)) (sym placed) (record {
      step = record {
        words = words;
        words_after = marked words place (get_or words (place / 64) 0);
        seats = seats;
        number = by;
        facts = kept;
        own = slice_there seats by held here;
        facts_after = mark_keeps count place by words seats held kept here share inside;
      };
      marked = λ other. bit_marked words place other (omega (arith, inside, kept.as_many));
    }))

-- marks of a word
pub word_keeps : (count word bits by : ℕ) (words : List ℕ) (seats : List Holding) (held : Holding) → IsKept count words seats
    → get_elem? seats by ≡ some held → 0 < held.parts → word < count
    → IsKept count (set words word (bit_or (get_or words word 0) bits)) (set seats by (marking_all (places_of word bits) held))
word_keeps count word bits by words seats held kept here share inside =
    record {
      as_many = length-set words word _ ∙ kept.as_many;
      marked = λ other.
          bits_marked words word bits other within ∙ ap (λ t. is_of_word word bits other || t) (kept.marked other)
          ∙ sym (any_set (λ h. is_among h.marked other) (is_of_word word bits other) seats by held after here (more other));
      seen = λ other saw.
          let before = kept.seen other (sym (any_set (λ h. is_among h.seen other) false seats by held after here refl) ∙ saw) in
          bits_marked words word bits other within ∙ or_right (is_of_word word bits other) (mark_at words other) before;
      shares = shares_kept seats by held after kept.shares here refl refl;
      idle = All-set IsIdle seats by after (has_share after share) kept.idle;
    }
  where
    after : Holding
    after = marking_all (places_of word bits) held

    within : word < length words
    within = omega (arith, inside, kept.as_many)

    more : (other : ℕ) → is_among after.marked other ≡ (is_of_word word bits other || is_among held.marked other)
    more other =
        list_any-append (λ k. k == other) (places_of word bits) held.marked
        ∙ ap (λ t. t || is_among held.marked other) (places_among word bits other)

-- a place that a seat holds is marked
pub held_is_marked : (count place by : ℕ) (words : List ℕ) (seats : List Holding) (held : Holding) → IsKept count words seats
    → get_elem? seats by ≡ some held → is_held held place ≡ true → mark_at words place ≡ true
held_is_marked count place by words seats held kept here holds =
    elim (or_cases (is_among held.marked place) (is_among held.seen place) holds) [
      | inl own ↦ kept.marked place ∙ any_here (λ h. is_among h.marked place) seats by held here own
      | inr saw ↦ kept.seen place (any_here (λ h. is_among h.seen place) seats by held here saw)
    ]

-- a seat of share 1 marked every place that is marked
pub whole_is_marked : (count place by : ℕ) (words : List ℕ) (seats : List Holding) (held : Holding) → IsKept count words seats
    → get_elem? seats by ≡ some held → IsWhole held → mark_at words place ≡ is_among held.marked place
whole_is_marked count place by words seats held kept here whole =
    kept.marked place ∙ any_alone (λ h. is_among h.marked place) seats by held spent here none
  where
    none_at : All (λ h. is_among h.marked place ≡ false) (set seats by spent)
    none_at i d within =
        let idle = All-set IsIdle seats by spent (λ nothing. (refl, refl)) kept.idle i d within in
        ap (λ places. is_among places place) (idle (others_spent seats by held kept.shares here whole i d within)).0

    none : list_any (λ h. is_among h.marked place) (set seats by spent) ≡ false
    none = list_any_none (λ h. is_among h.marked place) (set seats by spent) none_at

-- what a test tells
pub test_tells : (count place by : ℕ) (words : List ℕ) (seats : List Holding) (held : Holding) → IsKept count words seats
    → get_elem? seats by ≡ some held → IsTest place (get_or words (place / 64) 0) held (testing place (mark_at words place) held)
test_tells count place by words seats held kept here = record {
  seen = refl;
  held = held_is_marked count place by words seats held kept here;
  whole = whole_is_marked count place by words seats held kept here;
}

-- a test
pub test_keeps : (count place by : ℕ) (words : List ℕ) (seats : List Holding) (held : Holding) → IsKept count words seats
    → get_elem? seats by ≡ some held → 0 < held.parts → IsKept count words (set seats by (testing place (mark_at words place) held))
test_keeps count place by words seats held kept here share = by_bit (mark_at words place) refl
  where
    by_bit : (bit : _) → mark_at words place ≡ bit → IsKept count words (set seats by (testing place bit held))
    by_bit true is =
        let after = testing place true held in
        record {
          as_many = kept.as_many;
          marked = λ other. kept.marked other ∙ sym (any_set (λ h. is_among h.marked other) false seats by held after here refl);
          seen = λ other saw.
              let passed = sym (any_set (λ h. is_among h.seen other) (place == other) seats by held after here refl) ∙ saw in
              elim (or_cases (place == other) (is_seen seats other) passed) [
                | inl same ↦ ap (mark_at words) (sym (eqb-true place other same)) ∙ is
                | inr before ↦ kept.seen other before
              ];
          shares = shares_kept seats by held after kept.shares here refl refl;
          idle = All-set IsIdle seats by after (has_share after share) kept.idle;
        }
    by_bit false is = record {
      as_many = kept.as_many;
      marked = λ other. kept.marked other ∙ sym (any_set (λ h. is_among h.marked other) false seats by held held here refl);
      seen = λ other saw. kept.seen other (sym (any_set (λ h. is_among h.seen other) false seats by held held here refl) ∙ saw);
      shares = shares_kept seats by held held kept.shares here refl refl;
      idle = All-set IsIdle seats by held (has_share held share) kept.idle;
    }

pub test_step : (count place by : ℕ) (words : List ℕ) (seats : List Holding) (held : Holding) → IsKept count words seats
    → get_elem? seats by ≡ some held → 0 < held.parts → (n p : ℕ) → n ≡ count → p ≡ place
    → IsTestStep n p (has_bit (get_or words (place / 64) 0) p) held (testing place (mark_at words place) held)
test_step count place by words seats held kept here share n p counted placed =
    subst (λ n. IsTestStep n p (has_bit word p) held after) (sym counted)
    (subst (λ p. IsTestStep count p (has_bit word p) held after) (sym placed) (record {
      step = record {
        words = words;
        words_after = words;
        seats = seats;
        number = by;
        facts = kept;
        own = slice_there seats by held here;
        facts_after = test_keeps count place by words seats held kept here share;
      };
      same = refl;
      read = refl;
    }))
  where
    word : ℕ
    word = get_or words (place / 64) 0

    after : Holding
    after = testing place (mark_at words place) held

-- a place whose bit is set, among the marked ones of one more seat
pub note_keeps : (count place by : ℕ) (words : List ℕ) (seats : List Holding) (held : Holding) → IsKept count words seats
    → get_elem? seats by ≡ some held → 0 < held.parts → IsKept count words (set seats by (noting place (mark_at words place) held))
note_keeps count place by words seats held kept here share = by_bit (mark_at words place) refl
  where
    again : mark_at words place ≡ true → (other : ℕ) → mark_at words other ≡ (place == other || mark_at words other)
    again is other = elim (cases_eq place other) [
      | inl same ↦ ap (mark_at words) (sym same) ∙ is ∙ ap (λ b. b || mark_at words other) (sym (eq-eqb place other same))
      | inr apart ↦ ap (λ b. b || mark_at words other) (sym (ne_eqb place other apart))
    ]

    by_bit : (bit : _) → mark_at words place ≡ bit → IsKept count words (set seats by (noting place bit held))
    by_bit true is =
        let after = marking place held in
        record {
          as_many = kept.as_many;
          marked = λ other.
              again is other ∙ ap (λ t. place == other || t) (kept.marked other)
              ∙ sym (any_set (λ h. is_among h.marked other) (place == other) seats by held after here refl);
          seen = λ other saw. kept.seen other (sym (any_set (λ h. is_among h.seen other) false seats by held after here refl) ∙ saw);
          shares = shares_kept seats by held after kept.shares here refl refl;
          idle = All-set IsIdle seats by after (has_share after share) kept.idle;
        }
    by_bit false is = record {
      as_many = kept.as_many;
      marked = λ other. kept.marked other ∙ sym (any_set (λ h. is_among h.marked other) false seats by held held here refl);
      seen = λ other saw. kept.seen other (sym (any_set (λ h. is_among h.seen other) false seats by held held here refl) ∙ saw);
      shares = shares_kept seats by held held kept.shares here refl refl;
      idle = All-set IsIdle seats by held (has_share held share) kept.idle;
    }

-- a seat that is split
pub split_keeps : (count by : ℕ) (words : List ℕ) (seats : List Holding) (held : Holding) → IsKept count words seats
    → get_elem? seats by ≡ some held → 0 < held.parts → IsKept count words (set seats by (halved held) ++ other_half held ∷ [])
split_keeps count by words seats held kept here share =
    let left = set seats by (halved held) in
    record {
      as_many = kept.as_many;
      marked = λ place.
          kept.marked place
          ∙ sym (list_any-append (λ h. is_among h.marked place) left (other_half held ∷ []) ∙ or-false (is_marked left place)
          ∙ any_set (λ h. is_among h.marked place) false seats by held (halved held) here refl);
      seen = λ place saw.
          elim (or_cases (is_seen left place) (is_seen (other_half held ∷ []) place)
          (sym (list_any-append (λ h. is_among h.seen place) left (other_half held ∷ [])) ∙ saw)) [
            | inl before ↦ kept.seen place (sym (any_set (λ h. is_among h.seen place) false seats by held (halved held) here refl) ∙ before)
            | inr told ↦
                held_is_marked count place by words seats held kept here
                (sym (list_any-append (λ k. k == place) held.marked held.seen) ∙ sym (or-false (is_among (held.marked ++ held.seen) place)) ∙ told)
          ];
      shares = shares_split seats by held kept.shares here;
      idle = All-push IsIdle left (other_half held) (All-set IsIdle seats by (halved held) (has_share (halved held) share) kept.idle)
          (has_share (other_half held) share);
    }

-- two seats that are joined have a share
pub joined_share : (held other : Holding) → 0 < held.parts → 0 < (joined held other).parts
joined_share held other share = grows held.parts (2 ^ other.halvings) (other.parts * 2 ^ held.halvings) share (pow_pos other.halvings)
  where
    grows : (a b c : ℕ) → 0 < a → 0 < b → 0 < a * b + c
    grows a b c first second = grind arith

-- and are joined
pub join_keeps : (count by from : ℕ) (words : List ℕ) (seats : List Holding) (held other : Holding) → IsKept count words seats
    → get_elem? seats by ≡ some held → ¬ (from ≡ by) → get_elem? (set seats by (joined held other)) from ≡ some other → 0 < (joined held other).parts
    → IsKept count words (set (set seats by (joined held other)) from spent)
join_keeps count by from words seats held other kept here apart there share = record {
  as_many = kept.as_many;
  marked = λ place.
      kept.marked place
      ∙ sym (any_joined (λ h. is_among h.marked place) seats by from held other (joined held other) spent here apart there
      (list_any-append (λ k. k == place) held.marked other.marked) refl);
  seen = λ place saw.
      kept.seen place
      (sym (any_joined (λ h. is_among h.seen place) seats by from held other (joined held other) spent here apart there
      (list_any-append (λ k. k == place) held.seen other.seen) refl) ∙ saw);
  shares = shares_joined seats by from held other kept.shares here apart there;
  idle = All-set IsIdle (set seats by (joined held other)) from spent (λ nothing. (refl, refl))
      (All-set IsIdle seats by (joined held other) (has_share (joined held other) share) kept.idle);
}
