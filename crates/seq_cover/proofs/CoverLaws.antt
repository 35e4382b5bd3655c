-- Growth covers: its rows are permitted orders, and each sequence is had by one of them, or is set aside with a cycle.
use Rattle.std.proofs.Common.{◌≡◌, ℕ, ◌<◌, ◌⊎◌, true, false, ◌||◌, List, [], ◌∷◌, ◌++◌, length, find, fold}
use Rattle.std.proofs.Common.{Option, Some, None, All, Any, inl, inr, refl, sym, subst, ◌∙◌, arith, length-append}
use Rattle.std.specs.List.{list_all, range_with_len}
use Rattle.std.proofs.lemmas.Bool.{and_from, and_parts, cases_Bool, cond-false, cond-true, or_left, or_right}
use Rattle.std.proofs.lemmas.List.{get_or_append_left}
use Rattle.std.proofs.lemmas.List.Elements.{All-append, All-cons, All-head, All-nil, All-push, All-tail, All-weaker}
use Rattle.std.proofs.lemmas.List.Folds.{list_all-append, list_any-append}
use Rattle.std.proofs.lemmas.List.Quantifiers.{Any-push}
use Rattle.seq_check.proofs.CheckSteps.{steps_exist}
use Rattle.seq_check.specs.believed.Events.{AreEvents, EventsView}
use Rattle.seq_check.specs.believed.Orders.{arrows, has, has_each, is_had, is_permitted, is_sequence, keeps, sequences, steps}
use Rattle.seq_cover.specs.Covering.{Covers}
use Rattle.seq_cover.specs.believed.Covering.{IsNever}
use Rattle.seq_cover.specs.believed.OrderGrowth.{built_from, grown, nothing_grown, settled, settled_by}
use Rattle.seq_cover.specs.believed.Ways.{cycle_from, cycle_of, leads}
use Rattle.seq_cover.specs.declared.suite.Never.{Never}
use Rattle.seq_cover.specs.declared.suite.OrderSuite.{OrderSuite}
use Rattle.seq_cover.specs.Building.{ExistBelow}
use Rattle.seq_cover.proofs.CycleLaws.{told_is}
use Rattle.seq_cover.proofs.FindLaws.{number_fails}
use Rattle.seq_cover.proofs.NoOrder.{no_order}
use Rattle.seq_cover.proofs.PlacingLaws.{row_is}
use Rattle.seq_cover.proofs.SequenceLaws.{each_sequence, sequence_parts, sequences_are}

pub Any-append_left : {X : Type 0} (P : X → Type 0) (xs ys : List X) → Any P xs → Any P (xs ++ ys)
Any-append_left P xs ys any =
    (any.0, any.1, omega (arith, any.2, length-append xs ys), get_or_append_left xs ys any.1 any.0 any.2 ∙ any.3, any.4)

module _ (e : EventsView) (kept : AreEvents e) where
  abbrev count : ℕ
  count = length e.names

  -- a row is a permitted order of the events, and what is set aside has a cycle of events
  abbrev pub IsGoodRow : List ℕ → Type 0
  IsGoodRow row = (is_permitted e row ≡ true) × All (λ event. event < count) row

  abbrev pub IsGoodNever : Never → Type 0
  IsGoodNever never = IsNever e never.sequence never.cycle × All (λ event. event < count) never.cycle

  pub record IsGood (suite : OrderSuite) : Type 0 where
    pub rows_are : All IsGoodRow suite.rows
    pub nevers_are : All IsGoodNever suite.never

  abbrev pub IsMet : OrderSuite → List ℕ → Type 0
  IsMet suite sequence = (is_had suite.rows sequence ≡ true) ⊎ Any (λ never. never.sequence ≡ sequence) suite.never

  -- the arrows of a sequence are among the events
  arrows_exist : (sequence : List ℕ) → is_sequence e sequence ≡ true → ExistBelow count (arrows e sequence)
  arrows_exist sequence is =
      All-append (λ pair. (pair.0 < count) × (pair.1 < count)) (steps sequence) e.precedences
      (steps_exist count sequence (sequence_parts e sequence is).below) kept.exist

  -- the row that is built for a sequence without a cycle
  record HasRow (rows : List (List ℕ)) (sequence row : List ℕ) : Type 0 where
    good : IsGoodRow row
    had : has row sequence ≡ true

  row_for : (rows : List (List ℕ)) (sequence : List ℕ) → is_sequence e sequence ≡ true → cycle_of count (arrows e sequence) ≡ None
      → HasRow rows sequence (built_from count e.len (arrows e sequence) rows count [])
  row_for rows sequence is none =
      let pairs = arrows e sequence in
      let row = built_from count e.len pairs rows count [] in
      let whole = row_is count pairs (arrows_exist sequence is)
      (number_fails (λ event. leads pairs event event) count (no_first (find (λ event. leads pairs event event) (range_with_len 0 count)) refl none)) e.len rows in
      let both = and_parts (list_all (keeps row) (steps sequence)) (list_all (keeps row) e.precedences) (sym (list_all-append (keeps row) (steps sequence) e.precedences) ∙ whole.kept) in
      record {
        good = (and_from (has_each count row) (list_all (keeps row) e.precedences) whole.whole both.1, whole.below);
        had = both.0;
      }
    where
      no_first :
          (first : Option ℕ) → find (λ event. leads (arrows e sequence) event event) (range_with_len 0 count) ≡ first
          → cycle_from count (arrows e sequence) first ≡ None → find (λ event. leads (arrows e sequence) event event) (range_with_len 0 count) ≡ None
      no_first None found nothing = found
      no_first (Some x) found nothing = absurd (cc)

  -- ---- one sequence

  record Settles (suite after : OrderSuite) (sequence : List ℕ) : Type 0 where
    good : IsGood after
    met : IsMet after sequence
    stays : (other : List ℕ) → IsMet suite other → IsMet after other

  set_aside : (suite : OrderSuite) (sequence cycle : List ℕ) → IsGood suite → is_sequence e sequence ≡ true → cycle_of count (arrows e sequence) ≡ Some cycle
      → Settles suite (settled_by e suite sequence (Some cycle)) sequence
  set_aside suite sequence cycle good is told =
      let never : Never = record { sequence = sequence; cycle = cycle } in
      let it = told_is count (arrows e sequence) cycle (arrows_exist sequence is) told in
      record {
        good = record {
          rows_are = good.rows_are;
          nevers_are = All-push IsGoodNever suite.never never good.nevers_are
              (record { sequence_is = is; cycle_is = it.is; no_order = no_order e sequence cycle it.is }, it.exist);
        };
        met = inr (Any-push (λ n. n.sequence ≡ sequence) suite.never never refl);
        stays = λ other met. elim met [
          | inl had ↦ inl had
          | inr named ↦ inr (Any-append_left (λ n. n.sequence ≡ other) suite.never (never ∷ []) named)
        ];
      }

  gets_row : (suite : OrderSuite) (sequence : List ℕ) → IsGood suite → is_sequence e sequence ≡ true → cycle_of count (arrows e sequence) ≡ None
      → Settles suite (settled_by e suite sequence None) sequence
  gets_row suite sequence good is none =
      let row = built_from count e.len (arrows e sequence) suite.rows count [] in
      let it = row_for suite.rows sequence is none in
      let more : (other : List ℕ) → is_had (suite.rows ++ row ∷ []) other ≡ (is_had suite.rows other || (has row other || false)) = λ other.
      list_any-append (λ order. has order other) suite.rows (row ∷ []) in
      record {
        good = record { rows_are = All-push IsGoodRow suite.rows row good.rows_are it.good; nevers_are = good.nevers_are };
        met = inl (more sequence ∙ or_right (is_had suite.rows sequence) (has row sequence || false) (or_left (has row sequence) false it.had));
        stays = λ other met. elim met [
          | inl had ↦ inl (more other ∙ or_left (is_had suite.rows other) (has row other || false) had)
          | inr named ↦ inr named
        ];
      }

  settles : (suite : OrderSuite) (sequence : List ℕ) → IsGood suite → is_sequence e sequence ≡ true → Settles suite (settled e suite sequence) sequence
  settles suite sequence good is = elim (cases_Bool (is_had suite.rows sequence)) [
    | inl had ↦
        subst (λ after. Settles suite after sequence) (sym (cond-true (is_had suite.rows sequence) suite (settled_by e suite sequence (cycle_of count (arrows e sequence))) had))
        (record { good = good; met = inl had; stays = λ other met. met })
    | inr not_had ↦
        subst (λ after. Settles suite after sequence) (sym (cond-false (is_had suite.rows sequence) suite (settled_by e suite sequence (cycle_of count (arrows e sequence))) not_had))
        (at (cycle_of count (arrows e sequence)) refl)
  ]
    where
      at : (cycle : Option (List ℕ)) → cycle_of count (arrows e sequence) ≡ cycle → Settles suite (settled_by e suite sequence cycle) sequence
      at None told = gets_row suite sequence good is told
      at (Some cycle) told = set_aside suite sequence cycle good is told

  -- ---- all sequences

  record SettlesAll (suite after : OrderSuite) (those : List (List ℕ)) : Type 0 where
    good : IsGood after
    met : All (IsMet after) those
    stays : (other : List ℕ) → IsMet suite other → IsMet after other

  settles_all : (those : List (List ℕ)) (suite : OrderSuite) → IsGood suite → All (λ sequence. is_sequence e sequence ≡ true) those → SettlesAll suite (fold (settled e) suite those) those
  settles_all [] suite good are = record { good = good; met = All-nil (IsMet suite); stays = λ other met. met }
  settles_all (sequence ∷ those) suite good are =
      let first = settles suite sequence good (All-head (λ s. is_sequence e s ≡ true) sequence those are) in
      let rest = settles_all those (settled e suite sequence) first.good (All-tail (λ s. is_sequence e s ≡ true) sequence those are) in
      record {
        good = rest.good;
        met = All-cons (IsMet (fold (settled e) (settled e suite sequence) those)) sequence those (rest.stays sequence first.met) rest.met;
        stays = λ other met. rest.stays other (first.stays other met);
      }

  nothing_good : IsGood nothing_grown
  nothing_good = record { rows_are = All-nil IsGoodRow; nevers_are = All-nil IsGoodNever }

  all_settled : SettlesAll nothing_grown (grown e) (sequences e)
  all_settled = settles_all (sequences e) nothing_grown nothing_good (sequences_are e)

  pub grown_good : IsGood (grown e)
  grown_good = all_settled.good

  pub grown_met : All (IsMet (grown e)) (sequences e)
  grown_met = all_settled.met

  pub grown_covers : Covers e (grown e)
  grown_covers = record {
    rows_are = All-weaker IsGoodRow (λ row. is_permitted e row ≡ true) (λ row is. is.0) (grown e).rows grown_good.rows_are;
    nevers_are = All-weaker IsGoodNever (λ never. IsNever e never.sequence never.cycle) (λ never is. is.0) (grown e).never grown_good.nevers_are;
    covered = each_sequence e (IsMet (grown e)) grown_met;
  }
