-- The report of a suite that covers is accepted, and covers as a text.
use Rattle.std.proofs.Common.{◌≡◌, ℕ, ◌+◌, ◌<◌, ◌⊎◌, true, false, not, List, [], ◌∷◌, ◌++◌, length, map, get_or, nat_lt, eqb, find, filter_map}
use Rattle.std.proofs.Common.{position, bytes_eq, Option, Some, None, All, Any, inl, inr, refl, sym, ap, subst, ◌∙◌, arith, length-append, map-id, ◌-◌}
use Rattle.std.specs.List.{list_all, list_any, position_or_len}
use Rattle.std.proofs.lemmas.Bool.{false≢true, and_left, and_parts, and_right, cond-false, eqb-true}
use Rattle.std.proofs.lemmas.List.{append-nil, get_or-map, get_or-append_right, length-map, map-append}
use Rattle.std.proofs.lemmas.List.Elements.{All-append, All-head, All-map, All-tail, All-weaker, filter_map-append}
use Rattle.std.proofs.lemmas.List.Folds.{Any-from_list_any, list_any_at, list_any_none}
use Rattle.std.proofs.lemmas.Slice.Eq.{bytes_eq-Decides}
use Rattle.value_text.proofs.ListLemmas.{list_any-position, nothing_found}
use Rattle.seq_check.specs.believed.Events.{AreEvents, EventsView}
use Rattle.seq_check.specs.believed.OrderReport.{ReportLine, Row, Never, is_wrong, never_line, never_named, report_line_of, report_lines, row_line, row_named}
use Rattle.seq_check.specs.believed.Orders.{has, has_each, is_cycle, is_had, is_permitted, is_sequence, keeps, sequences}
use Rattle.seq_check.specs.believed.Verdicts.{by_line, by_sequence, is_left, nevers_in, rows_in, verdict, verdict_on}
use Rattle.seq_check.specs.declared.verdict.OrderVerdict.TheVariants.{Accepted}
use Rattle.seq_cover.specs.Covering.{Covers}
use Rattle.seq_cover.specs.believed.Covering.{IsCovering, IsNeverLine, IsRowLine}
use Rattle.seq_cover.specs.believed.OrderGrowth.{grown}
use Rattle.seq_cover.specs.believed.ReportText.{report_text, suite_lines}
use Rattle.seq_cover.specs.declared.suite.Never as code
use Rattle.seq_cover.specs.declared.suite.OrderSuite.{OrderSuite}
use Rattle.seq_cover.proofs.CoverLaws.{Any-append_left, IsGood, IsGoodNever, IsGoodRow, IsMet, grown_covers, grown_good, grown_met}
use Rattle.seq_cover.proofs.ReportLaws.{Lacks, lines_back, never_back, never_lacks, row_back, row_lacks}
use Rattle.seq_cover.proofs.SequenceLaws.{sequence_parts}

-- ---- lists

maps_same : {X Y Z : Type 0} (f : Y → Z) (g : X → Y) (h : X → Z) (xs : List X) → All (λ x. f (g x) ≡ h x) xs → map f (map g xs) ≡ map h xs
maps_same f g h [] same = refl
maps_same f g h (x ∷ xs) same =
    ap (λ y. y ∷ map f (map g xs)) (All-head (λ y. f (g y) ≡ h y) x xs same) ∙ ap (λ ys. h x ∷ ys) (maps_same f g h xs (All-tail (λ y. f (g y) ≡ h y) x xs same))

keeps_all : {X Y Z : Type 0} (f : Y → Option Z) (g : X → Y) (h : X → Z) (xs : List X) → ((x : X) → f (g x) ≡ Some (h x)) → filter_map f (map g xs) ≡ map h xs
keeps_all f g h [] same = refl
keeps_all f g h (x ∷ xs) same = rw (same x) (ap (λ ys. h x ∷ ys) (keeps_all f g h xs same))

keeps_none : {X Y Z : Type 0} (f : Y → Option Z) (g : X → Y) (xs : List X) → ((x : X) → f (g x) ≡ None) → filter_map f (map g xs) ≡ []
keeps_none f g [] none = refl
keeps_none f g (x ∷ xs) none = rw (none x) (keeps_none f g xs none)

Any-map : {X Y : Type 0} (P : Y → Type 0) (f : X → Y) (xs : List X) → Any (λ x. P (f x)) xs → Any P (map f xs)
Any-map P f xs any =
    let within = any.2 in
    (any.0, f any.1, omega (arith, within, length-map xs f), get_or-map f xs any.0 any.1 (f any.1) any.2 ∙ ap f any.3, any.4)

Any-append_right : {X : Type 0} (P : X → Type 0) (xs ys : List X) → Any P ys → Any P (xs ++ ys)
Any-append_right P xs ys any =
    let within = any.2 in
    let back : length xs + any.0 - length xs ≡ any.0 = omega arith in (
      length xs + any.0,
      any.1,
      omega (arith, within, length-append xs ys),
      get_or-append_right xs ys (length xs) (length xs + any.0) any.1 refl (omega arith) ∙ ap (λ k. get_or ys k any.1) back ∙ any.3,
      any.4,
    )

Any-weaker : {X : Type 0} (P Q : X → Type 0) (xs : List X) → All (λ x. P x → Q x) xs → Any P xs → Any Q xs
Any-weaker P Q xs follows any = (any.0, any.1, any.2, any.3, subst (λ x. P x → Q x) any.3 (follows any.0 any.1 any.2) any.4)

none_wrong : (lines : List ReportLine) → All (λ line. is_wrong line ≡ false) lines → position is_wrong lines ≡ None
none_wrong lines good =
    cond-false (nat_lt (position_or_len is_wrong lines) (length lines)) (Some (position_or_len is_wrong lines)) None
    (sym (list_any-position is_wrong lines) ∙ list_any_none is_wrong lines good)

-- ---- the report of a good suite

module _ (e : EventsView) (kept : AreEvents e) (suite : OrderSuite) (good : IsGood e kept suite) where
  some_events : 0 < length e.names
  some_events = let enough = kept.enough in elim kept.len [ inl two ↦ omega (arith, two) | inr three ↦ omega (arith, three) ]

  some_in_row : (row : List ℕ) → is_permitted e row ≡ true → 0 < length row
  some_in_row row permitted =
      let whole = (and_parts (has_each (length e.names) row) (list_all (keeps row) e.precedences) permitted).0 in
      let long = eqb-true (length row) (length e.names) (and_parts (eqb (length row) (length e.names)) _ whole).0 in
      omega (arith, long, some_events)

  some_in_sequence : (sequence : List ℕ) → is_sequence e sequence ≡ true → 0 < length sequence
  some_in_sequence sequence is =
      let long = (sequence_parts e sequence is).long in
      elim kept.len [ inl two ↦ omega (arith, long, two) | inr three ↦ omega (arith, long, three) ]

  some_in_cycle : (pairs : List (ℕ × ℕ)) (cycle : List ℕ) → is_cycle pairs cycle ≡ true → 0 < length cycle
  some_in_cycle pairs [] is = absurd (false≢true is)
  some_in_cycle pairs (x ∷ cycle) is = omega arith

  abbrev row_text : List ℕ → List ℕ
  row_text = row_line e

  abbrev never_text : code.Never → List ℕ
  never_text never = never_line e never.sequence never.cycle

  -- its lines
  rows_lack : All (Lacks 10) (map row_text suite.rows)
  rows_lack = All-map (Lacks 10) row_text suite.rows (All-weaker (IsGoodRow e kept) (λ row. Lacks 10 (row_text row)) (λ row is. row_lacks e kept row is.1) suite.rows good.rows_are)

  nevers_lack : All (Lacks 10) (map never_text suite.never)
  nevers_lack =
      All-map (Lacks 10) never_text suite.never
      (All-weaker (IsGoodNever e kept) (λ never. Lacks 10 (never_text never))
      (λ never is.
      let sequence = sequence_parts e never.sequence is.0.sequence_is in
      never_lacks e kept never.sequence never.cycle is.0.sequence_is is.0.cycle_is sequence.long sequence.below is.1
      (some_in_sequence never.sequence is.0.sequence_is) (some_in_cycle _ never.cycle is.0.cycle_is))
      suite.never good.nevers_are)

  pub lines_are : report_lines (report_text e suite) ≡ suite_lines e suite
  lines_are = lines_back (suite_lines e suite) (All-append (Lacks 10) (map row_text suite.rows) (map never_text suite.never) rows_lack nevers_lack)

  -- what they are read as
  abbrev named : code.Never → ReportLine
  named never = Never never.sequence

  abbrev read : List ReportLine
  read = map Row suite.rows ++ map named suite.never

  rows_read : map (report_line_of e) (map row_text suite.rows) ≡ map Row suite.rows
  rows_read =
      maps_same (report_line_of e) row_text Row suite.rows
      (All-weaker (IsGoodRow e kept) (λ row. report_line_of e (row_text row) ≡ Row row) (λ row is. row_back e kept row is.1 is.0 (some_in_row row is.0)) suite.rows good.rows_are)

  nevers_read : map (report_line_of e) (map never_text suite.never) ≡ map named suite.never
  nevers_read =
      maps_same (report_line_of e) never_text named suite.never
      (All-weaker (IsGoodNever e kept) (λ never. report_line_of e (never_text never) ≡ named never)
      (λ never is.
      let sequence = sequence_parts e never.sequence is.0.sequence_is in
      never_back e kept never.sequence never.cycle is.0.sequence_is is.0.cycle_is sequence.long sequence.below is.1
      (some_in_sequence never.sequence is.0.sequence_is) (some_in_cycle _ never.cycle is.0.cycle_is))
      suite.never good.nevers_are)

  read_is : map (report_line_of e) (report_lines (report_text e suite)) ≡ read
  read_is =
      ap (map (report_line_of e)) lines_are ∙ map-append (report_line_of e) (map row_text suite.rows) (map never_text suite.never)
      ∙ ap (λ l. l ++ map (report_line_of e) (map never_text suite.never)) rows_read ∙ ap (λ l. map Row suite.rows ++ l) nevers_read

  rows_found : rows_in read ≡ suite.rows
  rows_found =
      filter_map-append row_named (map Row suite.rows) (map named suite.never)
      ∙ ap (λ l. l ++ filter_map row_named (map named suite.never)) (keeps_all row_named Row (λ row. row) suite.rows (λ row. refl) ∙ map-id suite.rows)
      ∙ ap (λ l. suite.rows ++ l) (keeps_none row_named named suite.never (λ never. refl)) ∙ append-nil suite.rows

  abbrev aside : List (List ℕ)
  aside = map (λ (never : code.Never). never.sequence) suite.never

  nevers_found : nevers_in read ≡ aside
  nevers_found =
      filter_map-append never_named (map Row suite.rows) (map named suite.never)
      ∙ ap (λ l. l ++ filter_map never_named (map named suite.never)) (keeps_none never_named Row suite.rows (λ row. refl))
      ∙ keeps_all never_named named (λ never. never.sequence) suite.never (λ never. refl)

  none_is_wrong : position is_wrong read ≡ None
  none_is_wrong =
      none_wrong read (All-append (λ line. is_wrong line ≡ false) (map Row suite.rows) (map named suite.never)
      (All-map (λ line. is_wrong line ≡ false) Row suite.rows (λ k d within. refl)) (All-map (λ line. is_wrong line ≡ false) named suite.never (λ k d within. refl)))

  -- a sequence that is met isn't left
  not_left : (sequence : List ℕ) → IsMet e kept suite sequence → is_left read sequence ≡ false
  not_left sequence (inl had) =
      and_left (not (is_had (rows_in read) sequence)) (not (list_any (bytes_eq sequence) (nevers_in read)))
      (ap (λ rows. not (is_had rows sequence)) rows_found ∙ ap not had)
  not_left sequence (inr found) =
      let at = Any-map (λ other. other ≡ sequence) (λ (never : code.Never). never.sequence) suite.never found in
      let same : bytes_eq sequence (get_or aside at.0 at.1) ≡ true = (bytes_eq-Decides sequence (get_or aside at.0 at.1)).1 (sym (at.3 ∙ at.4)) in
      let any : list_any (bytes_eq sequence) (nevers_in read) ≡ true = ap (list_any (bytes_eq sequence)) nevers_found ∙ list_any_at (bytes_eq sequence) aside at.0 at.1 at.2 same in
      and_right (not (is_had (rows_in read) sequence)) (not (list_any (bytes_eq sequence) (nevers_in read))) (ap not any)

  module _ (met : All (IsMet e kept suite) (sequences e)) where
    none_left : find (is_left read) (sequences e) ≡ None
    none_left = nothing_found (is_left read) (sequences e) (All-weaker (IsMet e kept suite) (λ s. is_left read s ≡ false) not_left (sequences e) met)

    pub accepted_is : verdict e (report_text e suite) ≡ Accepted (length suite.rows) (length suite.never)
    accepted_is =
        ap (verdict_on e) read_is ∙ ap (by_line e read) none_is_wrong ∙ ap (by_sequence read) none_left
        ∙ ap (λ rows. Accepted (length rows) (length (nevers_in read))) rows_found
        ∙ ap (λ nevers. Accepted (length suite.rows) (length nevers)) nevers_found
        ∙ ap (Accepted (length suite.rows)) (length-map suite.never (λ (never : code.Never). never.sequence))

  -- ---- the report covers

  abbrev IsLine : List ℕ → Type 0
  IsLine line = IsRowLine e (λ order. Unit {0}) line ⊎ ((sequence : List ℕ) × IsNeverLine e sequence line)

  each_line : All IsLine (suite_lines e suite)
  each_line =
      All-append IsLine (map row_text suite.rows) (map never_text suite.never)
      (All-map IsLine row_text suite.rows (All-weaker (IsGoodRow e kept) (λ row. IsLine (row_text row)) (λ row is. inl (row, is.0, refl, tt)) suite.rows good.rows_are))
      (All-map IsLine never_text suite.never
      (All-weaker (IsGoodNever e kept) (λ never. IsLine (never_text never)) (λ never is. inr (never.sequence, (never.cycle, is.0, refl))) suite.never good.nevers_are))

  pub text_covers : Covers e suite → IsCovering e (report_text e suite)
  text_covers covers = record {
    lines_are = subst (All IsLine) (sym lines_are) each_line;
    covered = λ sequence is. elim (covers.covered sequence is) [
      | inl had ↦
          let P : List ℕ → Type 0 = IsRowLine e (λ order. has order sequence ≡ true) in
          let row = Any-weaker (λ row. has row sequence ≡ true) (λ row. P (row_text row)) suite.rows
          (All-weaker (IsGoodRow e kept) (λ row. has row sequence ≡ true → P (row_text row)) (λ row is has_it. (row, is.0, refl, has_it)) suite.rows good.rows_are)
          (Any-from_list_any (λ row. has row sequence) suite.rows had) in
          inl (subst (Any P) (sym lines_are) (Any-append_left P (map row_text suite.rows) (map never_text suite.never) (Any-map P row_text suite.rows row)))
      | inr found ↦
          let P : List ℕ → Type 0 = IsNeverLine e sequence in
          let never = Any-weaker (λ (never : code.Never). never.sequence ≡ sequence) (λ never. P (never_text never)) suite.never
          (All-weaker (IsGoodNever e kept) (λ never. never.sequence ≡ sequence → P (never_text never))
          (λ never is same. subst (λ s. IsNeverLine e s (never_text never)) same (never.cycle, is.0, refl)) suite.never good.nevers_are) found in
          inr (subst (Any P) (sym lines_are) (Any-append_right P (map row_text suite.rows) (map never_text suite.never) (Any-map P never_text suite.never never)))
    ];
  }

-- the report of what is grown
pub grown_accepted : (e : EventsView) → AreEvents e → verdict e (report_text e (grown e)) ≡ Accepted (length (grown e).rows) (length (grown e).never)
grown_accepted e kept = accepted_is e kept (grown e) (grown_good e kept) (grown_met e kept)

pub grown_text_covers : (e : EventsView) → AreEvents e → IsCovering e (report_text e (grown e))
grown_text_covers e kept = text_covers e kept (grown e) (grown_good e kept) (grown_covers e kept)
