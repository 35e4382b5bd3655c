-- The steps of the check of a report.
use Rattle.std.proofs.Common.{◌≡◌, ℕ, ◌+◌, ◌^◌, ◌<◌, ◌≤◌, Bool, true, false, not, ◌&&◌, ◌||◌, List, [], ◌∷◌, ◌++◌, length, map, Option}
use Rattle.std.proofs.Common.{Some, None, position, cond, nat_lt, All, refl, sym, ap, subst, ◌∙◌, arith, append_assoc, length-append}
use Rattle.std.specs.List.{find, list_any, position_or_len}
use Rattle.std.specs.Str.{bytes_eq}
use Rattle.std.proofs.lemmas.Bool.{and_parts, eqb-true, lt-ltb, le-ltb, ltb-true}
use Rattle.std.proofs.lemmas.List.{append-nil, length_push}
use Rattle.std.proofs.lemmas.List.Elements.{All-nil, All-push, All-head, All-tail, All-append, All-map, All-weaker, filter_map-append}
use Rattle.std.proofs.lemmas.List.Folds.{list_any-append}
use Rattle.std.proofs.lemmas.List.FromFn.{length-map-range_with_len}
use Rattle.std.proofs.lemmas.List.Sums.{AllPass-from_list_all}
use Rattle.seq_check.specs.Checking.{Checked}
use Rattle.seq_check.specs.believed.Events.{EventsView, AreEvents}
use Rattle.seq_check.specs.EventSets.{IsFront, OpenView, Tells, is_open, places, rises}
use Rattle.seq_check.specs.believed.OrderReport.{ReportLine, Row, Never, Wrong, is_wrong, never_named, report_line_of, report_lines, row_named}
use Rattle.seq_check.specs.believed.Orders.{has, is_had, is_sequence, place, sequences, steps}
use Rattle.seq_check.specs.believed.Verdicts.{by_line, by_sequence, is_left, nevers_in, rows_in, verdict, verdict_on}
use Rattle.seq_check.specs.declared.verdict.OrderVerdict.TheVariants.{BadLine}
use Rattle.seq_check.proofs.StepLemmas.{all_kept}

-- tests: one more is closed
closed_row : (a b h : Bool) → (not (a || (h || false)) && not b) ≡ ((not a && not b) && not h)
closed_row true b h = refl
closed_row false true true = refl
closed_row false true false = refl
closed_row false false true = refl
closed_row false false false = refl

closed_never : (a b h : Bool) → (not a && not (b || (h || false))) ≡ ((not a && not b) && not h)
closed_never true b h = refl
closed_never false true h = refl
closed_never false false true = refl
closed_never false false false = refl

-- a row and a named sequence close sequences
pub left_by_row : (lines : List ReportLine) (order sequence : List ℕ) → is_left (lines ++ Row order ∷ []) sequence ≡ (is_left lines sequence && not (has order sequence))
left_by_row lines order sequence =
    ap (λ rows. not (is_had rows sequence) && not (list_any (bytes_eq sequence) (nevers_in (lines ++ Row order ∷ [])))) (filter_map-append row_named lines (Row order ∷ []))
    ∙ ap (λ nevers. not (is_had (rows_in lines ++ order ∷ []) sequence) && not (list_any (bytes_eq sequence) nevers))
    (filter_map-append never_named lines (Row order ∷ []) ∙ append-nil (nevers_in lines))
    ∙ ap (λ t. not t && not (list_any (bytes_eq sequence) (nevers_in lines))) (list_any-append (λ o. has o sequence) (rows_in lines) (order ∷ []))
    ∙ closed_row (is_had (rows_in lines) sequence) (list_any (bytes_eq sequence) (nevers_in lines)) (has order sequence)

pub left_by_never : (lines : List ReportLine) (named sequence : List ℕ) → is_left (lines ++ Never named ∷ []) sequence ≡ (is_left lines sequence && not (bytes_eq sequence named))
left_by_never lines named sequence =
    ap (λ rows. not (is_had rows sequence) && not (list_any (bytes_eq sequence) (nevers_in (lines ++ Never named ∷ []))))
    (filter_map-append row_named lines (Never named ∷ []) ∙ append-nil (rows_in lines))
    ∙ ap (λ nevers. not (is_had (rows_in lines) sequence) && not (list_any (bytes_eq sequence) nevers)) (filter_map-append never_named lines (Never named ∷ []))
    ∙ ap (λ t. not (is_had (rows_in lines) sequence) && not t) (list_any-append (bytes_eq sequence) (nevers_in lines) (named ∷ []))
    ∙ closed_never (is_had (rows_in lines) sequence) (list_any (bytes_eq sequence) (nevers_in lines)) (bytes_eq sequence named)

-- the place of a wrong line behind good ones
wrong_at : (lines : List ReportLine) (more : List ReportLine) → All (λ l. is_wrong l ≡ false) lines → position_or_len is_wrong (lines ++ more) ≡ length lines + position_or_len is_wrong more
wrong_at [] more good = omega arith
wrong_at (l ∷ lines) more good =
    let rest = wrong_at lines more (All-tail (λ k. is_wrong k ≡ false) l lines good) in
    rw (All-head (λ k. is_wrong k ≡ false) l lines good) (omega (arith, rest))

position_is : (lines : List ReportLine) (k : ℕ) → position_or_len is_wrong lines ≡ k → k < length lines → position is_wrong lines ≡ Some k
position_is lines k placed within = rw placed (ap (λ t. cond t (Some k) None) (lt-ltb k (length lines) within))

position_none : (lines : List ReportLine) → position_or_len is_wrong lines ≡ length lines → position is_wrong lines ≡ None
position_none lines placed = rw placed (ap (λ t. cond t (Some (length lines)) None) (le-ltb (length lines) (length lines) (omega arith)))

-- the events of steps exist
pub steps_exist : (n : ℕ) (s : List ℕ) → All (λ event. event < n) s → All (λ pair. (pair.0 < n) × (pair.1 < n)) (steps s)
steps_exist n [] exist = All-nil (λ pair. (pair.0 < n) × (pair.1 < n))
steps_exist n (x ∷ xs) exist =
    let rest = All-tail (λ event. event < n) x xs exist in
    let here = All-head (λ event. event < n) x xs exist in
    All-append (λ pair. (pair.0 < n) × (pair.1 < n)) (map (λ later. (x, later)) xs) (steps xs)
    (All-map (λ pair. (pair.0 < n) × (pair.1 < n)) (λ later. (x, later)) xs (All-weaker (λ event. event < n) (λ later. (x < n) × (later < n)) (λ later low. (here, low)) xs rest))
    (steps_exist n xs rest)

-- a sequence has the length that is asked for, and its events exist
pub sequence_fits : (e : EventsView) (s : List ℕ) → AreEvents e → is_sequence e s ≡ true → (length s ≡ e.len) × All (λ event. event < 64) s
sequence_fits e s kept is =
    let parts = and_parts _ _ (and_parts _ _ is).0 in
    let most = kept.few in (
      eqb-true (length s) e.len parts.0,
      All-weaker (λ event. nat_lt event (length e.names) ≡ true) (λ event. event < 64) (λ event low. let below = ltb-true event (length e.names) low in omega arith) s
          (AllPass-from_list_all (λ event. nat_lt event (length e.names)) s parts.1),
    )

module _ (e : EventsView) (report : List ℕ) (kept : AreEvents e) where
  pub begins : (o : OpenView) → length report ≤ 2 ^ 28 → o.len ≡ e.len → Tells o (length e.names) (λ s. true) → Checked e report o 0 0 0 report
  begins o few len opened = record {
    lines = [];
    whole = refl;
    good = All-nil (λ l. is_wrong l ≡ false);
    numbered = refl;
    rows_are = refl;
    omissions_are = refl;
    rows_few = omega arith;
    omissions_few = omega arith;
    len = len;
    left = opened;
    few = omega arith;
  }

  module _ {o : OpenView} {line rows omissions : ℕ} {rest text : List ℕ} (behind : List ℕ) (here : Checked e report o line rows omissions rest)
      (cut : report_lines rest ≡ text ∷ report_lines behind) (shorter : length behind < length rest) where
    joined : map (report_line_of e) (report_lines report) ≡ (here.lines ++ report_line_of e text ∷ []) ++ map (report_line_of e) (report_lines behind)
    joined = here.whole ∙ ap (λ l. here.lines ++ map (report_line_of e) l) cut ∙ sym (append_assoc here.lines (report_line_of e text ∷ []) (map (report_line_of e) (report_lines behind)))

    pub after_row : (closed : OpenView) (order : List ℕ) → report_line_of e text ≡ Row order → closed.len ≡ o.len
        → ((front : List ℕ) (last : ℕ) → IsFront o.len (length (places (length e.names) order)) front → last < length (places (length e.names) order)
        → is_open closed front last ≡ (is_open o front last && not (rises (places (length e.names) order) (front ++ last ∷ []))))
        → Checked e report closed (line + 1) (rows + 1) omissions behind
    after_row closed order is len closes =
        let n = length e.names in
        let long : length (places n order) ≡ n = length-map-range_with_len (place order) 0 n in
        let lines = here.lines in
        record {
          lines = lines ++ Row order ∷ [];
          whole = joined ∙ ap (λ l. (lines ++ l ∷ []) ++ map (report_line_of e) (report_lines behind)) is;
          good = All-push (λ l. is_wrong l ≡ false) lines (Row order) here.good refl;
          numbered = ap (λ k. k + 1) here.numbered ∙ sym (length_push lines (Row order));
          rows_are = ap (λ k. k + 1) here.rows_are ∙ sym (length_push (rows_in lines) order) ∙ ap length (sym (filter_map-append row_named lines (Row order ∷ [])));
          omissions_are = here.omissions_are ∙ ap length (sym (filter_map-append never_named lines (Row order ∷ []) ∙ append-nil (nevers_in lines)));
          rows_few = let before = here.rows_few in omega arith;
          omissions_few = let before = here.omissions_few in omega arith;
          len = len ∙ here.len;
          left = λ front last f below.
              let s = front ++ last ∷ [] in
              let g = subst (λ l. IsFront l n front) len f in
              closes front last (subst (λ k. IsFront o.len k front) (sym long) g) (rw long below)
              ∙ ap (λ t. t && not (rises (places n order) s)) (here.left front last g below)
              ∙ ap (λ t. is_left lines s && not t) (all_kept n order (steps s) (steps_exist n s (All-push (λ event. event < n) front last f.exist below)))
              ∙ sym (left_by_row lines order s);
          few = let before = here.few in omega arith;
        }

    pub after_never : (closed : OpenView) (named : List ℕ) → report_line_of e text ≡ Never named → closed.len ≡ o.len
        → ((front : List ℕ) (last : ℕ) → IsFront o.len 64 front → last < 64 → is_open closed front last ≡ (is_open o front last && not (bytes_eq (front ++ last ∷ []) named)))
        → Checked e report closed (line + 1) rows (omissions + 1) behind
    after_never closed named is len closes =
        let n = length e.names in
        let lines = here.lines in
        record {
          lines = lines ++ Never named ∷ [];
          whole = joined ∙ ap (λ l. (lines ++ l ∷ []) ++ map (report_line_of e) (report_lines behind)) is;
          good = All-push (λ l. is_wrong l ≡ false) lines (Never named) here.good refl;
          numbered = ap (λ k. k + 1) here.numbered ∙ sym (length_push lines (Never named));
          rows_are = here.rows_are ∙ ap length (sym (filter_map-append row_named lines (Never named ∷ []) ∙ append-nil (rows_in lines)));
          omissions_are = ap (λ k. k + 1) here.omissions_are ∙ sym (length_push (nevers_in lines) named) ∙ ap length (sym (filter_map-append never_named lines (Never named ∷ [])));
          rows_few = let before = here.rows_few in omega arith;
          omissions_few = let before = here.omissions_few in omega arith;
          len = len ∙ here.len;
          left = λ front last f below.
              let s = front ++ last ∷ [] in
              let g = subst (λ l. IsFront l n front) len f in
              let most = kept.few in
              closes front last (record { long = g.long; exist = All-weaker (λ event. event < n) (λ event. event < 64) (λ event low. omega arith) front g.exist }) (omega arith)
              ∙ ap (λ t. t && not (bytes_eq s named)) (here.left front last g below)
              ∙ sym (left_by_never lines named s);
          few = let before = here.few in omega arith;
        }

    pub at_wrong : report_line_of e text ≡ Wrong → BadLine (line + 1) ≡ verdict e report
    at_wrong is =
        let lines = here.lines in
        let more = map (report_line_of e) (report_lines behind) in
        let whole = joined ∙ ap (λ l. (lines ++ l ∷ []) ++ more) is ∙ append_assoc lines (Wrong ∷ []) more in
        let placed = wrong_at lines (Wrong ∷ more) here.good in
        let numbered = here.numbered in
        sym (ap (verdict_on e) whole
        ∙ ap (by_line e (lines ++ Wrong ∷ more)) (position_is (lines ++ Wrong ∷ more) (length lines) (omega (arith, placed)) (omega (arith, length-append lines (Wrong ∷ more))))
        ∙ ap (λ k. BadLine (k + 1)) (sym numbered))

  pub ended : {o : OpenView} {line rows omissions : ℕ} (rest : List ℕ) (here : Checked e report o line rows omissions rest) → length rest ≡ 0
      → (found : Option (List ℕ)) → ((test : List ℕ → Bool) → Tells o (length e.names) test → found ≡ find test (sequences e)) → by_sequence here.lines found ≡ verdict e report
  ended [] here none found first =
      let lines = here.lines in
      let whole = here.whole ∙ append-nil lines in
      let placed = wrong_at lines [] here.good in
      let end : length lines + 0 ≡ length lines = omega arith in
      ap (by_sequence lines) (first (is_left lines) here.left)
      ∙ sym (ap (verdict_on e) whole ∙ ap (by_line e lines) (position_none lines (ap (position_or_len is_wrong) (sym (append-nil lines)) ∙ placed ∙ end)))
  ended (b ∷ rest) here none found first = absurd (omega arith)
