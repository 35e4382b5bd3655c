-- The lines of a report are read back as what they were written for.
use Rattle.std.proofs.Common.{◌≡◌, ℕ, ◌+◌, ◌<◌, Bool, true, false, ◌&&◌, ◌||◌, not, cond, List, [], ◌∷◌, ◌++◌, length, map, take, drop, get_or, eqb}
use Rattle.std.proofs.Common.{nat_lt, codes, bytes_eq, position, Some, None, is_some, All, refl, sym, ap, subst, ◌∙◌, arith, append_assoc, length-append}
use Rattle.std.specs.Char.{is_ascii_alphanumeric}
use Rattle.std.specs.List.{join_with_byte, list_all, position_or_len, slice_split}
use Rattle.std.specs.Option.{unwrap_or}
use Rattle.std.proofs.lemmas.Bool.{and_from, and_parts, both_ways, cond-false, cond-true, false_from_ne_true, lt-ltb, ne_eqb, not-true}
use Rattle.std.proofs.lemmas.List.{drop_at, get_or_append_left, get_or_at, length_push, length-map, take_at}
use Rattle.std.proofs.lemmas.List.Elements.{All-append, All-cons, All-head, All-map, All-nil, All-tail, All-weaker}
use Rattle.std.proofs.lemmas.List.Folds.{list_all-map, list_any_none}
use Rattle.std.proofs.lemmas.List.Splits.{slice_split_none}
use Rattle.std.proofs.lemmas.List.Sums.{AllPass-from_list_all, list_all-from_AllPass, position_or_len_is}
use Rattle.std.proofs.lemmas.Slice.Eq.{bytes_eq-Decides}
use Rattle.value_text.proofs.ListLemmas.{list_any-position}
use Rattle.definitions.proofs.Cells.{split_joined_by}
use Rattle.model_lex.specs.believed.Lines.{is_line_feed}
use Rattle.model_lex.proofs.Cutting.{first_ended}
use Rattle.seq_check.proofs.StepLemmas.{never_when}
use Rattle.seq_check.specs.believed.Events.{AreEvents, EventsView, is_name}
use Rattle.seq_check.specs.believed.EventFile.{is_space, number_of}
use Rattle.seq_check.specs.believed.OrderReport.{Row, Never, Wrong, has_marks, is_tab, names_of, never_in, never_line, numbers_of, or_else, report_line_of, report_lines, row_in, row_line, row_of}
use Rattle.seq_check.specs.believed.Orders.{arrows, is_cycle, is_permitted, is_sequence}
use Rattle.seq_cover.specs.believed.ReportText.{text_of_lines}

-- no byte of a text is this one
abbrev pub Lacks : ℕ → List ℕ → Type 0
Lacks c text = All (λ byte. eqb byte c ≡ false) text

-- a text that is written out
literal_lacks : (c : ℕ) (text : List ℕ) → list_all (λ byte. not (eqb byte c)) text ≡ true → Lacks c text
literal_lacks c text is =
    All-weaker (λ byte. not (eqb byte c) ≡ true) (λ byte. eqb byte c ≡ false) (λ byte other. not-true (eqb byte c) other) text
    (AllPass-from_list_all (λ byte. not (eqb byte c)) text is)

-- ---- lines

place_of_end : (line rest : List ℕ) → Lacks 10 line → position is_line_feed (line ++ 10 ∷ rest) ≡ Some (length line)
place_of_end line rest lacks =
    let text = line ++ 10 ∷ rest in
    let long = length-append line (10 ∷ rest) in
    let within : length line < length text = omega (arith, long) in
    let placed = position_or_len_is is_line_feed text (length line) 0 (omega (arith, within))
    (λ k low. ap is_line_feed (get_or_append_left line (10 ∷ rest) 0 k low) ∙ lacks k 0 low)
    (λ _. ap is_line_feed (get_or_at line 10 rest 0 (length line) refl)) in
    ap (λ n. cond (nat_lt n (length text)) (Some n) None) placed ∙ ap (λ b. cond b (Some (length line)) None) (lt-ltb (length line) (length text) within)

pub lines_back : (lines : List (List ℕ)) → All (Lacks 10) lines → report_lines (text_of_lines lines) ≡ lines
lines_back [] lacks = refl
lines_back (line ∷ lines) lacks =
    let rest = text_of_lines lines in
    let joined : text_of_lines (line ∷ lines) ≡ line ++ 10 ∷ rest = append_assoc line (10 ∷ []) rest in
    let behind : drop (length line + 1) (line ++ 10 ∷ rest) ≡ rest =
    ap (drop (length line + 1)) (sym (append_assoc line (10 ∷ []) rest)) ∙ drop_at (line ++ 10 ∷ []) rest (length line + 1) (length_push line 10) in
    ap report_lines joined ∙ first_ended (line ++ 10 ∷ rest) (length line) (place_of_end line rest (All-head (Lacks 10) line lines lacks))
    ∙ ap (λ l. l ∷ report_lines (drop (length line + 1) (line ++ 10 ∷ rest))) (take_at line (10 ∷ rest) (length line) refl)
    ∙ ap (λ l. line ∷ report_lines l) behind ∙ ap (λ l. line ∷ l) (lines_back lines (All-tail (Lacks 10) line lines lacks))

-- ---- parts that are joined

join-append : (c : ℕ) (first second : List (List ℕ)) → 0 < length first → 0 < length second → join_with_byte c (first ++ second) ≡ join_with_byte c first ++ c ∷ join_with_byte c second
join-append c [] second some more = absurd (omega arith)
join-append c (part ∷ []) [] some more = absurd (omega arith)
join-append c (part ∷ []) (other ∷ others) some more = refl
join-append c (part ∷ next ∷ parts) second some more =
    ap (λ l. part ++ c ∷ l) (join-append c (next ∷ parts) second (omega arith) more)
    ∙ sym (append_assoc part (c ∷ join_with_byte c (next ∷ parts)) (c ∷ join_with_byte c second))

lacks_joined : (c d : ℕ) (parts : List (List ℕ)) → eqb d c ≡ false → All (Lacks c) parts → Lacks c (join_with_byte d parts)
lacks_joined c d [] other lacks = All-nil (λ byte. eqb byte c ≡ false)
lacks_joined c d (part ∷ []) other lacks = All-head (Lacks c) part [] lacks
lacks_joined c d (part ∷ next ∷ parts) other lacks =
    All-append (λ byte. eqb byte c ≡ false) part (d ∷ join_with_byte d (next ∷ parts)) (All-head (Lacks c) part (next ∷ parts) lacks)
    (All-cons (λ byte. eqb byte c ≡ false) d (join_with_byte d (next ∷ parts)) other (lacks_joined c d (next ∷ parts) other (All-tail (Lacks c) part (next ∷ parts) lacks)))

-- ---- names

abbrev is_letter : ℕ → Bool
is_letter byte = is_ascii_alphanumeric byte || eqb byte 95

name_lacks : (c : ℕ) (name : List ℕ) → is_letter c ≡ false → is_name name ≡ true → Lacks c name
name_lacks c name other is =
    All-weaker (λ byte. is_letter byte ≡ true) (λ byte. eqb byte c ≡ false)
    (λ byte letter. ne_eqb byte c (λ same. both_ways (is_letter c) other (ap is_letter (sym same) ∙ letter))) name
    (AllPass-from_list_all is_letter name (and_parts (nat_lt 0 (length name)) (list_all is_letter name) is).1)

unlisted : (text : List ℕ) (names : List (List ℕ)) → All (λ name. bytes_eq text name ≡ false) names → number_of names text ≡ None
unlisted text names others =
    cond-false (nat_lt (position_or_len (bytes_eq text) names) (length names)) (Some (position_or_len (bytes_eq text) names)) None
    (sym (list_any-position (bytes_eq text) names) ∙ list_any_none (bytes_eq text) names others)

maps_back : {X : Type 0} (f : X → ℕ) (g : ℕ → X) (xs : List ℕ) → All (λ x. f (g x) ≡ x) xs → map f (map g xs) ≡ xs
maps_back f g [] back = refl
maps_back f g (x ∷ xs) back =
    ap (λ y. y ∷ map f (map g xs)) (All-head (λ y. f (g y) ≡ y) x xs back) ∙ ap (λ ys. x ∷ ys) (maps_back f g xs (All-tail (λ y. f (g y) ≡ y) x xs back))

module _ (e : EventsView) (kept : AreEvents e) where
  abbrev Exist : List ℕ → Type 0
  Exist events = All (λ event. event < length e.names) events

  number_back : (event : ℕ) → event < length e.names → number_of e.names (get_or e.names event []) ≡ Some event
  number_back event low =
      let text = get_or e.names event [] in
      let placed = position_or_len_is (bytes_eq text) e.names event [] (omega arith)
      (λ k less. false_from_ne_true (bytes_eq text (get_or e.names k [])) (λ same. kept.distinct k event [] less low (sym ((bytes_eq-Decides text (get_or e.names k [])).0 same))))
      (λ _. (bytes_eq-Decides text text).1 refl) in
      ap (λ n. cond (nat_lt n (length e.names)) (Some n) None) placed ∙ ap (λ b. cond b (Some event) None) (lt-ltb event (length e.names) low)

  numbers_back : (events : List ℕ) → Exist events → numbers_of e.names (names_of e events) ≡ Some events
  numbers_back events exist =
      let text : ℕ → List ℕ = λ event. get_or e.names event [] in
      let back : All (λ event. number_of e.names (text event) ≡ Some event) events =
      All-weaker (λ event. event < length e.names) (λ event. number_of e.names (text event) ≡ Some event) number_back events exist in
      let known : list_all (λ t. is_some (number_of e.names t)) (map text events) ≡ true =
      list_all-map (λ t. is_some (number_of e.names t)) text events
      ∙ list_all-from_AllPass (λ event. is_some (number_of e.names (text event))) events
      (All-weaker (λ event. number_of e.names (text event) ≡ Some event) (λ event. is_some (number_of e.names (text event)) ≡ true) (λ event is. ap is_some is) events back) in
      let numbers = maps_back (λ t. unwrap_or (number_of e.names t) 0) text events
      (All-weaker (λ event. number_of e.names (text event) ≡ Some event)
      (λ event. unwrap_or (number_of e.names (text event)) 0 ≡ event) (λ event is. ap (λ o. unwrap_or o 0) is) events back) in
      cond-true (list_all (λ t. is_some (number_of e.names t)) (map text events)) _ None known ∙ ap Some numbers

  names_lack : (c : ℕ) (events : List ℕ) → is_letter c ≡ false → Exist events → All (Lacks c) (names_of e events)
  names_lack c events other exist =
      All-map (Lacks c) (λ event. get_or e.names event []) events
      (All-weaker (λ event. event < length e.names) (λ event. Lacks c (get_or e.names event [])) (λ event low. name_lacks c (get_or e.names event []) other (kept.named event [] low)) events exist)

  -- ---- the line of a row

  pub row_lacks : (order : List ℕ) → Exist order → Lacks 10 (row_line e order)
  row_lacks order exist = lacks_joined 10 9 (names_of e order) refl (names_lack 10 order refl exist)

  pub row_back : (order : List ℕ) → Exist order → is_permitted e order ≡ true → 0 < length order → report_line_of e (row_line e order) ≡ Row order
  row_back order exist permitted some =
      let parts : slice_split is_tab (row_line e order) ≡ names_of e order =
      split_joined_by 9 (names_of e order) (omega (arith, length-map order (λ event. get_or e.names event []))) (names_lack 9 order refl exist) in
      let read : row_in e (row_line e order) ≡ Row order =
      ap (λ texts. row_of e (numbers_of e.names texts)) parts ∙ ap (row_of e) (numbers_back order exist) ∙ cond-true (is_permitted e order) (Row order) Wrong permitted in
      ap (λ line. or_else line (never_in e (slice_split is_space (row_line e order)))) read

  -- ---- the line of a sequence that is set aside

  module _ (sequence cycle : List ℕ) (is : is_sequence e sequence ≡ true) (round : is_cycle (arrows e sequence) cycle ≡ true) (long : length sequence ≡ e.len)
      (exist : Exist sequence) (exist_cycle : Exist cycle) (some : 0 < length sequence) (some_cycle : 0 < length cycle) where
    abbrev parts : List (List ℕ)
    parts = codes "never" ∷ names_of e sequence ++ codes ":" ∷ names_of e cycle

    line_is : never_line e sequence cycle ≡ join_with_byte 32 parts
    line_is =
        let one = length-map sequence (λ event. get_or e.names event []) in
        let two = length-map cycle (λ event. get_or e.names event []) in
        let front : join_with_byte 32 parts ≡ codes "never " ++ join_with_byte 32 (names_of e sequence ++ codes ":" ∷ names_of e cycle) =
        join-append 32 (codes "never" ∷ []) (names_of e sequence ++ codes ":" ∷ names_of e cycle) (omega arith)
        (omega (arith, one, length-append (names_of e sequence) (codes ":" ∷ names_of e cycle))) in
        let middle = join-append 32 (names_of e sequence) (codes ":" ∷ names_of e cycle) (omega (arith, one)) (omega arith) in
        let back = join-append 32 (codes ":" ∷ []) (names_of e cycle) (omega arith) (omega (arith, two)) in
        let last : join_with_byte 32 (names_of e sequence) ++ 32 ∷ (codes ":" ++ 32 ∷ join_with_byte 32 (names_of e cycle))
        ≡ (join_with_byte 32 (names_of e sequence) ++ codes " : ") ++ join_with_byte 32 (names_of e cycle) =
        sym (append_assoc (join_with_byte 32 (names_of e sequence)) (codes " : ") (join_with_byte 32 (names_of e cycle))) in
        sym (front ∙ ap (λ l. codes "never " ++ l) (middle ∙ ap (λ l. join_with_byte 32 (names_of e sequence) ++ 32 ∷ l) back ∙ last))

    parts_lack : (c : ℕ) → is_letter c ≡ false → Lacks c (codes "never") → Lacks c (codes ":") → All (Lacks c) parts
    parts_lack c other first second =
        All-cons (Lacks c) (codes "never") (names_of e sequence ++ codes ":" ∷ names_of e cycle) first
        (All-append (Lacks c) (names_of e sequence) (codes ":" ∷ names_of e cycle) (names_lack c sequence other exist)
        (All-cons (Lacks c) (codes ":") (names_of e cycle) second (names_lack c cycle other exist_cycle)))

    line_lacks : (c : ℕ) → eqb 32 c ≡ false → is_letter c ≡ false → Lacks c (codes "never") → Lacks c (codes ":") → Lacks c (never_line e sequence cycle)
    line_lacks c apart other first second = subst (Lacks c) (sym line_is) (lacks_joined c 32 parts apart (parts_lack c other first second))

    no_row : row_in e (never_line e sequence cycle) ≡ Wrong
    no_row =
        let line = never_line e sequence cycle in
        let one : slice_split is_tab line ≡ line ∷ [] = slice_split_none is_tab line (line_lacks 9 refl refl (literal_lacks 9 (codes "never") refl) (literal_lacks 9 (codes ":") refl)) in
        let other : All (λ name. bytes_eq line name ≡ false) e.names = λ k d within. false_from_ne_true (bytes_eq line (get_or e.names k d))
        (λ same.
        let named : is_name line ≡ true = subst (λ t. is_name t ≡ true) (sym ((bytes_eq-Decides line (get_or e.names k d)).0 same)) (kept.named k d within) in
        both_ways (eqb 32 32) (name_lacks 32 line refl named 5 0 (omega arith)) refl) in
        let none = unlisted line e.names other in
        ap (λ texts. row_of e (numbers_of e.names texts)) one
        ∙ ap (λ o. row_of e (cond (is_some o && true) (Some (unwrap_or o 0 ∷ [])) None)) none

    marked : has_marks e.len parts ≡ true
    marked =
        let one = length-map sequence (λ event. get_or e.names event []) in
        let at : get_or parts (e.len + 1) [] ≡ codes ":" = get_or_at (codes "never" ∷ names_of e sequence) (codes ":") (names_of e cycle) [] (e.len + 1) (omega (arith, one, long)) in
        ap (λ t. bytes_eq (codes "never") (codes "never") && bytes_eq t (codes ":")) at

    pub never_back : report_line_of e (never_line e sequence cycle) ≡ Never sequence
    never_back =
        let one = length-map sequence (λ event. get_or e.names event []) in
        let split : slice_split is_space (never_line e sequence cycle) ≡ parts =
        ap (slice_split is_space) line_is ∙ split_joined_by 32 parts (omega arith) (parts_lack 32 refl (literal_lacks 32 (codes "never") refl) (literal_lacks 32 (codes ":") refl)) in
        let first : Some sequence ≡ numbers_of e.names (take e.len (drop 1 parts)) =
        sym (ap (numbers_of e.names) (take_at (names_of e sequence) (codes ":" ∷ names_of e cycle) e.len (one ∙ long)) ∙ numbers_back sequence exist) in
        let behind : drop (e.len + 2) parts ≡ names_of e cycle =
        ap (drop (e.len + 2)) (ap (λ l. codes "never" ∷ l) (sym (append_assoc (names_of e sequence) (codes ":" ∷ []) (names_of e cycle))))
        ∙ drop_at (codes "never" ∷ names_of e sequence ++ codes ":" ∷ []) (names_of e cycle) (e.len + 2) (omega (arith, one, long, length_push (names_of e sequence) (codes ":"))) in
        let second : Some cycle ≡ numbers_of e.names (drop (e.len + 2) parts) = sym (ap (numbers_of e.names) behind ∙ numbers_back cycle exist_cycle) in
        let read = never_when e parts (Some sequence) (Some cycle) marked first second
        ∙ cond-true (is_sequence e sequence && is_cycle (arrows e sequence) cycle) (Never sequence) Wrong (and_from (is_sequence e sequence) (is_cycle (arrows e sequence) cycle) is round) in
        ap (λ l. or_else l (never_in e (slice_split is_space (never_line e sequence cycle)))) no_row ∙ ap (never_in e) split ∙ read

    pub never_lacks : Lacks 10 (never_line e sequence cycle)
    never_lacks = line_lacks 10 refl refl (literal_lacks 10 (codes "never") refl) (literal_lacks 10 (codes ":") refl)
