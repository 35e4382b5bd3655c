-- Sets without an open tuple can be left out.
use Rattle.std.proofs.Common.{inl, inr, ◌⊎◌, ◌≡◌, ℕ, ◌+◌, ◌<◌, ◌≤◌, Bool, true, false, List, [], ◌∷◌, ◌++◌, Option, Some, None, All}
use Rattle.std.proofs.Common.{drop, length, get_or, set, take, sum_by, ◌∙◌, refl, sym, subst, ap, arith, length-append, length-take}
use Rattle.std.specs.Prelude.{IfSome, if◌then◌else◌, option_and_then, option_map, slice_set}
use Rattle.std.proofs.Math.Seq.{get_or-append_seam}
use Rattle.std.proofs.lemmas.Bool.{cases_eq, cases_lt}
use Rattle.std.proofs.lemmas.List.{append-nil, append_assoc, drop-set-lt, drop_all, drop_more, get_or-set_other, get_or-set_same, get_or-take, get_or_past}
use Rattle.std.proofs.lemmas.List.{length-set, set-get_or, take-set, take_more_set}
use Rattle.std.proofs.lemmas.List.Elements.{All-cons, All-head, All-nil, All-tail}
use Rattle.std.proofs.lemmas.List.Sums.{sum_by-cons}
use Rattle.cov_model.specs.declared.slice.Slice.{Slice}
use Rattle.cov_model.specs.believed.Sound.{ModelView}
use Rattle.tuple_index.specs.Kept.{IsKept}
use Rattle.tuple_index.specs.Plan.{plan_of}
use Rattle.uncovered_table.specs.declared.prepared.ColumnLines.{ColumnLines}
use Rattle.uncovered_table.specs.declared.prepared.Part.{Part}
use Rattle.uncovered_table.specs.declared.prepared.Prepared.{Prepared}
use Rattle.uncovered_table.specs.Bits.{InPlay, all_cleared, bit_count, cleared, first_bit, held_bit, held_count, sets_in_play, value_held}
use Rattle.uncovered_table.specs.Digits.{AreDigits, cell_digit, digit_of, number_of, own_values, with_digit}
use Rattle.uncovered_table.specs.Places.{set_at}
use Rattle.uncovered_table.specs.Prepared.{AreLines, AreReady, IsComplete, IsLeft, IsLineOf}
use Rattle.uncovered_table.proofs.DigitLemmas.{cell_digits, digit_below, with_digits}
use Rattle.uncovered_table.proofs.GainLemmas.{all_in_play, number_within}

-- lists without some numbers that are done
pub left-all : (IsDone : ℕ → Type 0) (xs : List ℕ) → IsLeft IsDone xs xs
left-all IsDone [] = tt
left-all IsDone (x ∷ xs) = inl (refl, left-all IsDone xs)

pub left-each : (IsDone P : ℕ → Type 0) (xs ys : List ℕ) → All P xs → IsLeft IsDone xs ys → All P ys
left-each IsDone P [] [] all left = All-nil P
left-each IsDone P [] (y ∷ ys) all left = absurd left
left-each IsDone P (x ∷ xs) [] all left = All-nil P
left-each IsDone P (x ∷ xs) (y ∷ ys) all (inl own) =
    All-cons P y ys (subst P own.0 (All-head P x xs all)) (left-each IsDone P xs ys (All-tail P x xs all) own.1)
left-each IsDone P (x ∷ xs) (y ∷ ys) all (inr own) = left-each IsDone P xs (y ∷ ys) (All-tail P x xs all) own.1

pub left-long : (IsDone : ℕ → Type 0) (xs ys : List ℕ) → IsLeft IsDone xs ys → length ys ≤ length xs
left-long IsDone [] [] left = omega arith
left-long IsDone [] (y ∷ ys) left = absurd left
left-long IsDone (x ∷ xs) [] left = omega arith
left-long IsDone (x ∷ xs) (y ∷ ys) (inl own) = (let rest = left-long IsDone xs ys own.1 in omega (arith, rest))
left-long IsDone (x ∷ xs) (y ∷ ys) (inr own) = (let rest = left-long IsDone xs (y ∷ ys) own.1 in omega (arith, rest))

left-weaker : (IsDone IsOver : ℕ → Type 0) (xs ys : List ℕ) → ((x : ℕ) → IsDone x → IsOver x) → IsLeft IsDone xs ys → IsLeft IsOver xs ys
left-weaker IsDone IsOver [] [] weaker left = tt
left-weaker IsDone IsOver [] (y ∷ ys) weaker left = absurd left
left-weaker IsDone IsOver (x ∷ xs) [] weaker left = (weaker x left.0, left-weaker IsDone IsOver xs [] weaker left.1)
left-weaker IsDone IsOver (x ∷ xs) (y ∷ ys) weaker (inl own) = inl (own.0, left-weaker IsDone IsOver xs ys weaker own.1)
left-weaker IsDone IsOver (x ∷ xs) (y ∷ ys) weaker (inr own) = inr (weaker x own.0, left-weaker IsDone IsOver xs (y ∷ ys) weaker own.1)

left-skip : (IsDone : ℕ → Type 0) (x : ℕ) (xs ys : List ℕ) → IsDone x → IsLeft IsDone xs ys → IsLeft IsDone (x ∷ xs) ys
left-skip IsDone x xs [] done left = (done, left)
left-skip IsDone x xs (y ∷ ys) done left = inr (done, left)

-- one number more leaves
left-out : (IsDone : ℕ → Type 0) (xs before : List ℕ) (y : ℕ) (behind : List ℕ) → IsLeft IsDone xs (before ++ y ∷ behind) → IsDone y
    → IsLeft IsDone xs (before ++ behind)
left-out IsDone [] [] y behind left done = absurd left
left-out IsDone [] (b ∷ before) y behind left done = absurd left
left-out IsDone (x ∷ xs) [] y behind (inl own) done = left-skip IsDone x xs behind (subst IsDone (sym own.0) done) own.1
left-out IsDone (x ∷ xs) [] y behind (inr own) done = left-skip IsDone x xs behind own.0 (left-out IsDone xs [] y behind own.1 done)
left-out IsDone (x ∷ xs) (b ∷ before) y behind (inl own) done = inl (own.0, left-out IsDone xs before y behind own.1 done)
left-out IsDone (x ∷ xs) (b ∷ before) y behind (inr own) done = inr (own.0, left-out IsDone xs (b ∷ before) y behind own.1 done)

left-at : (IsDone P : ℕ → Type 0) (xs before : List ℕ) (y : ℕ) (behind : List ℕ) → All P xs → IsLeft IsDone xs (before ++ y ∷ behind) → P y
left-at IsDone P xs before y behind all left =
    subst P (get_or-append_seam before y behind 0)
    (left-each IsDone P xs (before ++ y ∷ behind) all left (length before) 0 (omega (arith, length-append before (y ∷ behind))))

-- what is left has the whole sum, where those that are done count for nothing
left-sum : (IsDone P : ℕ → Type 0) (f : ℕ → ℕ) (xs ys : List ℕ) → ((x : ℕ) → P x → IsDone x → f x ≡ 0) → All P xs → IsLeft IsDone xs ys
    → sum_by f ys ≡ sum_by f xs
left-sum IsDone P f [] [] none all left = refl
left-sum IsDone P f [] (y ∷ ys) none all left = absurd left
left-sum IsDone P f (x ∷ xs) [] none all left =
    let rest = left-sum IsDone P f xs [] none (All-tail P x xs all) left.1 in
    omega (arith, rest, sum_by-cons f x xs, none x (All-head P x xs all) left.0)
left-sum IsDone P f (x ∷ xs) (y ∷ ys) none all (inl own) =
    let rest = left-sum IsDone P f xs ys none (All-tail P x xs all) own.1 in
    omega (arith, rest, sum_by-cons f x xs, sum_by-cons f y ys, ap f own.0)
left-sum IsDone P f (x ∷ xs) (y ∷ ys) none all (inr own) =
    let rest = left-sum IsDone P f xs (y ∷ ys) none (All-tail P x xs all) own.1 in
    omega (arith, rest, sum_by-cons f x xs, none x (All-head P x xs all) own.0)

-- a complete set stays complete when bits are cleared
complete-cleared : (m : ModelView) (slice : Slice) (bits : List Bool) (o : Option ℕ) (set : ℕ) → IsComplete m slice bits set → IsComplete m slice (cleared o bits) set
complete-cleared m slice bits None set complete = complete
complete-cleared m slice bits (Some bit) set complete =
    λ place least below.
    elim (cases_eq place bit) [
      | inl here ↦
          ap (λ k. get_or (slice_set bits bit false) k false) here
          ∙ elim (cases_lt bit (length bits)) [
            | inl within ↦ get_or-set_same bits bit false false within
            | inr past ↦ get_or_past (slice_set bits bit false) bit false (omega (arith, past, length-set bits bit false))
          ]
      | inr apart ↦ get_or-set_other bits bit place false false apart ∙ complete place least below
    ]

complete-all_cleared : (m : ModelView) (slice : Slice) (digits : ℕ → Option ℕ) (bits : List Bool) (sets : List ℕ) (set : ℕ) → IsComplete m slice bits set
    → IsComplete m slice (all_cleared m slice digits bits sets) set
complete-all_cleared m slice digits bits [] set complete = complete
complete-all_cleared m slice digits bits (other ∷ sets) set complete =
    complete-all_cleared m slice digits (cleared (held_bit m slice digits other) bits) sets set
    (complete-cleared m slice bits (held_bit m slice digits other) set complete)

-- what is ready stays so
still-ready : (m : ModelView) (slice : Slice) (bits after : List Bool) (ready : Option ColumnLines)
    → ((set : ℕ) → IsComplete m slice bits set → IsComplete m slice after set)
    → IfSome ready (λ made. AreReady m slice bits made.column made) → IfSome ready (λ made. AreReady m slice after made.column made)
still-ready m slice bits after None stays known = tt
still-ready m slice bits after (Some made) stays known = record {
  lines = known.lines;
  left = left-weaker (IsComplete m slice bits) (IsComplete m slice after) (sets_in_play m slice made.column) made.sets.items stays known.left;
}

pub ready-cleared : (m : ModelView) (slice : Slice) (bits : List Bool) (bit : ℕ) (ready : Option ColumnLines)
    → IfSome ready (λ made. AreReady m slice bits made.column made) → IfSome ready (λ made. AreReady m slice (slice_set bits bit false) made.column made)
ready-cleared m slice bits bit ready known =
    still-ready m slice bits (slice_set bits bit false) ready (λ set complete. complete-cleared m slice bits (Some bit) set complete) known

pub ready-all_cleared : (m : ModelView) (slice : Slice) (digits : ℕ → Option ℕ) (bits : List Bool) (sets : List ℕ) (ready : Option ColumnLines)
    → IfSome ready (λ made. AreReady m slice bits made.column made)
    → IfSome ready (λ made. AreReady m slice (all_cleared m slice digits bits sets) made.column made)
ready-all_cleared m slice digits bits sets ready known =
    still-ready m slice bits (all_cleared m slice digits bits sets) ready (λ set complete. complete-all_cleared m slice digits bits sets set complete) known

-- a complete set counts for nothing, and has nothing to clear
none-held : (m : ModelView) (slice : Slice) (bits : List Bool) (digits : ℕ → Option ℕ) (column set : ℕ) → IsKept (plan_of m) → AreDigits (own_values m slice) digits
    → InPlay m slice column set → IsComplete m slice bits set → IfSome (held_bit m slice digits set) (λ bit. get_or bits bit false ≡ false)
none-held m slice bits digits column set kept are play complete = by_number (number_of (own_values m slice) digits (set_at m set)) refl
  where
    by_number : (o : Option ℕ) → number_of (own_values m slice) digits (set_at m set) ≡ o
        → IfSome (option_map (λ n. first_bit m slice set + n) o) (λ bit. get_or bits bit false ≡ false)
    by_number None is = tt
    by_number (Some n) is =
        let within = number_within m slice digits set n kept play.exists play.some are is in
        complete (first_bit m slice set + n) (omega arith) (omega (arith, within))

count-none : (bits : List Bool) (o : Option ℕ) → IfSome o (λ bit. get_or bits bit false ≡ false) → bit_count bits o ≡ 0
count-none bits None none = refl
count-none bits (Some bit) none = ap (λ (b : Bool). if b then 1 else 0) none

clear-none : (bits : List Bool) (o : Option ℕ) → IfSome o (λ bit. get_or bits bit false ≡ false) → cleared o bits ≡ bits
clear-none bits None none = refl
clear-none bits (Some bit) none = ap (λ (b : Bool). slice_set bits bit b) (sym none) ∙ set-get_or bits bit false

-- so counting over those that are left counts all
pub left-count : (m : ModelView) (slice : Slice) (bits : List Bool) (cells : List (Option ℕ)) (column digit : ℕ) (sets : List ℕ) → IsKept (plan_of m)
    → digit < length (own_values m slice column) → IsLeft (IsComplete m slice bits) (sets_in_play m slice column) sets
    → sum_by (held_count m slice bits (with_digit (cell_digit (own_values m slice) cells) column digit)) sets
    ≡ sum_by (held_count m slice bits (with_digit (cell_digit (own_values m slice) cells) column digit)) (sets_in_play m slice column)
left-count m slice bits cells column digit sets kept below left =
    let digits = with_digit (cell_digit (own_values m slice) cells) column digit in
    let are = with_digits (own_values m slice) (cell_digit (own_values m slice) cells) column digit (cell_digits (own_values m slice) cells) below in
    left-sum (IsComplete m slice bits) (InPlay m slice column) (held_count m slice bits digits) (sets_in_play m slice column) sets
    (λ set play complete. count-none bits (held_bit m slice digits set) (none-held m slice bits digits column set kept are play complete))
    (all_in_play m slice column) left

pub left-value : (m : ModelView) (slice : Slice) (bits : List Bool) (cells : List (Option ℕ)) (column v : ℕ) (sets : List ℕ) → IsKept (plan_of m)
    → IsLeft (IsComplete m slice bits) (sets_in_play m slice column) sets
    → sum_by (value_held m slice bits cells column v) sets ≡ sum_by (value_held m slice bits cells column v) (sets_in_play m slice column)
left-value m slice bits cells column v sets kept left =
    left-sum (IsComplete m slice bits) (InPlay m slice column) (value_held m slice bits cells column v) (sets_in_play m slice column) sets
    (λ set play complete. by_digit set play complete (digit_of (own_values m slice column) v) refl) (all_in_play m slice column) left
  where
    by_digit : (set : ℕ) → InPlay m slice column set → IsComplete m slice bits set → (o : Option ℕ) → digit_of (own_values m slice column) v ≡ o
        → bit_count bits (option_and_then (λ d. held_bit m slice (with_digit (cell_digit (own_values m slice) cells) column d) set) o) ≡ 0
    by_digit set play complete None is = refl
    by_digit set play complete (Some d) is =
        let values = own_values m slice in
        let digits = with_digit (cell_digit values cells) column d in
        count-none bits (held_bit m slice digits set)
        (none-held m slice bits digits column set kept
        (with_digits values (cell_digit values cells) column d (cell_digits values cells) (digit_below (values column) v d is)) play complete)

-- and clearing over them clears all
left-clears : (m : ModelView) (slice : Slice) (digits : ℕ → Option ℕ) (column : ℕ) (xs ys : List ℕ) (bits : List Bool) → IsKept (plan_of m)
    → AreDigits (own_values m slice) digits → All (InPlay m slice column) xs → IsLeft (IsComplete m slice bits) xs ys
    → all_cleared m slice digits bits ys ≡ all_cleared m slice digits bits xs
left-clears m slice digits column [] [] bits kept are all left = refl
left-clears m slice digits column [] (y ∷ ys) bits kept are all left = absurd left
left-clears m slice digits column (x ∷ xs) [] bits kept are all left =
    let play = All-head (InPlay m slice column) x xs all in
    left-clears m slice digits column xs [] bits kept are (All-tail (InPlay m slice column) x xs all) left.1
    ∙ ap (λ b. all_cleared m slice digits b xs)
    (sym (clear-none bits (held_bit m slice digits x) (none-held m slice bits digits column x kept are play left.0)))
left-clears m slice digits column (x ∷ xs) (y ∷ ys) bits kept are all (inl own) =
    let after = cleared (held_bit m slice digits x) bits in
    ap (λ set. all_cleared m slice digits (cleared (held_bit m slice digits set) bits) ys) (sym own.0)
    ∙ left-clears m slice digits column xs ys after kept are (All-tail (InPlay m slice column) x xs all)
    (left-weaker (IsComplete m slice bits) (IsComplete m slice after) xs ys
    (λ set complete. complete-cleared m slice bits (held_bit m slice digits x) set complete) own.1)
left-clears m slice digits column (x ∷ xs) (y ∷ ys) bits kept are all (inr own) =
    let play = All-head (InPlay m slice column) x xs all in
    left-clears m slice digits column xs (y ∷ ys) bits kept are (All-tail (InPlay m slice column) x xs all) own.1
    ∙ ap (λ b. all_cleared m slice digits b xs)
    (sym (clear-none bits (held_bit m slice digits x) (none-held m slice bits digits column x kept are play own.0)))

pub left-cleared : (m : ModelView) (slice : Slice) (bits : List Bool) (cells : List (Option ℕ)) (column digit : ℕ) (sets : List ℕ) → IsKept (plan_of m)
    → digit < length (own_values m slice column) → IsLeft (IsComplete m slice bits) (sets_in_play m slice column) sets
    → all_cleared m slice (with_digit (cell_digit (own_values m slice) cells) column digit) bits sets
    ≡ all_cleared m slice (with_digit (cell_digit (own_values m slice) cells) column digit) bits (sets_in_play m slice column)
left-cleared m slice bits cells column digit sets kept below left =
    left-clears m slice (with_digit (cell_digit (own_values m slice) cells) column digit) column (sets_in_play m slice column) sets bits kept
    (with_digits (own_values m slice) (cell_digit (own_values m slice) cells) column digit (cell_digits (own_values m slice) cells) below)
    (all_in_play m slice column) left

-- the sets before a place that are kept stand in front, those from it on are still to be looked at
pub record Keeping (m : ModelView) (slice : Slice) (bits : List Bool) (column kept k : ℕ) (sets : List ℕ) (lines : List Prepared) (parts : List Part) : Type 0 where
  pub within : kept ≤ k
  pub many : length lines ≡ length sets
  pub exist : All (λ part. part.param < length m.params) parts
  pub each : (i d : ℕ) (other : Prepared) → (i < kept) ⊎ (k ≤ i) → i < length sets → IsLineOf m slice column (get_or sets i d) (get_or lines i other) parts
  pub left : IsLeft (IsComplete m slice bits) (sets_in_play m slice column) (take kept sets ++ drop k sets)

pub keeping-start : (m : ModelView) (slice : Slice) (bits : List Bool) (made : ColumnLines) → AreReady m slice bits made.column made
    → Keeping m slice bits made.column 0 0 made.sets.items made.lines.items made.parts.items
keeping-start m slice bits made are = record {
  within = omega arith;
  many = are.lines.many;
  exist = are.lines.exist;
  each = λ i d other place inside. are.lines.each i d other inside;
  left = are.left;
}

-- the set of the place is in play
pub keeping-play : (m : ModelView) (slice : Slice) (bits : List Bool) (column kept k d : ℕ) (sets : List ℕ) (lines : List Prepared) (parts : List Part) → k < length sets
    → Keeping m slice bits column kept k sets lines parts → InPlay m slice column (get_or sets k d)
keeping-play m slice bits column kept k d sets lines parts inside keeping =
    left-at (IsComplete m slice bits) (InPlay m slice column) (sets_in_play m slice column) (take kept sets) (get_or sets k d) (drop (k + 1) sets)
    (all_in_play m slice column)
    (subst (λ list. IsLeft (IsComplete m slice bits) (sets_in_play m slice column) (take kept sets ++ list)) (drop_more sets k d inside) keeping.left)

keeping-more : (m : ModelView) (slice : Slice) (bits : List Bool) (column kept k d : ℕ) (o : Prepared) (sets : List ℕ) (lines : List Prepared) (parts : List Part)
    (open_there : Bool) → k < length sets → (open_there ≡ false → IsComplete m slice bits (get_or sets k d))
    → Keeping m slice bits column kept k sets lines parts
    → Keeping m slice bits column (kept + (if open_there then 1 else 0)) (k + 1) (set sets kept (get_or sets k d)) (set lines kept (get_or lines k o)) parts
keeping-more m slice bits column kept k d o sets lines parts open_there inside complete keeping = record {
  within = kept_within open_there;
  many = length-set lines kept (get_or lines k o) ∙ keeping.many ∙ sym (length-set sets kept (get_or sets k d));
  exist = keeping.exist;
  each = λ i e other place short. at i e other place (omega (arith, short, length-set sets kept (get_or sets k d))) (cases_eq i kept);
  left = left_on open_there complete;
}
  where
    kept_within : (b : Bool) → kept + (if b then 1 else 0) ≤ k + 1
    kept_within true = omega (arith, keeping.within)
    kept_within false = omega (arith, keeping.within)

    earlier : (b : Bool) (i : ℕ) → i < kept + (if b then 1 else 0) → (i ≡ kept → ⊥) → i < kept
    earlier true i below apart = omega (arith, below, apart)
    earlier false i below apart = omega (arith, below)

    side : (i : ℕ) → (i < kept + (if open_there then 1 else 0)) ⊎ (k + 1 ≤ i) → (i ≡ kept → ⊥) → (i < kept) ⊎ (k ≤ i)
    side i (inl below) apart = inl (earlier open_there i below apart)
    side i (inr past) apart = inr (omega (arith, past))

    at : (i e : ℕ) (other : Prepared) → (i < kept + (if open_there then 1 else 0)) ⊎ (k + 1 ≤ i) → i < length sets → (i ≡ kept) ⊎ (i ≡ kept → ⊥)
        → IsLineOf m slice column (get_or (set sets kept (get_or sets k d)) i e) (get_or (set lines kept (get_or lines k o)) i other) parts
    at i e other place short (inl here) =
        subst (λ j. IsLineOf m slice column (get_or (set sets kept (get_or sets k d)) j e) (get_or (set lines kept (get_or lines k o)) j other) parts) (sym here)
        (subst (λ x. IsLineOf m slice column x (get_or (set lines kept (get_or lines k o)) kept other) parts)
        (sym (get_or-set_same sets kept (get_or sets k d) e (omega (arith, keeping.within, inside))))
        (subst (λ x. IsLineOf m slice column (get_or sets k d) x parts)
        (sym (get_or-set_same lines kept (get_or lines k o) other (omega (arith, keeping.within, inside, keeping.many))))
        (keeping.each k d o (inr (omega arith)) inside)))
    at i e other place short (inr apart) =
        subst (λ x. IsLineOf m slice column x (get_or (set lines kept (get_or lines k o)) i other) parts)
        (sym (get_or-set_other sets kept i (get_or sets k d) e apart))
        (subst (λ x. IsLineOf m slice column (get_or sets i e) x parts) (sym (get_or-set_other lines kept i (get_or lines k o) other apart))
        (keeping.each i e other (side i place apart) short))

    opened : IsLeft (IsComplete m slice bits) (sets_in_play m slice column) (take kept sets ++ get_or sets k d ∷ drop (k + 1) sets)
    opened = subst (λ list. IsLeft (IsComplete m slice bits) (sets_in_play m slice column) (take kept sets ++ list)) (drop_more sets k d inside) keeping.left

    later : drop (k + 1) (set sets kept (get_or sets k d)) ≡ drop (k + 1) sets
    later = drop-set-lt (k + 1) sets kept (get_or sets k d) (omega (arith, keeping.within))

    left_on : (b : Bool) → (b ≡ false → IsComplete m slice bits (get_or sets k d))
        → IsLeft (IsComplete m slice bits) (sets_in_play m slice column)
        (take (kept + (if b then 1 else 0)) (set sets kept (get_or sets k d)) ++ drop (k + 1) (set sets kept (get_or sets k d)))
    left_on true complete =
        subst (IsLeft (IsComplete m slice bits) (sets_in_play m slice column))
        (sym (ap (λ list. list ++ drop (k + 1) (set sets kept (get_or sets k d))) (take_more_set sets kept (get_or sets k d) (omega (arith, keeping.within, inside)))
        ∙ ap (λ list. (take kept sets ++ get_or sets k d ∷ []) ++ list) later
        ∙ append_assoc (take kept sets) (get_or sets k d ∷ []) (drop (k + 1) sets)))
        opened
    left_on false complete =
        let same : kept + 0 ≡ kept = omega arith in
        subst (IsLeft (IsComplete m slice bits) (sets_in_play m slice column))
        (sym (ap (λ n. take n (set sets kept (get_or sets k d)) ++ drop (k + 1) (set sets kept (get_or sets k d))) same
        ∙ ap (λ list. list ++ drop (k + 1) (set sets kept (get_or sets k d))) (take-set sets kept (get_or sets k d))
        ∙ ap (λ list. take kept sets ++ list) later))
        (left-out (IsComplete m slice bits) (sets_in_play m slice column) (take kept sets) (get_or sets k d) (drop (k + 1) sets) opened (complete refl))

pub keeping-next : (m : ModelView) (slice : Slice) (bits : List Bool) (column kept k x : ℕ) (line : Prepared) (sets : List ℕ) (lines : List Prepared) (parts : List Part)
    (open_there : Bool) → k < length sets → x ≡ get_or sets k x → line ≡ get_or lines k line → (open_there ≡ false → IsComplete m slice bits x)
    → Keeping m slice bits column kept k sets lines parts
    → Keeping m slice bits column (kept + (if open_there then 1 else 0)) (k + 1) (set sets kept x) (set lines kept line) parts
keeping-next m slice bits column kept k x line sets lines parts open_there inside read read_line complete keeping =
    let next = kept + (if open_there then 1 else 0) in
    subst (λ s. Keeping m slice bits column next (k + 1) (set sets kept s) (set lines kept line) parts) (sym read)
    (subst (λ l. Keeping m slice bits column next (k + 1) (set sets kept (get_or sets k x)) (set lines kept l) parts) (sym read_line)
    (keeping-more m slice bits column kept k x line sets lines parts open_there inside (λ none. subst (IsComplete m slice bits) read (complete none)) keeping))

pub keeping-end : (m : ModelView) (slice : Slice) (bits : List Bool) (column kept k : ℕ) (made : ColumnLines) (sets : List ℕ) (lines : List Prepared) → length sets ≤ k
    → Keeping m slice bits column kept k sets lines made.parts.items → made.column ≡ column → made.sets.items ≡ take kept sets → made.lines.items ≡ take kept lines
    → AreReady m slice bits made.column made
keeping-end m slice bits column kept k made sets lines past keeping own first line = record {
  lines =
      subst (λ c. AreLines m slice c made.sets.items made.lines.items made.parts.items) (sym own)
      (subst (λ list. AreLines m slice column list made.lines.items made.parts.items) (sym first)
      (subst (λ list. AreLines m slice column (take kept sets) list made.parts.items) (sym line) record {
        many = omega (arith, length-take kept sets, length-take kept lines, keeping.many);
        exist = keeping.exist;
        each =
            λ i d other within.
            let below : i < kept = omega (arith, within, length-take kept sets) in
            let inside : i < length sets = omega (arith, within, length-take kept sets) in
            subst (λ x. IsLineOf m slice column x (get_or (take kept lines) i other) made.parts.items) (sym (get_or-take kept sets i d below))
            (subst (λ x. IsLineOf m slice column (get_or sets i d) x made.parts.items) (sym (get_or-take kept lines i other below))
            (keeping.each i d other (inl below) inside));
      }));
  left =
      subst (λ c. IsLeft (IsComplete m slice bits) (sets_in_play m slice c) made.sets.items) (sym own)
      (subst (IsLeft (IsComplete m slice bits) (sets_in_play m slice column))
      (ap (λ list. take kept sets ++ list) (drop_all k sets past) ∙ append-nil (take kept sets) ∙ sym first) keeping.left);
}
