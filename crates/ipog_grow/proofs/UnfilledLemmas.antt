-- Partial rows with an empty cell, and those that can't agree with a tuple.
use Rattle.std.proofs.Common.{◌≡◌, ℕ, zero, suc, ◌+◌, ◌<◌, ◌≤◌, Bool, true, false, cond, ◌&&◌, ◌||◌, not, All, IfSome, List, [], ◌∷◌, ◌++◌, length, take, replicate, Option}
use Rattle.std.proofs.Common.{Some, None, get_or, set, nat_eq, is_some, unwrap_or, ◌≢◌, ◌⊎◌, ◌∙◌, sym, ap, subst, refl, arith, inl, inr, length-append}
use Rattle.std.specs.List.{list_all}
use Rattle.std.specs.Option.{option_map_or}
use Rattle.std.proofs.lemmas.Bool.{false≢true, cases_eq, cases_lt, and_parts, and_right, or_from, or_parts}
use Rattle.std.proofs.lemmas.Bool.Decides.{nat_tests}
use Rattle.std.proofs.lemmas.List.{get_or-set_same, get_or-set_other, get_or-replicate, length-set, length-replicate, get_or_append_left, take_more, length-take}
use Rattle.std.proofs.lemmas.List.Elements.{All-set}
use Rattle.std.proofs.lemmas.Option.{none-some, same_Some}
use Rattle.std.proofs.Math.Bool.{or-true}
use Rattle.std.proofs.Math.Seq.{get_or-append_seam}
use Rattle.std.proofs.lemmas.List.Folds.{list_any-append}
use Rattle.cov_model.proofs.CellLemmas.{contains-assigned, contains-get_or}
use Rattle.definitions.proofs.PartialRowLemmas.{union-contains_row}
use Rattle.cov_model.specs.Fits.{FitsModel}
use Rattle.cov_model.specs.believed.Rows.{contains, is_assigned}
use Rattle.cov_model.specs.believed.Sound.{ModelView, param_at}
use Rattle.definitions.specs.believed.Demand.{is_among}
use Rattle.definitions.specs.believed.Growth.{agrees, union, is_uncovered}
use Rattle.refutation.proofs.HolderLemmas.{among_last}
use Rattle.tuple_index.specs.Places.{RisesFrom}
use Rattle.uncovered_table.proofs.PartnerLemmas.{rises-wider}
use Rattle.ipog_grow.specs.UnfilledRows.{HasUnfilled, UnfilledLists, candidates, is_candidate, is_filled, may_have, with_number, with_unfilled}
use Rattle.ipog_grow.proofs.Falling.{among_cases}
use Rattle.ipog_grow.proofs.Holding.{holds}
use Rattle.ipog_grow.proofs.Merging.{merged-among, merged-rises}

-- rising numbers rise with their bound behind them
rises-push : (lo hi : ℕ) (numbers : List ℕ) → lo ≤ hi → RisesFrom lo hi numbers → RisesFrom lo (hi + 1) (numbers ++ hi ∷ [])
rises-push lo hi [] least rises = (least, omega arith, tt)
rises-push lo hi (i ∷ numbers) least rises =
    let within : i < hi = rises.1 in
    (rises.0, omega arith, rises-push (i + 1) hi numbers (omega arith) rises.2)

-- what passes a test for each passes it for one, and what passes it passes a weaker one
pub all-among : (test : ℕ → Bool) (xs : List ℕ) (q : ℕ) → list_all test xs ≡ true → is_among xs q ≡ true → test q ≡ true
all-among test [] q all among = absurd (false≢true among)
all-among test (x ∷ xs) q all among =
    elim (among_cases x q xs among) [
      | inl same ↦ ap test (sym same) ∙ (and_parts (test x) _ all).0
      | inr later ↦ all-among test xs q (and_parts (test x) _ all).1 later
    ]

all-weaker : (test other : ℕ → Bool) (xs : List ℕ) → ((q : ℕ) → test q ≡ true → other q ≡ true) → list_all test xs ≡ true → list_all other xs ≡ true
all-weaker test other [] weaker all = refl
all-weaker test other (x ∷ xs) weaker all =
    ap (λ (b : Bool). b && list_all other xs) (weaker x (and_parts (test x) _ all).0) ∙ all-weaker test other xs weaker (and_parts (test x) _ all).1

-- a row that agrees with a tuple, and has a value wherever the tuple has one, contains it
agrees-contains : (row tuple : List (Option ℕ)) → length tuple ≡ length row → agrees row tuple ≡ true
    → ((q : ℕ) → is_assigned tuple q ≡ true → is_assigned row q ≡ true) → contains row tuple ≡ true
agrees-contains row [] long agree given = refl
agrees-contains [] (cell ∷ tuple) long agree given = absurd (omega (arith, long))
agrees-contains (None ∷ row) (None ∷ tuple) long agree given = agrees-contains row tuple (omega (arith, long)) agree (λ q. given (suc q))
agrees-contains (Some v ∷ row) (None ∷ tuple) long agree given = agrees-contains row tuple (omega (arith, long)) agree (λ q. given (suc q))
agrees-contains (None ∷ row) (Some w ∷ tuple) long agree given = absurd (false≢true (given 0 refl))
agrees-contains (Some v ∷ row) (Some w ∷ tuple) long agree given =
    ap (λ (b : Bool). b && contains row tuple) (and_parts (nat_eq v w) (agrees row tuple) agree).0
    ∙ agrees-contains row tuple (omega (arith, long)) (and_parts (nat_eq v w) (agrees row tuple) agree).1 (λ q. given (suc q))

-- no row contains a tuple that is open
open-not : (rows : List (List (Option ℕ))) (tuple : List (Option ℕ)) (i : ℕ) → i < length rows → is_uncovered rows tuple ≡ true
    → contains (get_or rows i []) tuple ≡ false
open-not [] tuple i within free = absurd (omega arith)
open-not (row ∷ rows) tuple zero within free = at (contains row tuple) (holds rows tuple) free
  where
    at : (a b : Bool) → not (a || b) ≡ true → a ≡ false
    at true b h = absurd (false≢true h)
    at false b h = refl
open-not (row ∷ rows) tuple (suc i) within free = open-not rows tuple i (omega arith) (at (contains row tuple) (holds rows tuple) free)
  where
    at : (a b : Bool) → not (a || b) ≡ true → not b ≡ true
    at true b h = absurd (false≢true h)
    at false b h = h

-- a full row doesn't agree with an open tuple that gives these parameters alone values
full-differs : (columns : List ℕ) (rows : List (List (Option ℕ))) (tuple : List (Option ℕ)) (i : ℕ) → i < length rows → is_uncovered rows tuple ≡ true
    → length tuple ≡ length (get_or rows i []) → ((q : ℕ) → is_assigned tuple q ≡ true → is_among columns q ≡ true) → is_filled columns (get_or rows i [])
    ≡ true
    → agrees (get_or rows i []) tuple ≡ false
full-differs columns rows tuple i within free long given full = by_case (agrees (get_or rows i []) tuple) refl
  where
    by_case : (b : Bool) → agrees (get_or rows i []) tuple ≡ b → b ≡ false
    by_case false is = refl
    by_case true is =
        absurd (false≢true (sym (open-not rows tuple i within free)
        ∙ agrees-contains (get_or rows i []) tuple long is (λ q has. all-among (is_assigned (get_or rows i [])) columns q full (given q has))))

-- a row with another value than the tuple's in a column doesn't agree with it either
value-differs : (row tuple : List (Option ℕ)) (p v : ℕ) → get_or tuple p None ≡ Some v → may_have p v row ≡ false → agrees row tuple ≡ false
value-differs [] tuple p v has other = absurd (false≢true (sym other))
value-differs (given ∷ row) [] p v has other = absurd (none-some v has)
value-differs (None ∷ row) (cell ∷ tuple) zero v has other = absurd (false≢true (sym other))
value-differs (Some w ∷ row) (None ∷ tuple) zero v has other = absurd (none-some v has)
value-differs (Some w ∷ row) (Some u ∷ tuple) zero v has other =
    ap (λ (n : ℕ). nat_eq w n && agrees row tuple) (same_Some u v has) ∙ ap (λ (b : Bool). b && agrees row tuple) other
value-differs (None ∷ row) (cell ∷ tuple) (suc p) v has other = value-differs row tuple p v has other
value-differs (Some w ∷ row) (None ∷ tuple) (suc p) v has other = value-differs row tuple p v has other
value-differs (Some w ∷ row) (Some u ∷ tuple) (suc p) v has other =
    and_right (nat_eq w u) (agrees row tuple) (value-differs row tuple p v has other)

-- the candidates rise, and no other row may agree with an open tuple
pub candidates-rise : {columns : List ℕ} {p count : ℕ} {rows : List (List (Option ℕ))} {unfilled : UnfilledLists} (v : ℕ)
    → HasUnfilled columns p count rows unfilled → v < count → RisesFrom 0 (length rows) (candidates unfilled v)
candidates-rise {columns} {p} {count} {rows} {unfilled} v are within =
    merged-rises 0 (length rows) unfilled.without (get_or unfilled.by_value v []) are.without_rise (are.by_value_rise v [] (omega (arith, within, are.values)))

pub other-differs : (columns : List ℕ) (p count v : ℕ) (rows : List (List (Option ℕ))) (unfilled : UnfilledLists) (tuple : List (Option ℕ)) (i : ℕ)
    → HasUnfilled columns p count rows unfilled → get_or tuple p None ≡ Some v → is_uncovered rows tuple ≡ true
    → length tuple ≡ length (get_or rows i []) → ((q : ℕ) → is_assigned tuple q ≡ true → is_among columns q ≡ true)
    → i < length rows → is_among (candidates unfilled v) i ≡ false → agrees (get_or rows i []) tuple ≡ false
other-differs columns p count v rows unfilled tuple i are has free long given within other = by_value (may_have p v (get_or rows i [])) refl
  where
    by_value : (b : Bool) → may_have p v (get_or rows i []) ≡ b → agrees (get_or rows i []) tuple ≡ false
    by_value false differs = value-differs (get_or rows i []) tuple p v has differs
    by_value true may =
        full-differs columns rows tuple i within free long given
        (are.others v i within may (sym (merged-among unfilled.without (get_or unfilled.by_value v []) i) ∙ other))

-- a value of a partial row is one of its parameter
pub value-within : (m : ModelView) (row : List (Option ℕ)) (p : ℕ) → FitsModel m row
    → IfSome (get_or row p None) (λ v. v < length (param_at m.params p).values)
value-within m row p fits = by_cell (get_or row p None) refl
  where
    by_cell : (cell : Option ℕ) → get_or row p None ≡ cell → IfSome cell (λ v. v < length (param_at m.params p).values)
    by_cell None is = tt
    by_cell (Some v) is =
        subst (λ n. n < length (param_at m.params p).values) (ap (λ (c : Option ℕ). unwrap_or c 0) is)
        (fits.exist p (ap (λ (c : Option ℕ). is_some c) is))

-- rows keep their values when one becomes a union
union-may_have : (row tuple : List (Option ℕ)) (p v : ℕ) → may_have p v (union row tuple) ≡ true → may_have p v row ≡ true
union-may_have row tuple p v may = by_cell (get_or row p None) refl
  where
    by_cell : (cell : Option ℕ) → get_or row p None ≡ cell → may_have p v row ≡ true
    by_cell None is = ap (λ (c : Option ℕ). option_map_or (λ w. nat_eq w v) c true) is
    by_cell (Some w) is =
        let has : is_assigned row p ≡ true = ap (λ (c : Option ℕ). is_some c) is in
        ap (λ (c : Option ℕ). option_map_or (λ w. nat_eq w v) c true) (sym (contains-get_or (union row tuple) row p (union-contains_row row tuple) has)) ∙ may

union-filled : (columns : List ℕ) (row tuple : List (Option ℕ)) → is_filled columns row ≡ true → is_filled columns (union row tuple) ≡ true
union-filled columns row tuple filled =
    all-weaker (is_assigned row) (is_assigned (union row tuple)) columns
    (λ q has. contains-assigned (union row tuple) row q (union-contains_row row tuple) has) filled

pub unfilled-union : (columns : List ℕ) (p count : ℕ) (rows : List (List (Option ℕ))) (unfilled : UnfilledLists) (tuple : List (Option ℕ)) (i : ℕ)
    → i < length rows → HasUnfilled columns p count rows unfilled
    → HasUnfilled columns p count (set rows i (union (get_or rows i []) tuple)) unfilled
unfilled-union columns p count rows unfilled tuple i inside are = record {
  values = are.values;
  without_rise = subst (λ n. RisesFrom 0 n unfilled.without) (sym long) are.without_rise;
  by_value_rise = subst (λ n. All (RisesFrom 0 n) unfilled.by_value) (sym long) are.by_value_rise;
  others = λ v j below may other. by_place v j (omega (arith, below, long)) may other (cases_eq j i);
}
  where
    grown : List (Option ℕ)
    grown = union (get_or rows i []) tuple

    long : length (set rows i grown) ≡ length rows
    long = length-set rows i grown

    by_place : (v j : ℕ) → j < length rows → may_have p v (get_or (set rows i grown) j []) ≡ true → is_candidate unfilled v j ≡ false
        → (j ≡ i) ⊎ (j ≢ i) → is_filled columns (get_or (set rows i grown) j []) ≡ true
    by_place v j within may other (inl same) =
        let put : get_or (set rows i grown) j [] ≡ grown = ap (λ k. get_or (set rows i grown) k []) same ∙ get_or-set_same rows i grown [] inside in
        let had = union-may_have (get_or rows i []) tuple p v (sym (ap (may_have p v) put) ∙ may) in
        ap (is_filled columns) put
        ∙ union-filled columns (get_or rows i []) tuple (are.others v i inside had (ap (is_candidate unfilled v) (sym same) ∙ other))
    by_place v j within may other (inr differs) =
        let kept : get_or (set rows i grown) j [] ≡ get_or rows j [] = get_or-set_other rows i j grown [] differs in
        ap (is_filled columns) kept ∙ are.others v j within (sym (ap (may_have p v) kept) ∙ may) other

-- one more number: the candidates stay, and it is one for the value that its row may have
append-among : (numbers : List ℕ) (number m : ℕ) → is_among (numbers ++ number ∷ []) m ≡ (is_among numbers m || (nat_eq number m || false))
append-among numbers number m = list_any-append (λ k. nat_eq k m) numbers (number ∷ [])

number-keeps : (unfilled : UnfilledLists) (cell : Option ℕ) (number v j : ℕ) → IfSome cell (λ w. w < length unfilled.by_value)
    → is_candidate (with_number cell number unfilled) v j ≡ false → is_candidate unfilled v j ≡ false
number-keeps unfilled None number v j within other =
    let parts = or_parts _ _ other in
    or_from _ _ (or_parts _ _ (sym (append-among unfilled.without number j) ∙ parts.0)).0 parts.1
number-keeps unfilled (Some w) number v j within other = by_value (cases_eq v w)
  where
    list : List ℕ
    list = get_or unfilled.by_value w []

    by_value : (v ≡ w) ⊎ (v ≢ w) → is_candidate unfilled v j ≡ false
    by_value (inl same) =
        let parts = or_parts _ _ other in
        let read : get_or (set unfilled.by_value w (list ++ number ∷ [])) v [] ≡ list ++ number ∷ [] =
        ap (λ k. get_or (set unfilled.by_value w (list ++ number ∷ [])) k []) same
        ∙ get_or-set_same unfilled.by_value w (list ++ number ∷ []) [] within in
        let none : (is_among list j || (nat_eq number j || false)) ≡ false = sym (ap (λ numbers. is_among numbers j) read ∙ append-among list number j)
        ∙ parts.1 in
        or_from _ _ parts.0 (ap (λ k. is_among (get_or unfilled.by_value k []) j) same ∙ (or_parts _ _ none).0)
    by_value (inr differs) =
        ap (λ numbers. is_among unfilled.without j || is_among numbers j)
        (sym (get_or-set_other unfilled.by_value w v (list ++ number ∷ []) [] differs)) ∙ other

number-candidate : (unfilled : UnfilledLists) (cell : Option ℕ) (number v : ℕ) → IfSome cell (λ w. w < length unfilled.by_value)
    → option_map_or (λ w. nat_eq w v) cell true ≡ true → is_candidate (with_number cell number unfilled) v number ≡ true
number-candidate unfilled None number v within may =
    ap (λ (b : Bool). b || is_among (get_or unfilled.by_value v []) number) (among_last unfilled.without number)
number-candidate unfilled (Some w) number v within may =
    let same : v ≡ w = grind (arith, nat_tests) in
    let list = get_or unfilled.by_value w [] in
    let read : get_or (set unfilled.by_value w (list ++ number ∷ [])) v [] ≡ list ++ number ∷ [] =
    ap (λ k. get_or (set unfilled.by_value w (list ++ number ∷ [])) k []) same ∙ get_or-set_same unfilled.by_value w (list ++ number ∷ []) [] within in
    ap (λ (b : Bool). is_among unfilled.without number || b) (ap (λ numbers. is_among numbers number) read ∙ among_last list number)
    ∙ or-true (is_among unfilled.without number)

number-values : (unfilled : UnfilledLists) (cell : Option ℕ) (number : ℕ)
    → length (with_number cell number unfilled).by_value ≡ length unfilled.by_value
number-values unfilled None number = refl
number-values unfilled (Some w) number = length-set unfilled.by_value w (get_or unfilled.by_value w [] ++ number ∷ [])

-- a row more
pub unfilled-push : (columns : List ℕ) (p count : ℕ) (rows : List (List (Option ℕ))) (unfilled : UnfilledLists) (row : List (Option ℕ))
    → IfSome (get_or row p None) (λ v. v < count) → HasUnfilled columns p count rows unfilled
    → HasUnfilled columns p count (rows ++ row ∷ []) (with_unfilled columns p row (length rows) unfilled)
unfilled-push columns p count rows unfilled row value are = by_filled (is_filled columns row) refl
  where
    long : length (rows ++ row ∷ []) ≡ length rows + 1
    long = length-append rows (row ∷ [])

    inside : IfSome (get_or row p None) (λ v. v < length unfilled.by_value)
    inside = subst (λ n. IfSome (get_or row p None) (λ v. v < n)) (sym are.values) value

    more : (numbers : List ℕ) → RisesFrom 0 (length rows) numbers → RisesFrom 0 (length (rows ++ row ∷ [])) numbers
    more numbers rises = rises-wider 0 (length rows) (length (rows ++ row ∷ [])) numbers (omega (arith, long)) rises

    behind : (numbers : List ℕ) → RisesFrom 0 (length rows) numbers → RisesFrom 0 (length (rows ++ row ∷ [])) (numbers ++ length rows ∷ [])
    behind numbers rises = subst (λ n. RisesFrom 0 n (numbers ++ length rows ∷ [])) (sym long) (rises-push 0 (length rows) numbers (omega arith) rises)

    each_more : All (RisesFrom 0 (length (rows ++ row ∷ []))) unfilled.by_value
    each_more = λ v d within. more (get_or unfilled.by_value v d) (are.by_value_rise v d within)

    left_of : (v j : ℕ) → j < length rows → may_have p v (get_or (rows ++ row ∷ []) j []) ≡ true → is_candidate unfilled v j ≡ false
        → is_filled columns (get_or (rows ++ row ∷ []) j []) ≡ true
    left_of v j within may other =
        let same : get_or (rows ++ row ∷ []) j [] ≡ get_or rows j [] = get_or_append_left rows (row ∷ []) [] j within in
        ap (is_filled columns) same ∙ are.others v j within (sym (ap (may_have p v) same) ∙ may) other

    last : (j : ℕ) → j ≡ length rows → get_or (rows ++ row ∷ []) j [] ≡ row
    last j same = ap (λ k. get_or (rows ++ row ∷ []) k []) same ∙ get_or-append_seam rows row [] []

    without_rises : (cell : Option ℕ) → RisesFrom 0 (length (rows ++ row ∷ [])) (with_number cell (length rows) unfilled).without
    without_rises None = behind unfilled.without are.without_rise
    without_rises (Some v) = more unfilled.without are.without_rise

    each_rises : (cell : Option ℕ) → IfSome cell (λ v. v < length unfilled.by_value)
        → All (RisesFrom 0 (length (rows ++ row ∷ []))) (with_number cell (length rows) unfilled).by_value
    each_rises None within = each_more
    each_rises (Some v) within =
        All-set (RisesFrom 0 (length (rows ++ row ∷ []))) unfilled.by_value v (get_or unfilled.by_value v [] ++ length rows ∷ [])
        (behind (get_or unfilled.by_value v []) (are.by_value_rise v [] within)) each_more

    by_filled : (b : Bool) → is_filled columns row ≡ b
        → HasUnfilled columns p count (rows ++ row ∷ []) (cond b unfilled (with_number (get_or row p None) (length rows) unfilled))
    by_filled true filled = record {
      values = are.values;
      without_rise = more unfilled.without are.without_rise;
      by_value_rise = each_more;
      others =
          λ v j below may other.
          elim (cases_lt j (length rows)) [
            | inl within ↦ left_of v j within may other
            | inr past ↦ ap (is_filled columns) (last j (omega (arith, below, long))) ∙ filled
          ];
    }
    by_filled false lacks = record {
      values = number-values unfilled (get_or row p None) (length rows) ∙ are.values;
      without_rise = without_rises (get_or row p None);
      by_value_rise = each_rises (get_or row p None) inside;
      others =
          λ v j below may other.
          elim (cases_lt j (length rows)) [
            | inl within ↦ left_of v j within may (number-keeps unfilled (get_or row p None) (length rows) v j inside other)
            | inr past ↦
                let same : j ≡ length rows = omega (arith, below, long) in
                absurd (false≢true (sym (ap (is_candidate (with_number (get_or row p None) (length rows) unfilled) v) (sym same) ∙ other)
                ∙ number-candidate unfilled (get_or row p None) (length rows) v inside (sym (ap (may_have p v) (last j same)) ∙ may)))
          ];
    }

-- none of no rows
pub unfilled-none : (columns : List ℕ) (p count : ℕ) → HasUnfilled columns p count [] (record { without = []; by_value = replicate count [] })
unfilled-none columns p count = record {
  values = length-replicate {A = List ℕ} count [];
  without_rise = tt;
  by_value_rise = λ v d within. subst (RisesFrom 0 0) (sym (get_or-replicate count v [] d (omega (arith, within, length-replicate {A = List ℕ} count [])))) tt;
  others = λ v i below may other. absurd (omega arith);
}

-- the next one of some rows
pub unfilled-next : (columns : List ℕ) (p count : ℕ) (rows : List (List (Option ℕ))) (unfilled next : UnfilledLists) (i : ℕ) (row : List (Option ℕ))
    → i < length rows → IfSome (get_or row p None) (λ v. v < count) → HasUnfilled columns p count (take i rows) unfilled
    → row ≡ get_or rows i [] → next ≡ with_unfilled columns p row i unfilled → HasUnfilled columns p count (take (i + 1) rows) next
unfilled-next columns p count rows unfilled next i row within value are read is =
    let long : length (take i rows) ≡ i = omega (arith, length-take i rows) in
    let whole : take i rows ++ row ∷ [] ≡ take (i + 1) rows = ap (λ r. take i rows ++ r ∷ []) read ∙ sym (take_more rows i [] within) in
    subst (HasUnfilled columns p count (take (i + 1) rows)) (ap (λ n. with_unfilled columns p row n unfilled) long ∙ sym is)
    (subst (λ list. HasUnfilled columns p count list (with_unfilled columns p row (length (take i rows)) unfilled)) whole
    (unfilled-push columns p count (take i rows) unfilled row value are))
