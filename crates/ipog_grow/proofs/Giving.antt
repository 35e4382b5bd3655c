-- The parameters that have a value in a tuple: only they count where a partial row is to agree with it.
use Rattle.std.proofs.Common.{◌≡◌, ℕ, zero, suc, ◌+◌, ◌<◌, Bool, true, false, ◌&&◌, ◌||◌, cond, nat_eq, List, [], ◌∷◌, length, map, drop, zero-add}
use Rattle.std.proofs.Common.{Option, Some, None, is_some, get_or, All, ◌∙◌, sym, ap, subst, refl, arith}
use Rattle.std.specs.Prelude.{nat_le, nat_lt}
use Rattle.std.specs.List.{filter, list_all, range_with_len}
use Rattle.std.proofs.lemmas.Bool.{and_from}
use Rattle.std.proofs.lemmas.Bool.Decides.{nat_tests}
use Rattle.std.proofs.lemmas.List.{drop_all}
use Rattle.std.proofs.lemmas.List.Elements.{All-filter}
use Rattle.std.proofs.lemmas.List.FromFn.{length-range_with_len, get_or-range_with_len, length-map-range_with_len, get_or-map-range_with_len}
use Rattle.cov_model.specs.believed.Rows.{is_assigned}
use Rattle.tuple_index.specs.Places.{RisesFrom, rises_from}
use Rattle.tuple_index.specs.Plan.{value_given}
use Rattle.tuple_index.proofs.RisingLemmas.{rising_itself}
use Rattle.uncovered_table.proofs.ColumnLemmas.{filter_yes, filter_no}
use Rattle.definitions.specs.believed.Demand.{is_among}
use Rattle.definitions.specs.believed.Growth.{agrees}
use Rattle.definitions.proofs.Members.{of_among, of_range}
use Rattle.ipog_grow.specs.Growing.{given_params}
use Rattle.ipog_grow.proofs.Falling.{filter-same_among}
use Rattle.ipog_grow.proofs.Uniting.{cells_agree, agrees-at}

-- a partial row and a tuple agree at a parameter
abbrev pub agree_at : List (Option ℕ) → List (Option ℕ) → ℕ → Bool
agree_at row tuple p = cells_agree (get_or row p None) (get_or tuple p None)

cells_agree-none : (a : Option ℕ) → cells_agree a None ≡ true
cells_agree-none (Some v) = refl
cells_agree-none None = refl

-- the parameters from p on, by the first of them
given-at : (row tuple : List (Option ℕ)) (params : List ℕ) (p : ℕ) (cell : Option ℕ) (rest : Bool) → get_or tuple p None ≡ cell
    → list_all (agree_at row tuple) (filter (is_assigned tuple) params) ≡ rest
    → list_all (agree_at row tuple) (filter (is_assigned tuple) (p ∷ params)) ≡ (agree_at row tuple p && rest)
given-at row tuple params p None rest e later =
    ap (list_all (agree_at row tuple)) (filter_no (is_assigned tuple) p params (ap (λ (cell : Option ℕ). is_some cell) e)) ∙ later
    ∙ ap (λ (b : Bool). b && rest) (sym (ap (cells_agree (get_or row p None)) e ∙ cells_agree-none (get_or row p None)))
given-at row tuple params p (Some w) rest e later =
    ap (list_all (agree_at row tuple)) (filter_yes (is_assigned tuple) p params (ap (λ (cell : Option ℕ). is_some cell) e))
    ∙ ap (λ (b : Bool). agree_at row tuple p && b) later

agrees-from : (row tuple : List (Option ℕ)) (n p : ℕ) → p + n ≡ length row → length tuple ≡ length row
    → list_all (agree_at row tuple) (filter (is_assigned tuple) (range_with_len p n)) ≡ agrees (drop p row) (drop p tuple)
agrees-from row tuple zero p whole long =
    sym (ap (λ (list : List (Option ℕ)). agrees list (drop p tuple)) (drop_all p row (omega (arith, whole)))
    ∙ ap (agrees []) (drop_all p tuple (omega (arith, whole, long))))
agrees-from row tuple (suc n) p whole long =
    let later = agrees-from row tuple n (p + 1) (omega (arith, whole)) long in
    given-at row tuple (range_with_len (p + 1) n) p (get_or tuple p None) (agrees (drop (p + 1) row) (drop (p + 1) tuple)) refl later
    ∙ sym (agrees-at row tuple p (omega (arith, whole)) long)

pub agrees-given : (row tuple : List (Option ℕ)) → length tuple ≡ length row → list_all (agree_at row tuple) (given_params tuple) ≡ agrees row tuple
agrees-given row tuple long = ap (λ (n : ℕ). list_all (agree_at row tuple) (filter (is_assigned tuple) (range_with_len 0 n))) long
    ∙ agrees-from row tuple (length row) 0 (omega arith) long

pub given_within : (tuple : List (Option ℕ)) → All (λ p. p < length tuple) (given_params tuple)
given_within tuple =
    All-filter (is_assigned tuple) (λ p. p < length tuple) (range_with_len 0 (length tuple)) (λ i d within.
    let inside : i < length tuple = omega (arith, within, length-range_with_len 0 (length tuple)) in
    subst (λ (p : ℕ). p < length tuple) (sym (get_or-range_with_len 0 (length tuple) i d inside)) (omega (arith, inside)))

-- they exist in a row of the tuple's length
pub given_exist : (tuple row : List (Option ℕ)) (params : List ℕ) → params ≡ given_params tuple → length tuple ≡ length row → All (λ p. p < length row) params
given_exist tuple row params given long =
    subst (All (λ p. p < length row)) (sym given) (subst (λ (n : ℕ). All (λ p. p < n) (given_params tuple)) long (given_within tuple))

-- the members of a set are those to which values of it give values
given_by : (set values : List ℕ) (p : ℕ) → length values ≡ length set → is_some (value_given set values p) ≡ is_among set p
given_by [] values p long = refl
given_by (q ∷ set) [] p long = absurd (omega (arith, long))
given_by (q ∷ set) (v ∷ values) p long = by_test (nat_eq q p) (given_by set values p (omega (arith, long)))
  where
    by_test : (b : Bool) → is_some (value_given set values p) ≡ is_among set p
        → is_some (cond b (Some v) (value_given set values p)) ≡ (b || is_among set p)
    by_test true rest = refl
    by_test false rest = rest

rises_test : (set : List ℕ) (p e : ℕ) → RisesFrom p e set → rises_from p e set ≡ true
rises_test [] p e rises = refl
rises_test (q ∷ set) p e rises =
    and_from (nat_le p q) (nat_lt q e && rises_from (q + 1) e set) (grind (arith, nat_tests, rises.0))
    (and_from (nat_lt q e) (rises_from (q + 1) e set) (grind (arith, nat_tests, rises.1)) (rises_test set (q + 1) e rises.2))

pub given_members : (set values : List ℕ) (n : ℕ) → RisesFrom 0 n set → length values ≡ length set
    → set ≡ given_params (map (value_given set values) (range_with_len 0 n))
given_members set values n rises long =
    sym (ap (λ (count : ℕ). filter (is_assigned cells) (range_with_len 0 count)) (length-map-range_with_len (value_given set values) 0 n)
    ∙ filter-same_among (is_assigned cells) (is_among set) (range_with_len 0 n) same ∙ rising_itself set n (rises_test set 0 n rises))
  where
    cells : List (Option ℕ)
    cells = map (value_given set values) (range_with_len 0 n)

    same : (q : ℕ) → is_among (range_with_len 0 n) q ≡ true → is_assigned cells q ≡ is_among set q
    same q listed =
        let within : q < n = omega (arith, (of_range 0 n q (of_among (range_with_len 0 n) q listed)).1) in
        ap (λ (cell : Option ℕ). is_some cell) (get_or-map-range_with_len (value_given set values) 0 n q q None within (zero-add q))
        ∙ given_by set values q long
