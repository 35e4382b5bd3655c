-- The tuples of a slice, and the partial rows that grow from them: they have values of the slice.
use Rattle.std.proofs.Common.{◌≡◌, ◌≢◌, ℕ, zero, suc, ◌+◌, ◌<◌, ◌≤◌, Bool, true, false, cond, ◌&&◌, ◌||◌, List, [], ◌∷◌, length, filter, Option, Some}
use Rattle.std.proofs.Common.{None, is_some, unwrap_or, get_or, set, nat_eq, All, ◌∙◌, sym, ap, refl, arith, inl, inr, zero-add}
use Rattle.std.specs.List.{last_or, range_with_len}
use Rattle.std.proofs.lemmas.Bool.{false≢true, cases_eq, not-true}
use Rattle.std.proofs.lemmas.Bool.Decides.{nat_tests}
use Rattle.std.proofs.lemmas.List.{get_or-set_same, get_or-set_other, length-set}
use Rattle.std.proofs.lemmas.Option.{none-some, same_Some}
use Rattle.definitions.proofs.SliceLemmas.{IsSlice}
use Rattle.definitions.proofs.SliceLemmas as slices
use Rattle.definitions.proofs.Members.{all_members, among_has, of_filter, of_flat}
use Rattle.definitions.proofs.InPlay.{IsTupleOf, tuple_is}
use Rattle.value_text.proofs.ListLemmas.{Some-from_equal}
use Rattle.cov_model.proofs.CellLemmas.{contains-assigned, assigned_within, length-slice_values}
use Rattle.definitions.proofs.PartialRowLemmas.{union-contains_row, with_value-contains}
use Rattle.cov_model.specs.declared.slice.Slice.{Slice}
use Rattle.cov_model.specs.declared.slice.Slice.TheVariants.{Positive, Negative}
use Rattle.cov_model.specs.believed.Sound.{ModelView}
use Rattle.cov_model.specs.believed.Meaning.{value_at, given_value}
use Rattle.cov_model.specs.believed.Rows.{contains, is_assigned, value_in, with_value}
use Rattle.cov_model.specs.believed.Valid.{param_numbers}
use Rattle.cov_model.specs.believed.Slices.{slice_values, slice_by, slice_of}
use Rattle.definitions.specs.believed.Demand.{is_among, demanded_sets, tuples_in}
use Rattle.definitions.specs.believed.Completion.{column_order}
use Rattle.definitions.specs.believed.Growth.{union, tuples_in_play}
use Rattle.definitions.specs.SliceRows.{IsSliceOf, IsOfSlice}
use Rattle.definitions.proofs.SliceValues.{slice_positive, slice_other, slice_fixed, slice_exists}
use Rattle.feasibility.proofs.Extendable.{slice_exist, among_range_below}
use Rattle.uncovered_table.specs.Places.{ends_with_column}
use Rattle.ipog_grow.specs.Growing.{HasFixed, GrowsIn, IsInPlay}
use Rattle.ipog_grow.proofs.ColumnLemmas.{ends-columns_to}
use Rattle.ipog_grow.proofs.Falling.{filter-none}

-- cells of a model's length whose values are of the slice are of it
pub of_slice : (m : ModelView) (slice : Slice) (cells : List (Option ℕ)) → IsSliceOf m slice → length cells ≡ length m.params
    → ((p : ℕ) → is_assigned cells p ≡ true → is_among (get_or (slice_values m slice) p []) (value_in cells p) ≡ true) → IsOfSlice m slice cells
of_slice m slice cells is long listed = record {
  fits = record {
    as_long = long;
    exist = λ p has. slice_exist m slice p (value_in cells p) is (omega (arith, assigned_within cells p has, long)) (listed p has);
  };
  listed = listed;
}

last_test : (test : ℕ → Bool) (start : Option ℕ) (xs : List ℕ) (p : ℕ) → ((q : ℕ) → start ≡ Some q → test q ≡ true) → last_or start (filter test xs) ≡ Some p
    → test p ≡ true
last_test test start [] p first e = first p e
last_test test start (x ∷ xs) p first e = by_test (test x) refl (λ next is. last_test test next xs p is) e
  where
    by_test : (b : Bool) → test x ≡ b → ((next : Option ℕ) → ((q : ℕ) → next ≡ Some q → test q ≡ true) → last_or next (filter test xs) ≡ Some p → test p ≡ true)
        → last_or start (cond b (x ∷ filter test xs) (filter test xs)) ≡ Some p → test p ≡ true
    by_test true is later e = later (Some x) (λ q same. ap test (sym (same_Some x q same)) ∙ is) e
    by_test false is later e = later start first e

-- a set that ends with a column has it as a member
pub ends-among : (m : ModelView) (slice : Slice) (p : ℕ) (set : List ℕ) → ends_with_column m slice p set ≡ true → is_among set p ≡ true
ends-among m slice p set ends =
    last_test (is_among set) None (column_order m slice) p (λ q e. absurd (none-some q e))
    (Some-from_equal (last_or None (filter (is_among set) (column_order m slice))) p ends)

fixed_is : (slice : Slice) (cells : List (Option ℕ)) → slices.HasFixed slice cells → HasFixed slice cells
fixed_is Positive cells fixed = tt
fixed_is (Negative q v) cells fixed = fixed

-- a tuple of a set grows in its slice
pub tuple-grows : (m : ModelView) (slice : Slice) (set : List ℕ) (tuple : List (Option ℕ)) → IsSliceOf m slice → IsTupleOf m set slice tuple
    → GrowsIn m slice tuple
tuple-grows m slice set tuple is of = record {
  of = of_slice m slice tuple is (of.choice.long ∙ length-slice_values m slice)
      (λ q has. among_has (get_or (slice_values m slice) q []) (value_in tuple q)
      (of.choice.listed q (omega (arith, assigned_within tuple q has, of.choice.long)) has));
  fixed = fixed_is slice tuple of.belongs.fixed;
}

-- where the set ends with a column, it is in play there
in_play-of : (m : ModelView) (slice : Slice) (p : ℕ) (set : List ℕ) (tuple : List (Option ℕ)) → IsSliceOf m slice → p < length m.params
    → ends_with_column m slice p set ≡ true → IsTupleOf m set slice tuple → IsInPlay m slice p tuple
in_play-of m slice p set tuple is within ends of = record {
  grows = tuple-grows m slice set tuple is of;
  own = of.choice.given p (omega (arith, within, long)) ∙ ap (is_among set) (zero-add p) ∙ ends-among m slice p set ends;
  columns = λ q has.
      let inside : q < length (slice_values m slice) = omega (arith, assigned_within tuple q has, of.choice.long) in
      ends-columns_to m slice p set q ends (ap (is_among set) (sym (zero-add q)) ∙ sym (of.choice.given q inside) ∙ has) (omega (arith, inside, long));
}
  where
    long : length (slice_values m slice) ≡ length m.params
    long = length-slice_values m slice

-- so is each of the tuples in play
pub tuples_in_play-are : (m : ModelView) (slice : Slice) (p : ℕ) → IsSliceOf m slice → p < length m.params → All (IsInPlay m slice p) (tuples_in_play m slice p)
tuples_in_play-are m slice p is within =
    all_members (IsInPlay m slice p) (tuples_in_play m slice p)
    (λ tuple has.
    let at = of_flat (λ set. tuples_in m set slice) (filter (ends_with_column m slice p) (demanded_sets m)) tuple has in
    let kept = of_filter (ends_with_column m slice p) (demanded_sets m) at.0 at.1 in
    in_play-of m slice p at.0 tuple is within kept.1 (tuple_is m at.0 slice tuple (slice_exists m slice is) at.2))

-- the number in a cell
abbrev value_of : Option ℕ → ℕ
value_of cell = unwrap_or cell 0

fixed_more : (slice : Slice) (row cells : List (Option ℕ)) → contains row cells ≡ true → HasFixed slice cells → HasFixed slice row
fixed_more Positive row cells more fixed = tt
fixed_more (Negative q v) row cells more fixed = contains-assigned row cells q more fixed

-- a partial row that grows stays so with a value of the slice
pub grows-with_value : (m : ModelView) (slice : Slice) (cells : List (Option ℕ)) (p v : ℕ) → IsSliceOf m slice → GrowsIn m slice cells
    → is_assigned cells p ≡ false
    → is_among (get_or (slice_values m slice) p []) v ≡ true → GrowsIn m slice (with_value cells p v)
grows-with_value m slice cells p v is grows free value = record {
  of = of_slice m slice (with_value cells p v) is (length-set cells p (Some v) ∙ grows.of.fits.as_long) listed;
  fixed = fixed_more slice (with_value cells p v) cells (with_value-contains cells p v free) grows.fixed;
}
  where
    listed : (q : ℕ) → is_assigned (with_value cells p v) q ≡ true → is_among (get_or (slice_values m slice) q []) (value_in (with_value cells p v) q) ≡ true
    listed q has =
        elim (cases_eq q p) [
          | inl same ↦
              let inside : q < length cells = omega (arith, assigned_within (with_value cells p v) q has, length-set cells p (Some v)) in
              let here : value_in (with_value cells p v) q ≡ v =
              ap (λ (k : ℕ). value_in (with_value cells p v) k) same
              ∙ ap (λ (cell : Option ℕ). value_of cell) (get_or-set_same cells p (Some v) None (omega (arith, same, inside))) in
              ap (is_among (get_or (slice_values m slice) q [])) here ∙ ap (λ (k : ℕ). is_among (get_or (slice_values m slice) k []) v) same ∙ value
          | inr differs ↦
              let there : get_or (with_value cells p v) q None ≡ get_or cells q None = get_or-set_other cells p q (Some v) None differs in
              ap (λ (cell : Option ℕ). is_among (get_or (slice_values m slice) q []) (value_of cell)) there
              ∙ grows.of.listed q (ap (λ (cell : Option ℕ). is_some cell) (sym there) ∙ has)
        ]

pub cell_or_none : (cell : Option ℕ) → cell ≡ cond (is_some cell) cell None
cell_or_none None = refl
cell_or_none (Some v) = refl

pub get_or-union : (row cells : List (Option ℕ)) (q : ℕ) → get_or (union row cells) q None ≡ cond (is_some (get_or row q None)) (get_or row q None)
    (get_or cells q None)
get_or-union [] cells q = refl
get_or-union (None ∷ row) [] zero = refl
get_or-union (Some v ∷ row) [] zero = refl
get_or-union (given ∷ row) [] (suc q) = cell_or_none (get_or row q None)
get_or-union (None ∷ row) (cell ∷ cells) zero = refl
get_or-union (Some v ∷ row) (cell ∷ cells) zero = refl
get_or-union (None ∷ row) (cell ∷ cells) (suc q) = get_or-union row cells q
get_or-union (Some v ∷ row) (cell ∷ cells) (suc q) = get_or-union row cells q

pub length-union : (row cells : List (Option ℕ)) → length row ≡ length cells → length (union row cells) ≡ length row
length-union [] cells long = sym long
length-union (given ∷ row) [] long = refl
length-union (None ∷ row) (cell ∷ cells) long = ap suc (length-union row cells (omega (arith, long)))
length-union (Some v ∷ row) (cell ∷ cells) long = ap suc (length-union row cells (omega (arith, long)))

-- so does the union of two
pub grows-union : (m : ModelView) (slice : Slice) (row cells : List (Option ℕ)) → IsSliceOf m slice → GrowsIn m slice row → GrowsIn m slice cells
    → GrowsIn m slice (union row cells)
grows-union m slice row cells is grows more = record {
  of = of_slice m slice (union row cells) is (length-union row cells (grows.of.fits.as_long ∙ sym more.of.fits.as_long) ∙ grows.of.fits.as_long) listed;
  fixed = fixed_more slice (union row cells) row (union-contains_row row cells) grows.fixed;
}
  where
    by_row : (q : ℕ) (b : Bool) → is_assigned row q ≡ b → is_some (cond b (get_or row q None) (get_or cells q None)) ≡ true
        → is_among (get_or (slice_values m slice) q []) (value_of (cond b (get_or row q None) (get_or cells q None))) ≡ true
    by_row q true has some = grows.of.listed q has
    by_row q false has some = more.of.listed q some

    listed : (q : ℕ) → is_assigned (union row cells) q ≡ true → is_among (get_or (slice_values m slice) q []) (value_in (union row cells) q) ≡ true
    listed q has =
        ap (λ (cell : Option ℕ). is_among (get_or (slice_values m slice) q []) (value_of cell)) (get_or-union row cells q)
        ∙ by_row q (is_assigned row q) refl (ap (λ (cell : Option ℕ). is_some cell) (sym (get_or-union row cells q)) ∙ has)

only-one : (test : ℕ → Bool) (q a n : ℕ) → a ≤ q → q < a + n → test q ≡ true → ((w : ℕ) → w < a + n → w ≢ q → test w ≡ false)
    → filter test (range_with_len a n) ≡ q ∷ []
only-one test q a zero low high own other = absurd (omega arith)
only-one test q a (suc n) low high own other =
    elim (cases_eq a q) [
      | inl same ↦
          ap (λ (b : Bool). cond b (a ∷ filter test (range_with_len (a + 1) n)) (filter test (range_with_len (a + 1) n))) (ap test same ∙ own)
          ∙ ap (λ (rest : List ℕ). a ∷ rest)
          (filter-none test (range_with_len (a + 1) n)
          (λ w among. other w (omega (arith, among_range_below (a + 1) n w among)) (λ e. apart_of a w n (omega (arith, same, e)) among)))
          ∙ ap (λ (k : ℕ). k ∷ []) same
      | inr differs ↦
          ap (λ (b : Bool). cond b (a ∷ filter test (range_with_len (a + 1) n)) (filter test (range_with_len (a + 1) n))) (other a (omega arith) differs)
          ∙ only-one test q (a + 1) n (omega (arith, differs)) (omega arith) own (λ w within apart. other w (omega arith) apart)
    ]
  where
    apart_of : (a w n : ℕ) → w ≡ a → is_among (range_with_len (a + 1) n) w ≡ true → ⊥
    apart_of a w n same among = not_before (a + 1) n w (omega arith) among
      where
        not_before : (b k w : ℕ) → w < b → is_among (range_with_len b k) w ≡ true → ⊥
        not_before b zero w before among = false≢true among
        not_before b (suc k) w before among =
            let test : nat_eq b w ≡ false = grind (arith, nat_tests) in
            not_before (b + 1) k w (omega arith) (sym (ap (λ (x : Bool). x || is_among (range_with_len (b + 1) k) w) test) ∙ among)

both-false : (a b : Bool) → (a ≡ true → b ≡ false) → (a && b) ≡ false
both-false true b f = f refl
both-false false b f = refl

-- the slice of a partial row that grows in a slice
pub grows-slice : (m : ModelView) (slice : Slice) (cells : List (Option ℕ)) → IsSliceOf m slice → GrowsIn m slice cells → slice_of m cells ≡ slice
grows-slice m Positive cells is grows =
    ap (slice_by cells) (filter-none (λ p. is_assigned cells p && (given_value m cells p).negative) (param_numbers m)
    (λ p among. both-false (is_assigned cells p) (given_value m cells p).negative (λ has.
    not-true (given_value m cells p).negative
    (slice_positive m p (value_in cells p) (omega (arith, among_range_below 0 (length m.params) p among)) (grows.of.fits.exist p has)
    ∙ grows.of.listed p has))))
grows-slice m (Negative q v) cells is grows =
    let fixed : v ≡ value_in cells q = same_numbers v (value_in cells q) (slice_fixed m q v q (value_in cells q) refl is.0 ∙ grows.of.listed q grows.fixed) in
    let negative : (given_value m cells q).negative ≡ true = ap (λ (w : ℕ). (value_at m q w).negative) (sym fixed) ∙ is.2 in
    ap (slice_by cells) (only-one (λ p. is_assigned cells p && (given_value m cells p).negative) q 0 (length m.params) (omega arith) (omega (arith, is.0))
    (ap (λ (b : Bool). b && (given_value m cells q).negative) grows.fixed ∙ negative)
    (λ w within apart. both-false (is_assigned cells w) (given_value m cells w).negative (λ has.
    not-true (given_value m cells w).negative
    (slice_other m q v w (value_in cells w) (λ e. apart (sym e)) (omega arith) (grows.of.fits.exist w has) ∙ grows.of.listed w has))))
    ∙ ap (Negative q) (sym fixed)
  where
    same_numbers : (a b : ℕ) → nat_eq a b ≡ true → a ≡ b
    same_numbers a b test = grind (arith, nat_tests)
