-- Partial rows that take more values, rows that are the same, the slice of a partial row, and the values in
-- preference order.
use Rattle.std.proofs.Common.{◌≡◌, ℕ, ◌<◌, ◌≤◌, true, false, List, [], ◌∷◌, length, get_or, Option, Some, None, inl, inr, ◌∙◌, sym, ap, subst, refl, arith, zero-add}
use Rattle.std.specs.Prelude.{◌==◌}
use Rattle.std.specs.List.{filter}
use Rattle.std.proofs.Math.Bool.{and_comm}
use Rattle.std.proofs.lemmas.Bool.{false≢true, and_parts, and_from, or_left, or_right, eqb-true, eq-eqb, leb-true}
use Rattle.std.proofs.lemmas.List.{get_or-set_other}
use Rattle.std.proofs.lemmas.List.FromFn.{length-map-range_with_len, get_or-map-range_with_len}
use Rattle.cov_model.specs.declared.slice.Slice.{Slice}
use Rattle.cov_model.specs.declared.slice.Slice.TheVariants.{Positive, Negative}
use Rattle.cov_model.specs.believed.Sound.{ModelView}
use Rattle.cov_model.specs.believed.Rows.{contains, is_assigned, value_in, with_value}
use Rattle.cov_model.specs.believed.Valid.{negatives}
use Rattle.cov_model.specs.believed.Slices.{slice_values, slice_by, slice_of}
use Rattle.cov_model.proofs.CellLemmas.{contains-from, contains-refl, contains-trans}
use Rattle.definitions.specs.believed.Demand.{is_among}
use Rattle.definitions.specs.believed.Completion.{preferred_values, has_slice}
use Rattle.definitions.specs.believed.Seeds.{is_same_row}
use Rattle.definitions.specs.believed.Growth.{agrees, union, is_of_slice}
use Rattle.definitions.proofs.Members.{Has, of_among}

-- ---- numbers in a list

pub among_head : (v : ℕ) (values : List ℕ) → is_among (v ∷ values) v ≡ true
among_head v values = or_left (v == v) (is_among values v) (eq-eqb v v refl)

pub among_tail : (v w : ℕ) (values : List ℕ) → is_among values w ≡ true → is_among (v ∷ values) w ≡ true
among_tail v w values listed = or_right (v == w) (is_among values w) listed

-- ---- partial rows that take more values

-- a row with one more value contains the row
pub with_value-contains : (row : List (Option ℕ)) (p v : ℕ) → is_assigned row p ≡ false → contains (with_value row p v) row ≡ true
with_value-contains row p v free =
    contains-from (with_value row p v) row (λ q assigned.
    get_or-set_other row p q (Some v) None (λ same. false≢true (sym free ∙ ap (is_assigned row) (sym same) ∙ assigned)))

contains-tails : (cell : Option ℕ) (row cells : List (Option ℕ)) → contains row cells ≡ true → contains (cell ∷ row) (cell ∷ cells) ≡ true
contains-tails None row cells contained = contained
contains-tails (Some v) row cells contained = and_from (v == v) (contains row cells) (eq-eqb v v refl) contained

-- a union contains the row
pub union-contains_row : (row cells : List (Option ℕ)) → contains (union row cells) row ≡ true
union-contains_row [] cells = refl
union-contains_row (given ∷ row) [] = contains-refl (given ∷ row)
union-contains_row (Some v ∷ row) (cell ∷ cells) = contains-tails (Some v) (union row cells) row (union-contains_row row cells)
union-contains_row (None ∷ row) (cell ∷ cells) = union-contains_row row cells

-- and a tuple that agrees with it
pub union-contains_tuple : (row tuple : List (Option ℕ)) → agrees row tuple ≡ true → contains (union row tuple) tuple ≡ true
union-contains_tuple [] tuple agree = contains-refl tuple
union-contains_tuple (given ∷ row) [] agree = refl
union-contains_tuple (Some v ∷ row) (Some w ∷ tuple) agree =
    let parts = and_parts (v == w) (agrees row tuple) agree in
    and_from (v == w) (contains (union row tuple) tuple) parts.0 (union-contains_tuple row tuple parts.1)
union-contains_tuple (Some v ∷ row) (None ∷ tuple) agree = union-contains_tuple row tuple agree
union-contains_tuple (None ∷ row) (cell ∷ tuple) agree = contains-tails cell (union row tuple) tuple (union-contains_tuple row tuple agree)

-- ---- rows that are the same

pub same-refl : (row : List (Option ℕ)) → is_same_row row row ≡ true
same-refl row = and_from (contains row row) (contains row row) (contains-refl row) (contains-refl row)

pub same-sym : (a b : List (Option ℕ)) → is_same_row a b ≡ is_same_row b a
same-sym a b = and_comm (contains a b) (contains b a)

pub same-trans : (a b c : List (Option ℕ)) → is_same_row a b ≡ true → is_same_row b c ≡ true → is_same_row a c ≡ true
same-trans a b c first second =
    let ab = and_parts (contains a b) (contains b a) first in
    let bc = and_parts (contains b c) (contains c b) second in
    and_from (contains a c) (contains c a) (contains-trans a b c ab.0 bc.0) (contains-trans c b a bc.1 ab.1)

-- of one length they are one
pub same_row_is : (a b : List (Option ℕ)) → length a ≡ length b → is_same_row a b ≡ true → a ≡ b
same_row_is a b long same = let parts = and_parts (contains a b) (contains b a) same in one a b long parts.0 parts.1
  where
    one : (a b : List (Option ℕ)) → length a ≡ length b → contains a b ≡ true → contains b a ≡ true → a ≡ b
    one [] [] long first second = refl
    one [] (cell ∷ b) long first second = absurd (omega arith)
    one (cell ∷ a) [] long first second = absurd (omega arith)
    one (None ∷ a) (None ∷ b) long first second = ap (λ cells. None ∷ cells) (one a b (omega arith) first second)
    one (None ∷ a) (Some w ∷ b) long first second = absurd (false≢true first)
    one (Some v ∷ a) (None ∷ b) long first second = absurd (false≢true second)
    one (Some v ∷ a) (Some w ∷ b) long first second =
        let left = and_parts (v == w) (contains a b) first in
        let right = and_parts (w == v) (contains b a) second in
        ap (λ u. Some u ∷ a) (eqb-true v w left.0) ∙ ap (λ cells. Some w ∷ cells) (one a b (omega arith) left.1 right.1)

-- ---- slices

-- a partial row with at most one negative value that is of a slice has it as its slice
pub of_slice-is : (m : ModelView) (slice : Slice) (cells : List (Option ℕ)) → has_slice m cells ≡ true → is_of_slice m slice cells ≡ true
    → slice_of m cells ≡ slice
of_slice-is m slice cells few of = at slice (negatives m cells) refl (leb-true (length (negatives m cells)) 1 few) of
  where
    at : (slice : Slice) (ps : List ℕ) → negatives m cells ≡ ps → length ps ≤ 1 → is_of_slice m slice cells ≡ true → slice_by cells ps ≡ slice
    at Positive [] are few of = refl
    at Positive (p ∷ ps) are few of = absurd (omega (arith, eqb-true (length (negatives m cells)) 0 of, ap length are))
    at (Negative q v) ps are few of =
        let parts = and_parts (is_among (negatives m cells) q) (value_in cells q == v) of in
        one ps few (subst (λ ps. Has ps q) are (of_among (negatives m cells) q parts.0)) (eqb-true (value_in cells q) v parts.1)
      where
        one : (ps : List ℕ) → length ps ≤ 1 → Has ps q → value_in cells q ≡ v → slice_by cells ps ≡ Negative q v
        one [] few has value = absurd has
        one (p ∷ []) few (inl same) value = ap (λ r. Negative r (value_in cells r)) same ∙ ap (λ u. Negative q u) value
        one (p ∷ []) few (inr none) value = absurd none
        one (p ∷ r ∷ ps) few has value = absurd (omega arith)

-- in preference order too there is a list of values for each parameter: those of its order that are of the slice
pub length-preferred_values : (m : ModelView) (pref : List (List ℕ)) (slice : Slice) → length (preferred_values m pref slice) ≡ length m.params
length-preferred_values m pref slice =
    length-map-range_with_len (λ p. filter (is_among (get_or (slice_values m slice) p [])) (get_or pref p [])) 0 (length m.params)

pub get_or-preferred_values : (m : ModelView) (pref : List (List ℕ)) (slice : Slice) (p : ℕ) → p < length m.params
    → get_or (preferred_values m pref slice) p [] ≡ filter (is_among (get_or (slice_values m slice) p [])) (get_or pref p [])
get_or-preferred_values m pref slice p within =
    get_or-map-range_with_len (λ q. filter (is_among (get_or (slice_values m slice) q [])) (get_or pref q [])) 0 (length m.params) p p []
    within (zero-add p)
