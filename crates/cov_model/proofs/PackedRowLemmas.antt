-- Partial rows of one length, one behind another in one list.
use Rattle.std.proofs.Common.{◌≡◌, ℕ, zero, suc, ◌+◌, ◌*◌, ◌<◌, ◌≤◌, List, [], ◌∷◌, ◌++◌, length, get_or, set, take, drop, Option, All}
use Rattle.std.proofs.Common.{◌∙◌, refl, sym, ap, arith, subst, length-append, length-drop, zero-add}
use Rattle.std.proofs.Math.Nat.{suc-mul}
use Rattle.std.proofs.Math.Seq.{take-length}
use Rattle.std.proofs.lemmas.List.{nil_from_length, take-append-le, drop-append-le, drop-drop, length-take-le, take-take, drop-take, take-set-le, drop-set-lt, drop-set-add, take_at, drop_at}
use Rattle.std.proofs.lemmas.List.Elements.{All-get_or, All-weaker}
use Rattle.std.proofs.lemmas.Nat.{mul-le}
use Rattle.cov_model.specs.PackedRows.{rows_of}

-- a row lies within the list
pub row_within : (width count i : ℕ) → i < count → i * width + width ≤ count * width
row_within width count i within =
    let less : suc i ≤ count = omega (arith, within) in
    omega (arith, mul-le (suc i) width count width less (omega arith), suc-mul i width)

-- no row takes no place
no_row : (width : ℕ) → 0 * width ≡ 0
no_row width = omega arith

-- one row more
one_more : (width count : ℕ) → suc count * width ≡ width + count * width
one_more width count = omega (arith, suc-mul count width)

later_long : (width count : ℕ) (places : List (Option ℕ)) → length places ≡ suc count * width → length (drop width places) ≡ count * width
later_long width count places long = omega (arith, long, one_more width count, length-drop width places)

first_within : (width count : ℕ) (places : List (Option ℕ)) → length places ≡ suc count * width → width ≤ length places
first_within width count places long = omega (arith, long, one_more width count)

-- there are so many rows
pub rows_length : (width count : ℕ) (places : List (Option ℕ)) → length (rows_of width count places) ≡ count
rows_length width zero places = refl
rows_length width (suc count) places = ap suc (rows_length width count (drop width places))

-- the row at a place
pub row_at : (width count : ℕ) (places : List (Option ℕ)) (i : ℕ) → i < count
    → get_or (rows_of width count places) i [] ≡ take width (drop (i * width) places)
row_at width zero places i within = absurd (omega (arith, within))
row_at width (suc count) places zero within = ap (λ begin. take width (drop begin places)) (sym (no_row width))
row_at width (suc count) places (suc i) within =
    row_at width count (drop width places) i (omega (arith, within))
    ∙ ap (take width) (drop-drop (i * width) width places)
    ∙ ap (λ begin. take width (drop begin places)) (sym (one_more width i))

-- it has that length
pub row_long : (width count : ℕ) (places : List (Option ℕ)) (i : ℕ) → length places ≡ count * width → i < count
    → length (get_or (rows_of width count places) i []) ≡ width
row_long width count places i long within =
    ap length (row_at width count places i within)
    ∙ length-take-le width (drop (i * width) places) (omega (arith, long, row_within width count i within, length-drop (i * width) places))

-- the row at a place, by the list of the rows
pub record IsRowAt (width count : ℕ) (places : List (Option ℕ)) (rows : List (List (Option ℕ))) (i : ℕ) : Type 0 where
  pub number : i < count
  pub within : i * width + width ≤ length places
  pub is : get_or rows i [] ≡ take width (drop (i * width) places)
  pub long : length (get_or rows i []) ≡ width

pub seen_row : (width count : ℕ) (places : List (Option ℕ)) (rows : List (List (Option ℕ))) (i : ℕ) → rows_of width count places ≡ rows
    → length places ≡ count * width → i < length rows → IsRowAt width count places rows i
seen_row width count places rows i are long inside =
    let number : i < count = omega (arith, inside, ap length are, rows_length width count places) in
    record {
      number = number;
      within = omega (arith, long, row_within width count i number);
      is = ap (λ (rs : List (List (Option ℕ))). get_or rs i []) (sym are) ∙ row_at width count places i number;
      long = ap (λ (rs : List (List (Option ℕ))). length (get_or rs i [])) (sym are) ∙ row_long width count places i long number;
    }

-- rows of another length, which each of them has
pub record Widens (width other count : ℕ) (places : List (Option ℕ)) : Type 0 where
  pub long : length places ≡ count * other
  pub are : rows_of other count places ≡ rows_of width count places

pub widens : (width other count : ℕ) (places : List (Option ℕ)) → length places ≡ count * width
    → All (λ row. length row ≡ other) (rows_of width count places) → Widens width other count places
widens width other zero places long as_long = record { long = long ∙ no_row width ∙ sym (no_row other); are = refl }
widens width other (suc count) places long as_long =
    let first : length (get_or (rows_of width (suc count) places) 0 []) ≡ other =
    All-get_or (λ (row : List (Option ℕ)). length row ≡ other) (rows_of width (suc count) places) 0 [] (omega (arith, rows_length width (suc count) places)) as_long in
    let same : width ≡ other = sym (row_long width (suc count) places 0 long (omega arith)) ∙ first in
    subst (λ o. Widens width o (suc count) places) same (record { long = long; are = refl })

-- rows behind rows
pub rows_append : (width count more : ℕ) (places others : List (Option ℕ)) → length places ≡ count * width
    → rows_of width (count + more) (places ++ others) ≡ rows_of width count places ++ rows_of width more others
rows_append width zero more places others long =
    ap (λ n. rows_of width n (places ++ others)) (zero-add more)
    ∙ ap (λ (ps : List (Option ℕ)). rows_of width more (ps ++ others)) (nil_from_length places (long ∙ no_row width))
rows_append width (suc count) more places others long =
    let within = first_within width count places long in
    let one_less : suc count + more ≡ suc (count + more) = omega arith in
    ap (λ n. rows_of width n (places ++ others)) one_less
    ∙ ap (λ first. first ∷ rows_of width (count + more) (drop width (places ++ others))) (take-append-le width places others within)
    ∙ ap (λ rest. take width places ∷ rows_of width (count + more) rest) (drop-append-le width places others within)
    ∙ ap (λ rest. take width places ∷ rest) (rows_append width count more (drop width places) others (later_long width count places long))

pub all_long : (count more width : ℕ) (places others : List (Option ℕ)) → length places ≡ count * width → length others ≡ more * width
    → length (places ++ others) ≡ (count + more) * width
all_long count more width places others long others_long = grind (arith, length-append places others)

-- a row more
pub record Pushes (count : ℕ) (places : List (Option ℕ)) (rows : List (List (Option ℕ))) (row : List (Option ℕ)) : Type 0 where
  pub long : length (places ++ row) ≡ (count + 1) * length row
  pub are : rows_of (length row) (count + 1) (places ++ row) ≡ rows ++ row ∷ []

pub seen_push : (width count : ℕ) (places : List (Option ℕ)) (rows : List (List (Option ℕ))) (row : List (Option ℕ)) → rows_of width count places ≡ rows
    → length places ≡ count * width → All (λ other. length other ≡ length row) rows → Pushes count places rows row
seen_push width count places rows row are long as_long =
    let wide = widens width (length row) count places long (subst (All (λ other. length other ≡ length row)) (sym are) as_long) in
    record {
      long = all_long count 1 (length row) places row wide.long (omega arith);
      are = rows_append (length row) count 1 places row wide.long
          ∙ ap (λ (known : List (List (Option ℕ))). known ++ take (length row) row ∷ []) (wide.are ∙ are)
          ∙ ap (λ last. rows ++ last ∷ []) (take-length row);
    }

-- rows more
pub record Appends (width count more : ℕ) (places others : List (Option ℕ)) (rows other_rows : List (List (Option ℕ))) : Type 0 where
  pub long : length (places ++ others) ≡ (count + more) * width
  pub are : rows_of width (count + more) (places ++ others) ≡ rows ++ other_rows

pub seen_appends : (width count other more : ℕ) (places others : List (Option ℕ)) (rows other_rows : List (List (Option ℕ)))
    → rows_of width count places ≡ rows → rows_of other more others ≡ other_rows → length places ≡ count * width → length others ≡ more * other
    → 0 < count → All (λ row. All (λ known. length known ≡ length row) rows) other_rows
    → Appends width count more places others rows other_rows
seen_appends width count other more places others rows other_rows are others_are long others_long some as_long =
    let there : 0 < length rows = omega (arith, some, rows_length width count places, ap length are) in
    let known : (row : List (Option ℕ)) → All (λ (first : List (Option ℕ)). length first ≡ length row) rows → length row ≡ width =
    λ row same. sym (All-get_or (λ (first : List (Option ℕ)). length first ≡ length row) rows 0 [] there same)
    ∙ (seen_row width count places rows 0 are long there).long in
    let wide = widens other width more others others_long
    (subst (All (λ row. length row ≡ width)) (sym others_are)
    (All-weaker (λ (row : List (Option ℕ)). All (λ (first : List (Option ℕ)). length first ≡ length row) rows) (λ row. length row ≡ width) known other_rows as_long)) in
    record {
      long = all_long count more width places others long wide.long;
      are = rows_append width count more places others long ∙ ap (λ (first : List (List (Option ℕ))). first ++ rows_of width more others) are
          ∙ ap (λ (rest : List (List (Option ℕ))). rows ++ rest) (wide.are ∙ others_are);
    }

-- the list with other places from this one on
abbrev pub written : List (Option ℕ) → ℕ → List (Option ℕ) → List (Option ℕ)
written places begin row = take begin places ++ (row ++ drop (begin + length row) places)

-- a row that becomes another one
pub rows_put : (width count : ℕ) (places row : List (Option ℕ)) (i : ℕ) → length places ≡ count * width → length row ≡ width → i < count
    → rows_of width count (written places (i * width) row) ≡ set (rows_of width count places) i row
rows_put width zero places row i long as_long within = absurd (omega (arith, within))
rows_put width (suc count) places row zero long as_long within =
    ap (λ begin. rows_of width (suc count) (written places begin row)) (no_row width)
    ∙ ap (λ n. rows_of width (suc count) (row ++ drop n places)) (zero-add (length row))
    ∙ ap (λ first. first ∷ rows_of width count (drop width (row ++ drop (length row) places))) (take_at row (drop (length row) places) width as_long)
    ∙ ap (λ rest. row ∷ rows_of width count rest) (drop_at row (drop (length row) places) width as_long)
    ∙ ap (λ n. row ∷ rows_of width count (drop n places)) as_long
rows_put width (suc count) places row (suc i) long as_long within =
    let inside : i < count = omega (arith, within) in
    let all : i * width + width ≤ count * width = row_within width count i inside in
    let behind : suc i * width ≡ width + i * width = one_more width i in
    let tail : List (Option ℕ) = row ++ drop (suc i * width + length row) places in
    let before : width ≤ length (take (suc i * width) places) =
    omega (arith, long, one_more width count, all, behind, length-take-le (suc i * width) places (omega (arith, long, one_more width count, all, behind))) in
    let first : take width (take (suc i * width) places ++ tail) ≡ take width places =
    take-append-le width (take (suc i * width) places) tail before ∙ take-take width (suc i * width) places (omega (arith, behind)) in
    let rest : drop width (take (suc i * width) places ++ tail) ≡ written (drop width places) (i * width) row =
    drop-append-le width (take (suc i * width) places) tail before
    ∙ ap (λ (ps : List (Option ℕ)). ps ++ tail) (ap (λ n. drop width (take n places)) behind ∙ drop-take width (i * width) places)
    ∙ ap (λ (ps : List (Option ℕ)). take (i * width) (drop width places) ++ (row ++ ps))
    (ap (λ n. drop n places) (omega (arith, behind)) ∙ sym (drop-drop (i * width + length row) width places)) in
    ap (λ f. f ∷ rows_of width count (drop width (take (suc i * width) places ++ tail))) first
    ∙ ap (λ r. take width places ∷ rows_of width count r) rest
    ∙ ap (λ r. take width places ∷ r) (rows_put width count (drop width places) row i (later_long width count places long) as_long inside)

pub written_long : (places row : List (Option ℕ)) (begin : ℕ) → begin + length row ≤ length places → length (written places begin row) ≡ length places
written_long places row begin within =
    omega (
      arith,
      within,
      length-append (take begin places) (row ++ drop (begin + length row) places),
      length-append row (drop (begin + length row) places),
      length-take-le begin places (omega (arith, within)),
      length-drop (begin + length row) places,
    )

-- the same by the list of the rows, for a row, and for one of the rows
pub record Puts (width count : ℕ) (places : List (Option ℕ)) (rows : List (List (Option ℕ))) (i : ℕ) (row : List (Option ℕ)) : Type 0 where
  pub within : i * width + length row ≤ length places
  pub long : length (written places (i * width) row) ≡ length places
  pub are : rows_of width count (written places (i * width) row) ≡ set rows i row

pub seen_put : (width count : ℕ) (places : List (Option ℕ)) (rows : List (List (Option ℕ))) (i : ℕ) (row : List (Option ℕ))
    → rows_of width count places ≡ rows → length places ≡ count * width → i < length rows → length row ≡ length (get_or rows i [])
    → Puts width count places rows i row
seen_put width count places rows i row are long inside as_long =
    let seen = seen_row width count places rows i are long inside in
    let wide : length row ≡ width = as_long ∙ seen.long in
    let within : i * width + length row ≤ length places = omega (arith, seen.within, wide) in
    record {
      within = within;
      long = written_long places row (i * width) within;
      are = rows_put width count places row i long wide seen.number ∙ ap (λ rs. set rs i row) are;
    }

-- a row that becomes another one of the rows
abbrev pub copied : List (Option ℕ) → ℕ → ℕ → ℕ → List (Option ℕ)
copied places from to width = take to places ++ (take width (drop from places) ++ drop (to + width) places)

pub record Copies (width count : ℕ) (places : List (Option ℕ)) (rows : List (List (Option ℕ))) (from to : ℕ) : Type 0 where
  pub long : length (copied places (from * width) (to * width) width) ≡ length places
  pub are : rows_of width count (copied places (from * width) (to * width) width) ≡ set rows to (get_or rows from [])

pub seen_copy : (width count : ℕ) (places : List (Option ℕ)) (rows : List (List (Option ℕ))) (from to : ℕ) → rows_of width count places ≡ rows
    → length places ≡ count * width → from < length rows → to < length rows → Copies width count places rows from to
seen_copy width count places rows from to are long from_within to_within =
    let first = seen_row width count places rows from are long from_within in
    let other = seen_row width count places rows to are long to_within in
    let puts = seen_put width count places rows to (get_or rows from []) are long to_within (first.long ∙ sym other.long) in
    let same : copied places (from * width) (to * width) width ≡ written places (to * width) (get_or rows from []) =
    ap (λ (row : List (Option ℕ)). take (to * width) places ++ (row ++ drop (to * width + width) places)) (sym first.is)
    ∙ ap (λ n. take (to * width) places ++ (get_or rows from [] ++ drop (to * width + n) places)) (sym first.long) in
    record {
      long = ap length same ∙ puts.long;
      are = ap (rows_of width count) same ∙ puts.are;
    }

-- a cell that becomes another one
take-set : {X : Type 0} (n : ℕ) (xs : List X) (p : ℕ) (x : X) → take n (set xs p x) ≡ set (take n xs) p x
take-set zero xs p x = refl
take-set (suc n) [] p x = refl
take-set (suc n) (y ∷ xs) zero x = refl
take-set (suc n) (y ∷ xs) (suc p) x = ap (λ rest. y ∷ rest) (take-set n xs p x)

pub rows_set : (width count : ℕ) (places : List (Option ℕ)) (i p : ℕ) (cell : Option ℕ) → i < count → p < width
    → rows_of width count (set places (i * width + p) cell) ≡ set (rows_of width count places) i (set (get_or (rows_of width count places) i []) p cell)
rows_set width zero places i p cell within inside = absurd (omega (arith, within))
rows_set width (suc count) places zero p cell within inside =
    let at : 0 * width + p ≡ p = omega (arith, no_row width) in
    ap (λ n. rows_of width (suc count) (set places n cell)) at
    ∙ ap (λ first. first ∷ rows_of width count (drop width (set places p cell))) (take-set width places p cell)
    ∙ ap (λ rest. set (take width places) p cell ∷ rows_of width count rest) (drop-set-lt width places p cell inside)
rows_set width (suc count) places (suc i) p cell within inside =
    let at : suc i * width + p ≡ width + (i * width + p) = omega (arith, one_more width i) in
    ap (λ n. rows_of width (suc count) (set places n cell)) at
    ∙ ap (λ first. first ∷ rows_of width count (drop width (set places (width + (i * width + p)) cell)))
    (take-set-le width places (width + (i * width + p)) cell (omega arith))
    ∙ ap (λ rest. take width places ∷ rows_of width count rest) (drop-set-add width places (i * width + p) cell)
    ∙ ap (λ rest. take width places ∷ rest) (rows_set width count (drop width places) i p cell (omega (arith, within)) inside)

-- the same by the list of the rows
pub record Sets (width count : ℕ) (places : List (Option ℕ)) (rows : List (List (Option ℕ))) (i p : ℕ) (cell : Option ℕ) : Type 0 where
  pub within : i * width + p < length places
  pub are : rows_of width count (set places (i * width + p) cell) ≡ set rows i (set (get_or rows i []) p cell)

pub seen_set : (width count : ℕ) (places : List (Option ℕ)) (rows : List (List (Option ℕ))) (i p : ℕ) (cell : Option ℕ)
    → rows_of width count places ≡ rows → length places ≡ count * width → i < length rows → p < length (get_or rows i [])
    → Sets width count places rows i p cell
seen_set width count places rows i p cell are long inside there =
    let seen = seen_row width count places rows i are long inside in
    let narrow : p < width = omega (arith, there, seen.long) in
    record {
      within = omega (arith, narrow, seen.within);
      are = rows_set width count places i p cell seen.number narrow ∙ ap (λ rs. set rs i (set (get_or rs i []) p cell)) are;
    }

-- the first rows
pub rows_take : (width count less : ℕ) (places : List (Option ℕ)) → less ≤ count
    → rows_of width less (take (less * width) places) ≡ take less (rows_of width count places)
rows_take width count zero places fewer = refl
rows_take width zero (suc less) places fewer = absurd (omega (arith, fewer))
rows_take width (suc count) (suc less) places fewer =
    ap (λ n. rows_of width (suc less) (take n places)) (one_more width less)
    ∙ ap (λ first. first ∷ rows_of width less (drop width (take (width + less * width) places))) (take-take width (width + less * width) places (omega arith))
    ∙ ap (λ rest. take width places ∷ rows_of width less rest) (drop-take width (less * width) places)
    ∙ ap (λ rest. take width places ∷ rest) (rows_take width count less (drop width places) (omega (arith, fewer)))

pub taken_long : (width count less : ℕ) (places : List (Option ℕ)) → length places ≡ count * width → less ≤ count
    → length (take (less * width) places) ≡ less * width
taken_long width count less places long fewer =
    length-take-le (less * width) places (omega (arith, long, mul-le less width count width fewer (omega arith)))
