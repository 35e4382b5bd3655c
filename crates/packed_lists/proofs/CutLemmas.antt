-- The lists that are cut out of one.
use Rattle.std.proofs.Common.{◌≡◌, ℕ, zero, suc, ◌+◌, ◌<◌, ◌≤◌, List, [], ◌∷◌, ◌++◌, length, get_or, take, drop, ◌-◌, ◌∙◌, refl, sym, ap, arith, subst, length-append, length-drop}
use Rattle.std.proofs.Math.Seq.{drop-append_seam, take-length}
use Rattle.std.specs.Prelude.{slice_range}
use Rattle.std.proofs.lemmas.List.{drop-append-le, take-append-le}
use Rattle.packed_lists.specs.Packed.{AreEnds, begin_of, cut}

pub cut_length : (begin : ℕ) (ends numbers : List ℕ) → length (cut begin ends numbers) ≡ length ends
cut_length begin [] numbers = refl
cut_length begin (end ∷ ends) numbers = ap suc (cut_length end ends numbers)

-- no end stands behind the whole
pub begin_within : (begin : ℕ) (ends : List ℕ) (whole : ℕ) → AreEnds begin ends whole → begin ≤ whole
begin_within begin [] whole are = omega (arith, are)
begin_within begin (end ∷ ends) whole are = omega (arith, are.0, begin_within end ends whole are.1)

begin_later : (begin end : ℕ) (ends : List ℕ) (i : ℕ) → begin_of end ends i ≡ begin_of begin (end ∷ ends) (suc i)
begin_later begin end ends zero = refl
begin_later begin end ends (suc i) = refl

-- the list of a number
pub cut_at : (begin : ℕ) (ends numbers : List ℕ) (i : ℕ) → i < length ends
    → get_or (cut begin ends numbers) i [] ≡ slice_range numbers (begin_of begin ends i) (get_or ends i 0)
cut_at begin [] numbers i within = absurd (omega (arith, within))
cut_at begin (end ∷ ends) numbers zero within = refl
cut_at begin (end ∷ ends) numbers (suc i) within =
    cut_at end ends numbers i (omega (arith, within))
    ∙ ap (λ from. slice_range numbers from (get_or ends i 0)) (begin_later begin end ends i)

-- it begins before it ends, and ends in the whole
pub list_within : (begin : ℕ) (ends : List ℕ) (whole i : ℕ) → AreEnds begin ends whole → i < length ends
    → (begin_of begin ends i ≤ get_or ends i 0) × (get_or ends i 0 ≤ whole)
list_within begin [] whole i are within = absurd (omega (arith, within))
list_within begin (end ∷ ends) whole zero are within = (are.0, begin_within end ends whole are.1)
list_within begin (end ∷ ends) whole (suc i) are within =
    let later = list_within end ends whole i are.1 (omega (arith, within)) in
    (omega (arith, later.0, begin_later begin end ends i), later.1)

-- a part that ends in the whole stays when something is put behind
range_before : (numbers list : List ℕ) (begin end : ℕ) → begin ≤ end → end ≤ length numbers
    → slice_range (numbers ++ list) begin end ≡ slice_range numbers begin end
range_before numbers list begin end order within =
    ap (take (end - begin)) (drop-append-le begin numbers list (omega (arith, order, within)))
    ∙ take-append-le (end - begin) (drop begin numbers) list (omega (arith, order, within, length-drop begin numbers))

-- what is put behind is the last list
pub cut_push : (begin : ℕ) (ends numbers list : List ℕ) → AreEnds begin ends (length numbers)
    → cut begin (ends ++ (length numbers + length list) ∷ []) (numbers ++ list) ≡ cut begin ends numbers ++ list ∷ []
cut_push begin [] numbers list are = ap (λ last. last ∷ []) (last_range are)
  where
    size : length numbers + length list - length numbers ≡ length list
    size = omega arith

    whole : slice_range (numbers ++ list) (length numbers) (length numbers + length list) ≡ list
    whole =
        ap (take (length numbers + length list - length numbers)) (drop-append_seam numbers list)
        ∙ ap (λ n. take n list) size ∙ take-length list

    last_range : begin ≡ length numbers → slice_range (numbers ++ list) begin (length numbers + length list) ≡ list
    last_range is = subst (λ from. slice_range (numbers ++ list) from (length numbers + length list) ≡ list) (sym is) whole
cut_push begin (end ∷ ends) numbers list are =
    ap (λ first. first ∷ cut end (ends ++ (length numbers + length list) ∷ []) (numbers ++ list)) (range_before numbers list begin end are.0 (begin_within end ends (length numbers) are.1))
    ∙ ap (λ rest. slice_range numbers begin end ∷ rest) (cut_push end ends numbers list are.1)

pub ends_push : (begin : ℕ) (ends : List ℕ) (whole more : ℕ) → AreEnds begin ends whole
    → AreEnds begin (ends ++ (whole + more) ∷ []) (whole + more)
ends_push begin [] whole more are = (omega (arith, are), refl)
ends_push begin (end ∷ ends) whole more are = (are.0, ends_push end ends whole more are.1)

-- a number of a list is one of an end
pub number_within : (ends numbers : List ℕ) (lists : List (List ℕ)) (i : ℕ) → cut 0 ends numbers ≡ lists → i < length lists → i < length ends
number_within ends numbers lists i is within = omega (arith, within, ap length is, cut_length 0 ends numbers)

-- the lists after a push
pub record Pushes (ends numbers list new_ends new_numbers : List ℕ) : Type 0 where
  pub are : AreEnds 0 new_ends (length new_numbers)
  pub is : cut 0 new_ends new_numbers ≡ cut 0 ends numbers ++ list ∷ []

pub pushes : (ends numbers list new_ends new_numbers : List ℕ) (end : ℕ) → AreEnds 0 ends (length numbers) → end ≡ length numbers + length list
    → new_ends ≡ ends ++ end ∷ [] → new_numbers ≡ numbers ++ list → Pushes ends numbers list new_ends new_numbers
pushes ends numbers list new_ends new_numbers end are end_is ends_are numbers_are =
    let ends_is : new_ends ≡ ends ++ (length numbers + length list) ∷ [] = ends_are ∙ ap (λ e. ends ++ e ∷ []) end_is in
    let whole : length new_numbers ≡ length numbers + length list = ap length numbers_are ∙ length-append numbers list in
    record {
      are = subst (λ n. AreEnds 0 new_ends n) (sym whole) (subst (λ es. AreEnds 0 es (length numbers + length list)) (sym ends_is) (ends_push 0 ends (length numbers) (length list) are));
      is = ap (λ es. cut 0 es new_numbers) ends_is ∙ ap (cut 0 (ends ++ (length numbers + length list) ∷ [])) numbers_are ∙ cut_push 0 ends numbers list are;
    }
