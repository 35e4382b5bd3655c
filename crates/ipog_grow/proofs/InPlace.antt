-- Work on rows in place.
use Rattle.std.proofs.Common.{◌≡◌, ℕ, ◌+◌, ◌<◌, ◌≤◌, List, [], ◌∷◌, ◌++◌, take, drop, length, get_or, set, Option, ◌∙◌, sym, ap, refl, arith}
use Rattle.std.proofs.lemmas.List.{drop-set-lt, drop_more, get_or-drop, length-set, take_more_set}
use Rattle.ipog_grow.specs.Rows.{AreDone}

abbrev Row : Type 0
Row = List (Option ℕ)

pub done-none : (rows : List Row) → AreDone rows rows 0 0 []
done-none rows = record { given_are = refl; within = omega arith; rest = refl; as_many = refl }

module _ {start rows : List Row} {i count : ℕ} {given : List Row} (done : AreDone start rows i count given) where
  -- the rows from this one on are as at the start
  pub done-read : (d : Row) → get_or rows i d ≡ get_or start i d
  done-read d =
      let e : i + 0 ≡ i = omega arith in
      sym (get_or-drop i rows 0 d ∙ ap (λ k. get_or rows k d) e) ∙ ap (λ rest. get_or rest 0 d) done.rest
      ∙ get_or-drop i start 0 d ∙ ap (λ k. get_or start k d) e

  -- one more row is done
  pub done-more : {now : List Row} {next : ℕ} {more : List Row} → i < length start → AreDone rows now (i + 1) next more → AreDone start now (i + 1) next more
  done-more {now} {next} {more} within one = record {
    given_are = one.given_are;
    within = one.within;
    rest = one.rest ∙ sym (behind rows (omega (arith, within, done.as_many))) ∙ ap (drop 1) done.rest ∙ behind start within;
    as_many = one.as_many ∙ done.as_many;
  }
    where
      behind : (xs : List Row) → i < length xs → drop 1 (drop i xs) ≡ drop (i + 1) xs
      behind xs inside = ap (drop 1) (drop_more xs i [] inside)

module _ (rows : List Row) (i count : ℕ) (row : Row) (within : i < length rows) (behind : count ≤ i) where
  -- a row that gives nothing
  pub done-nothing : AreDone rows rows (i + 1) count (take count rows)
  done-nothing = record { given_are = refl; within = omega (arith, behind); rest = refl; as_many = refl }

  -- a row that is put behind what was given
  pub done-put : AreDone rows (set rows count row) (i + 1) (count + 1) (take count rows ++ row ∷ [])
  done-put = record {
    given_are = take_more_set rows count row (omega (arith, within, behind));
    within = omega (arith, behind);
    rest = drop-set-lt (i + 1) rows count row (omega (arith, behind));
    as_many = length-set rows count row;
  }
