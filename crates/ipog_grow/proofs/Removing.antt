-- Taking out, one after another, the rows that are the same as an earlier one.
use Rattle.std.proofs.Common.{◌≡◌, ℕ, ◌+◌, ◌<◌, ◌≤◌, List, [], ◌∷◌, ◌++◌, take, length, get_or, All, Option, Bool, true, false, cond, ◌∙◌, sym, ap, subst, refl, arith}
use Rattle.std.proofs.lemmas.List.{take_all, take_more}
use Rattle.std.proofs.lemmas.List.Elements.{All-push}
use Rattle.definitions.specs.believed.Seeds.{distinct}
use Rattle.ipog_grow.specs.Rows.{AreAsLong, AreDone, is_known_row, with_row}
use Rattle.ipog_grow.proofs.InPlace.{done-more, done-none, done-read}
use Rattle.definitions.proofs.SameRows.{distinct_by-push}

abbrev IsLong : List (List (Option ℕ)) → List (Option ℕ) → Type 0
IsLong start row = length row ≡ length (get_or start 0 [])

-- of the rows before this place the distinct ones are known, and stand first
pub record Removes (start rows known : List (List (Option ℕ))) (i count : ℕ) : Type 0 where
  pub done : AreDone start rows i count known
  pub known_are : known ≡ distinct (take i start)
  pub long : All (IsLong start) known

pub removes-none : (rows : List (List (Option ℕ))) → Removes rows rows [] 0 0
removes-none rows = record { done = done-none rows; known_are = refl; long = λ i d within. absurd (omega (arith, within)) }

module _ (start rows known : List (List (Option ℕ))) (i count : ℕ) (long : AreAsLong start) (before : Removes start rows known i count)
    (within : i < length start) where
  abbrev row : List (Option ℕ)
  row = get_or rows i []

  pub removes-as_long : length row ≡ length (get_or start 0 [])
  removes-as_long = ap length (done-read before.done []) ∙ long i [] within

  pub removes-long : All (λ other. length other ≡ length row) known
  removes-long = subst (λ (n : ℕ). All (λ other. length other ≡ n) known) (sym removes-as_long) before.long

  pub removes-next : (rows' known' : List (List (Option ℕ))) (count' : ℕ) → AreDone rows rows' (i + 1) count' (with_row known row)
      → known' ≡ with_row known row → Removes start rows' known' (i + 1) count'
  removes-next rows' known' count' done is = record {
    done = subst (AreDone start rows' (i + 1) count') (sym is) (done-more before.done within done);
    known_are = is ∙ ap (λ ks. with_row ks row) before.known_are ∙ ap (with_row (distinct (take i start))) (done-read before.done [])
        ∙ sym (distinct_by-push (λ r. r) (take i start) (get_or start i [])) ∙ ap distinct (sym (take_more start i [] within));
    long = subst (All (IsLong start)) (sym is) (by_case (is_known_row known row));
  }
    where
      by_case : (b : Bool) → All (IsLong start) (cond b known (known ++ row ∷ []))
      by_case true = before.long
      by_case false = All-push (IsLong start) known row before.long removes-as_long

-- all are known
pub removes-all : (start rows known : List (List (Option ℕ))) (i count : ℕ) → Removes start rows known i count → length start ≤ i
    → take count rows ≡ distinct start
removes-all start rows known i count before all = before.done.given_are ∙ before.known_are ∙ ap distinct (take_all i start all)
