-- The verdict on other valid rows that serve what the rows of an accepted report serve.
use Rattle.std.proofs.Common.{◌≡◌, ℕ, Bool, true, false, ◌&&◌, not, cond, List, [], ◌∷◌, length, Option, Some, None, is_some, Result, Ok, Err, find, All, ◌∙◌, sym, ap, refl}
use Rattle.std.specs.List.{list_any}
use Rattle.std.proofs.lemmas.Bool.{false≢true}
use Rattle.std.proofs.lemmas.List.Elements.{All-head, All-tail}
use Rattle.cov_model.specs.believed.Sound.{ModelView}
use Rattle.cov_model.specs.believed.Valid.{is_valid}
use Rattle.definitions.specs.believed.Demand.{demanded_tuples}
use Rattle.definitions.specs.believed.Figures.{is_served}
use Rattle.definitions.specs.believed.ProofText.{Omission, omissions_of}
use Rattle.definitions.specs.believed.Refutation.{first_unrefuted}
use Rattle.definitions.specs.believed.Seeds.{is_same_row}
use Rattle.definitions.specs.believed.Verdict.{Verdict, Accepted, BadRow, BadProof, BadOmission, Uncovered, as_cells, by_omission, by_proof, by_row, by_tuple, first_uncovered, listed}
use Rattle.shorter_suites.specs.Laws.{AcceptedStay}
use Rattle.shorter_suites.specs.believed.Laws.{rows_of}

abbrev is_accepted : Verdict → Bool
is_accepted (Accepted rows omissions) = true
is_accepted (BadRow line) = false
is_accepted (BadProof line) = false
is_accepted (BadOmission line) = false
is_accepted (Uncovered tuple) = false

abbrev IsGood : Verdict → Type 0
IsGood verdict = (rows : ℕ) × (omissions : ℕ) × (verdict ≡ Accepted rows omissions)

-- where nothing of the first rows was found, nothing of the others is
tuples_stay : (a b c r k : ℕ) (bad other : Option (List (Option ℕ))) → (bad ≡ None → other ≡ None) → by_tuple a b bad ≡ Accepted r k → IsGood (by_tuple c b other)
tuples_stay a b c r k (Some tuple) other stays h = absurd (false≢true (ap is_accepted h))
tuples_stay a b c r k None other stays h = (c, b, ap (by_tuple c b) (stays refl))

omissions_stay : (m : ModelView) (rows others : List (List (Option ℕ))) (omissions : List Omission) (r k : ℕ) (bad : Option ℕ)
    → (first_uncovered m rows omissions ≡ None → first_uncovered m others omissions ≡ None)
    → by_omission m rows omissions bad ≡ Accepted r k → IsGood (by_omission m others omissions bad)
omissions_stay m rows others omissions r k (Some line) stays h = absurd (false≢true (ap is_accepted h))
omissions_stay m rows others omissions r k None stays h =
    tuples_stay (length rows) (length omissions) (length others) r k (first_uncovered m rows omissions) (first_uncovered m others omissions) stays h

proof_stays : (m : ModelView) (rows others : List (List (Option ℕ))) (r k : ℕ) (reading : Result (ℕ × List Omission) ℕ)
    → ((omissions : List Omission) → first_uncovered m rows omissions ≡ None → first_uncovered m others omissions ≡ None)
    → by_proof m rows reading ≡ Accepted r k → IsGood (by_proof m others reading)
proof_stays m rows others r k (Err line) stays h = absurd (false≢true (ap is_accepted h))
proof_stays m rows others r k (Ok proof) stays h =
    omissions_stay m rows others proof.1 r k (first_unrefuted m proof.0 [] 2 (as_cells m proof.1)) (stays proof.1) h

rows_stay : (m : ModelView) (rows others : List (List (Option ℕ))) (bytes : List ℕ) (r k : ℕ) (bad other : Option (ℕ × List (Option ℕ))) → other ≡ None
    → ((omissions : List Omission) → first_uncovered m rows omissions ≡ None → first_uncovered m others omissions ≡ None)
    → by_row m rows bytes bad ≡ Accepted r k → IsGood (by_row m others bytes other)
rows_stay m rows others bytes r k (Some line) other good stays h = absurd (false≢true (ap is_accepted h))
rows_stay m rows others bytes r k None other good stays h =
    let rest = proof_stays m rows others r k (omissions_of m bytes) stays h in
    (rest.0, rest.1, ap (by_row m others bytes) good ∙ rest.2)

-- no row of valid ones is found bad
none_bad : (m : ModelView) (lines : List (ℕ × List (Option ℕ))) → All (λ row. is_valid m row ≡ true) (rows_of lines)
    → find (λ line. not (is_valid m line.1)) lines ≡ None
none_bad m [] valid = refl
none_bad m (line ∷ lines) valid =
    ap (λ b. cond (not b) (Some line) (find (λ line. not (is_valid m line.1)) lines)) (All-head (λ row. is_valid m row ≡ true) line.1 (rows_of lines) valid)
    ∙ none_bad m lines (All-tail (λ row. is_valid m row ≡ true) line.1 (rows_of lines) valid)

-- no tuple is left that wasn't left before
none_left : (m : ModelView) (given rows : List (List (Option ℕ))) (omissions : List Omission) (tuples : List (List (Option ℕ)))
    → All (λ tuple. is_served m given tuple ≡ true → is_served m rows tuple ≡ true) tuples
    → find (λ tuple. not (is_served m given tuple) && not (list_any (is_same_row tuple) (listed m omissions))) tuples ≡ None
    → find (λ tuple. not (is_served m rows tuple) && not (list_any (is_same_row tuple) (listed m omissions))) tuples ≡ None
none_left m given rows omissions [] keeps none = refl
none_left m given rows omissions (tuple ∷ tuples) keeps none =
    at (is_served m given tuple) (is_served m rows tuple) (list_any (is_same_row tuple) (listed m omissions))
    (All-head (λ t. is_served m given t ≡ true → is_served m rows t ≡ true) tuple tuples keeps)
    (find (λ t. not (is_served m given t) && not (list_any (is_same_row t) (listed m omissions))) tuples)
    (find (λ t. not (is_served m rows t) && not (list_any (is_same_row t) (listed m omissions))) tuples)
    (none_left m given rows omissions tuples (All-tail (λ t. is_served m given t ≡ true → is_served m rows t ≡ true) tuple tuples keeps))
    none
  where
    at : (given rows listed : Bool) → (given ≡ true → rows ≡ true) → (before after : Option (List (Option ℕ))) → (before ≡ None → after ≡ None)
        → cond (not given && not listed) (Some tuple) before ≡ None → cond (not rows && not listed) (Some tuple) after ≡ None
    at true true listed keeps before after later none = later none
    at true false listed keeps before after later none = absurd (false≢true (keeps refl))
    at false true listed keeps before after later none = by_listed listed none
      where
        by_listed : (b : Bool) → cond (not b) (Some tuple) before ≡ None → after ≡ None
        by_listed true none = later none
        by_listed false none = absurd (false≢true (sym (ap is_some none)))
    at false false true keeps before after later none = later none
    at false false false keeps before after later none = none_given none
      where
        none_given : Some tuple ≡ None → Some tuple ≡ None
        none_given e = e

pub accepted_stay : AcceptedStay
accepted_stay m given lines bytes valid serves accepted =
    rows_stay m (rows_of given) (rows_of lines) bytes accepted.0 accepted.1 (find (λ line. not (is_valid m line.1)) given)
    (find (λ line. not (is_valid m line.1)) lines)
    (none_bad m lines valid) (λ omissions none. none_left m (rows_of given) (rows_of lines) omissions (demanded_tuples m) serves none) accepted.2
