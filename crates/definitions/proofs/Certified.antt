-- A report and a proof that are accepted certify the covering: the verdict taken apart.
use Rattle.std.proofs.Common.{◌≡◌, ℕ, Bool, true, false, ◌&&◌, ◌||◌, not, List, [], ◌∷◌, map, length, Option}
use Rattle.std.proofs.Common.{Some, None, Result, Ok, Err, find, All, ◌⊎◌, inl, inr, ◌∙◌, sym, ap, refl}
use Rattle.std.specs.List.{list_all, list_any, Any}
use Rattle.std.proofs.lemmas.Bool.{false≢true, false_from_ne_true, and_from}
use Rattle.std.proofs.lemmas.List.Elements.{All-weaker, All-head, All-tail}
use Rattle.std.proofs.lemmas.List.Sums.{AllPass-from_list_all}
use Rattle.std.proofs.lemmas.List.Folds.{Any-from_list_any}
use Rattle.cov_model.specs.believed.Sound.{ModelView}
use Rattle.cov_model.specs.believed.Rows.{contains, is_assigned}
use Rattle.cov_model.specs.believed.Valid.{is_valid, serves, negatives}
use Rattle.value_text.proofs.ListLemmas.{list_any-map}
use Rattle.cov_model.proofs.CellLemmas.{contains-assigned, contains-trans}
use Rattle.definitions.specs.believed.Demand.{demanded_tuples}
use Rattle.definitions.specs.believed.Seeds.{is_same_row}
use Rattle.definitions.specs.believed.Refutation.{first_unrefuted}
use Rattle.cov_model.specs.believed.Tuples.{cells_of}
use Rattle.definitions.specs.believed.ProofText.{Omission, omissions_of}
use Rattle.definitions.specs.believed.Figures.{is_served}
use Rattle.definitions.specs.believed.Verdict.{Verdict, Accepted, BadRow, BadProof, BadOmission, Uncovered, IsListed, by_row, by_proof, by_omission, by_tuple, as_cells, first_uncovered, listed}
use Rattle.definitions.specs.believed.Covering.{IsUnserved}
use Rattle.definitions.specs.Laws.{AcceptedAreCertified}
use Rattle.definitions.proofs.Contained.{left, right}
use Rattle.definitions.proofs.Nothing.{none_found}
use Rattle.definitions.proofs.Refuted.{each_unserved}

abbrev is_accepted : Verdict → Bool
is_accepted (Accepted rows omissions) = true
is_accepted (BadRow line) = false
is_accepted (BadProof line) = false
is_accepted (BadOmission line) = false
is_accepted (Uncovered tuple) = false

-- each step of an accepted verdict found nothing
rows_good : (m : ModelView) (rows : List (List (Option ℕ))) (bytes : List ℕ) (bad : Option (ℕ × List (Option ℕ))) (r k : ℕ)
    → by_row m rows bytes bad ≡ Accepted r k → (bad ≡ None) × (by_proof m rows (omissions_of m bytes) ≡ Accepted r k)
rows_good m rows bytes (Some line) r k h = absurd (false≢true (ap is_accepted h))
rows_good m rows bytes None r k h = (refl, h)

proof_read : (m : ModelView) (rows : List (List (Option ℕ))) (reading : Result (ℕ × List Omission) ℕ) (r k : ℕ)
    → by_proof m rows reading ≡ Accepted r k
    → (proof : ℕ × List Omission) × (reading ≡ Ok proof) × (by_omission m rows proof.1 (first_unrefuted m proof.0 [] 2 (as_cells m proof.1)) ≡ Accepted r k)
proof_read m rows (Ok proof) r k h = (proof, refl, h)
proof_read m rows (Err line) r k h = absurd (false≢true (ap is_accepted h))

trees_good : (m : ModelView) (rows : List (List (Option ℕ))) (omissions : List Omission) (bad : Option ℕ) (r k : ℕ)
    → by_omission m rows omissions bad ≡ Accepted r k
    → (bad ≡ None) × (by_tuple (length rows) (length omissions) (first_uncovered m rows omissions) ≡ Accepted r k)
trees_good m rows omissions (Some line) r k h = absurd (false≢true (ap is_accepted h))
trees_good m rows omissions None r k h = (refl, h)

tuples_good : (a b : ℕ) (bad : Option (List (Option ℕ))) (r k : ℕ) → by_tuple a b bad ≡ Accepted r k → bad ≡ None
tuples_good a b (Some tuple) r k h = absurd (false≢true (ap is_accepted h))
tuples_good a b None r k h = refl

all_assigned : (tuple other : List (Option ℕ)) (ps : List ℕ) → contains other tuple ≡ true → list_all (is_assigned tuple) ps ≡ true
    → list_all (is_assigned other) ps ≡ true
all_assigned tuple other [] h every = refl
all_assigned tuple other (p ∷ ps) h every =
    let here = left (is_assigned tuple p) _ every in
    and_from _ _ (contains-assigned other tuple p h here) (all_assigned tuple other ps h (right (is_assigned tuple p) _ every))

-- a row that doesn't serve a tuple doesn't serve the same tuple
same_unserved : (m : ModelView) (row tuple other : List (Option ℕ)) → is_same_row tuple other ≡ true → serves m row other ≡ false → serves m row tuple ≡ false
same_unserved m row tuple other same unserved =
    false_from_ne_true (serves m row tuple)
    (λ s. false≢true
    (sym unserved
    ∙ and_from (is_valid m row && contains row other) _
    (and_from (is_valid m row) _ (left _ _ (left _ _ s)) (contains-trans row tuple other (right _ _ (left _ _ s)) (left _ _ same)))
    (all_assigned tuple other (negatives m row) (right _ _ same) (right _ _ s))))

listed_unserved : (m : ModelView) (row tuple : List (Option ℕ)) (omissions : List Omission) → list_any (is_same_row tuple) (listed m omissions) ≡ true
    → All (λ pair. serves m row pair.0 ≡ false) (as_cells m omissions) → serves m row tuple ≡ false
listed_unserved m row tuple [] some every = absurd (false≢true some)
listed_unserved m row tuple (omission ∷ omissions) some every =
    at (is_same_row tuple (cells_of (length m.params) omission.tuple)) refl some
    (λ later. listed_unserved m row tuple omissions later (All-tail (λ pair. serves m row pair.0 ≡ false) _ _ every))
  where
    at : (b : Bool) → is_same_row tuple (cells_of (length m.params) omission.tuple) ≡ b → (b || list_any (is_same_row tuple) (listed m omissions)) ≡ true
        → (list_any (is_same_row tuple) (listed m omissions) ≡ true → serves m row tuple ≡ false) → serves m row tuple ≡ false
    at true is some later = same_unserved m row tuple (cells_of (length m.params) omission.tuple) is (All-head (λ pair. serves m row pair.0 ≡ false) _ _ every)
    at false is some later = later some

not_not : (b : Bool) → not (not b) ≡ true → b ≡ true
not_not true h = refl
not_not false h = h

one_of : (a b : Bool) → not (not a && not b) ≡ true → (a ≡ true) ⊎ (b ≡ true)
one_of true b h = inl refl
one_of false b h = inr (not_not b h)

pub certified : AcceptedAreCertified
certified m lines bytes accepted =
    let rows = map (λ line. line.1) lines in
    let first = rows_good m rows bytes (find (λ line. not (is_valid m line.1)) lines) accepted.0 accepted.1 accepted.2 in
    let read = proof_read m rows (omissions_of m bytes) accepted.0 accepted.1 first.1 in
    let trees = trees_good m rows read.0.1 (first_unrefuted m read.0.0 [] 2 (as_cells m read.0.1)) accepted.0 accepted.1 read.2 in
    let tuples = tuples_good (length rows) (length read.0.1) (first_uncovered m rows read.0.1) accepted.0 accepted.1 trees.1 in
    record {
      valid = All-weaker (λ line. not (not (is_valid m line.1)) ≡ true) (λ line. is_valid m line.1 ≡ true) (λ line. not_not (is_valid m line.1)) lines
          (AllPass-from_list_all (λ line. not (not (is_valid m line.1))) lines (none_found (λ line. not (is_valid m line.1)) lines first.0));
      covered = All-weaker (λ tuple. not (not (is_served m rows tuple) && not (list_any (is_same_row tuple) (listed m read.0.1))) ≡ true)
          (λ tuple. Any (λ line. serves m line.1 tuple ≡ true) lines ⊎ (IsListed m bytes tuple × IsUnserved m tuple))
          (λ tuple h. elim (one_of (is_served m rows tuple) (list_any (is_same_row tuple) (listed m read.0.1)) h) [
            | inl s ↦ inl (Any-from_list_any (λ line. serves m line.1 tuple) lines (sym (list_any-map (λ row. serves m row tuple) (λ line. line.1) lines) ∙ s))
            | inr s ↦ inr (
              (read.0, read.1, s),
              λ row. listed_unserved m row tuple read.0.1 s (each_unserved m read.0.0 row [] 2 (as_cells m read.0.1) refl trees.0),
            )
          ])
          (demanded_tuples m)
          (AllPass-from_list_all (λ tuple. not (not (is_served m rows tuple) && not (list_any (is_same_row tuple) (listed m read.0.1)))) (demanded_tuples m)
          (none_found (λ tuple. not (is_served m rows tuple) && not (list_any (is_same_row tuple) (listed m read.0.1))) (demanded_tuples m) tuples));
    }
