-- The verdict on rows that are valid and a proof that was read: by the first place that is left and not served.
use Rattle.std.proofs.Common.{◌≡◌, ℕ, zero, suc, ◌<◌, Bool, true, false, ◌&&◌, not, cond, List, [], ◌∷◌, map, length, get_or, Option, Some, None, is_some, ◌∙◌, refl, sym, ap, arith}
use Rattle.std.specs.Prelude.{Ok, MatchOption, find, option_map}
use Rattle.std.specs.List.{list_any}
use Rattle.std.proofs.lemmas.Bool.{and_from, false≢true}
use Rattle.std.proofs.Math.Bool.{and_comm}
use Rattle.std.proofs.lemmas.List.{get_or-map}
use Rattle.std.proofs.lemmas.Option.{slice_get-get_or}
use Rattle.std.proofs.lemmas.Simd.{map-map}
use Rattle.cov_model.specs.believed.Rows.{is_complete}
use Rattle.cov_model.specs.believed.Sound.{ModelView}
use Rattle.cov_model.specs.believed.Valid.{is_valid}
use Rattle.definitions.specs.believed.Demand.{demanded_tuples}
use Rattle.definitions.specs.believed.Figures.{is_served, tests_of}
use Rattle.cov_model.specs.believed.Tuples.{cells_of}
use Rattle.definitions.specs.believed.Pairs.{pairs_of}
use Rattle.definitions.specs.believed.ProofText as texts
use Rattle.definitions.specs.believed.ProofText.{omissions_of}
use Rattle.definitions.specs.believed.Refutation.{first_unrefuted}
use Rattle.definitions.specs.believed.Seeds.{is_same_row}
use Rattle.definitions.specs.believed.Verdict.{as_cells, by_omission, by_proof, by_row, first_uncovered, listed, verdict}
use Rattle.refutation.specs.Checking.{tuples_of}
use Rattle.refutation.specs.Proofs.{ProofView, omission_meant}
use Rattle.refutation.specs.believed.Proofs.{format_of}
use Rattle.refutation.specs.Reading.{omissions_meant, proof_meant}
use Rattle.refutation.specs.declared.omissions.Omission.{Omission}
use Rattle.row_text.specs.RowFiles.{row_seen, seeds_seen, suite_seen}
use Rattle.row_text.specs.declared.row_file.FileRow.{FileRow}
use Rattle.row_text.specs.declared.row_file.RowFile.{RowFile}
use Rattle.proof_check.specs.Left.{AreLeft, IsFirstLeft, NoneLeft}
use Rattle.proof_check.proofs.RowLemmas.{complete_valid}

-- the first item that passes stands at the first place that passes
found_at : {X : Type 0} (test : X → Bool) (xs : List X) (i : ℕ) (d : X) → i < length xs → test (get_or xs i d) ≡ true
    → ((k : ℕ) → k < i → test (get_or xs k d) ≡ false) → find test xs ≡ Some (get_or xs i d)
found_at test [] i d within passes none = absurd (omega (arith, within))
found_at test (x ∷ xs) zero d within passes none = ap (λ (b : Bool). cond b (Some x) (find test xs)) passes
found_at test (x ∷ xs) (suc i) d within passes none =
    ap (λ (b : Bool). cond b (Some x) (find test xs)) (none 0 (omega arith))
    ∙ found_at test xs i d (omega (arith, within)) passes (λ k before. none (suc k) (omega (arith, before)))

none_at : {X : Type 0} (test : X → Bool) (xs : List X) (d : X) → ((k : ℕ) → k < length xs → test (get_or xs k d) ≡ false) → find test xs ≡ None
none_at test [] d none = refl
none_at test (x ∷ xs) d none =
    ap (λ (b : Bool). cond b (Some x) (find test xs)) (none 0 (omega arith)) ∙ none_at test xs d (λ k within. none (suc k) (omega (arith, within)))

-- where no line has a bad row, no row is bad
pub none_bad : (m : ModelView) (rows : List FileRow) → find (λ line. not (is_valid m line.1)) (map row_seen rows) ≡ None
    → find (λ row. not (is_valid m row)) (map (λ (row : FileRow). row.cells) rows) ≡ None
none_bad m [] none = refl
none_bad m (row ∷ rows) none = at (not (is_valid m row.cells)) (none_bad m rows) none
  where
    lines : Option (ℕ × List (Option ℕ))
    lines = find (λ line. not (is_valid m line.1)) (map row_seen rows)

    bad : Option (List (Option ℕ))
    bad = find (λ row. not (is_valid m row)) (map (λ (row : FileRow). row.cells) rows)

    at : (b : Bool) → (lines ≡ None → bad ≡ None) → cond b (Some (row_seen row)) lines ≡ None → cond b (Some row.cells) bad ≡ None
    at true later none = absurd (false≢true (sym (ap is_some none)))
    at false later none = later none

-- where no row is bad, all rows are tests
tests_all : (m : ModelView) (rows : List (List (Option ℕ))) → find (λ row. not (is_valid m row)) rows ≡ None → tests_of m rows ≡ rows
tests_all m [] none = refl
tests_all m (row ∷ rows) none = at (is_valid m row) refl (tests_all m rows) none
  where
    bad : Option (List (Option ℕ))
    bad = find (λ row. not (is_valid m row)) rows

    at : (b : Bool) → is_valid m row ≡ b → (bad ≡ None → tests_of m rows ≡ rows) → cond (not b) (Some row) bad ≡ None
        → cond (is_complete row && is_valid m row) (row ∷ tests_of m rows) (tests_of m rows) ≡ row ∷ rows
    at true valid later none =
        ap (λ (b : Bool). cond b (row ∷ tests_of m rows) (tests_of m rows)) (and_from (is_complete row) (is_valid m row) (complete_valid m row valid) valid)
        ∙ ap (λ rest. row ∷ rest) (later none)
    at false valid later none = absurd (false≢true (sym (ap is_some none)))

-- the tuples that omissions list are those of their meanings
listed_is : (m : ModelView) (omissions : List Omission) → listed m (omissions_meant omissions) ≡ tuples_of m omissions
listed_is m omissions = map-map (λ (omission : texts.Omission). cells_of (length m.params) omission.tuple) omission_meant omissions

-- no row serves the tuple and no omission lists it
abbrev is_open : ModelView → List (List (Option ℕ)) → List Omission → List (Option ℕ) → Bool
is_open m rows omissions tuple = not (is_served m rows tuple) && not (list_any (is_same_row tuple) (listed m (omissions_meant omissions)))

-- marks of what is left, and of what the rows serve, which are all tests
pub record AreMarks (m : ModelView) (rows : List (List (Option ℕ))) (omissions : List Omission) (left served : List Bool) : Type 0 where
  pub left_is : AreLeft m omissions left
  pub served_is : served ≡ map (is_served m (tests_of m rows)) (demanded_tuples m)
  pub none_bad : find (λ row. not (is_valid m row)) rows ≡ None

open_at : (m : ModelView) (rows : List (List (Option ℕ))) (omissions : List Omission) (left served : List Bool) → AreMarks m rows omissions left served
    → (place : ℕ) → place < length (demanded_tuples m)
    → (get_or left place false && not (get_or served place false)) ≡ is_open m rows omissions (get_or (demanded_tuples m) place [])
open_at m rows omissions left served marks place within =
    ap (λ b. b && not (get_or served place false)) (marks.left_is.marks place tuple (slice_get-get_or (demanded_tuples m) place [] within))
    ∙ ap (λ b. not (list_any (is_same_row tuple) (tuples_of m omissions)) && not b) is
    ∙ and_comm (not (list_any (is_same_row tuple) (tuples_of m omissions))) (not (is_served m rows tuple))
    ∙ ap (λ tuples. not (is_served m rows tuple) && not (list_any (is_same_row tuple) tuples)) (sym (listed_is m omissions))
  where
    tuple : List (Option ℕ)
    tuple = get_or (demanded_tuples m) place []

    is : get_or served place false ≡ is_served m rows tuple
    is =
        ap (λ bits. get_or bits place false) marks.served_is ∙ get_or-map (is_served m (tests_of m rows)) (demanded_tuples m) place [] false within
        ∙ ap (λ tests. is_served m tests tuple) (tests_all m rows marks.none_bad)

pub first_open : (m : ModelView) (rows : List (List (Option ℕ))) (omissions : List Omission) (left served : List Bool) (place : ℕ)
    → AreMarks m rows omissions left served → IsFirstLeft left served place
    → first_uncovered m rows (omissions_meant omissions) ≡ Some (get_or (demanded_tuples m) place [])
first_open m rows omissions left served place marks first =
    found_at (is_open m rows omissions) (demanded_tuples m) place [] (omega (arith, first.within, marks.left_is.as_many))
    (sym (open_at m rows omissions left served marks place (omega (arith, first.within, marks.left_is.as_many))) ∙ first.unserved)
    (λ k before.
    sym (open_at m rows omissions left served marks k (omega (arith, before, first.within, marks.left_is.as_many))) ∙ first.none_before k before)

pub none_open : (m : ModelView) (rows : List (List (Option ℕ))) (omissions : List Omission) (left served : List Bool)
    → AreMarks m rows omissions left served → NoneLeft left served (length left) → first_uncovered m rows (omissions_meant omissions) ≡ None
none_open m rows omissions left served marks none =
    none_at (is_open m rows omissions) (demanded_tuples m) []
    (λ k within. sym (open_at m rows omissions left served marks k within) ∙ none k (omega (arith, within, marks.left_is.as_many)))

-- the tuple at the first place that is left and not served
pub open_found : (m : ModelView) (rows : List (List (Option ℕ))) (omissions : List Omission) (left served : List Bool) → AreMarks m rows omissions left served
    → (found : Option ℕ) → MatchOption found (NoneLeft left served (length left)) (IsFirstLeft left served)
    → option_map (λ place. pairs_of (get_or (demanded_tuples m) place [])) found ≡ option_map pairs_of (first_uncovered m rows (omissions_meant omissions))
open_found m rows omissions left served marks (Some place) first =
    ap (option_map pairs_of) (sym (first_open m rows omissions left served place marks first))
open_found m rows omissions left served marks None none = ap (option_map pairs_of) (sym (none_open m rows omissions left served marks none))

-- the verdict where no row is bad and the proof was read
pub judged : (m : ModelView) (file : RowFile) (bytes : List ℕ) (proof : ProofView) → find (λ line. not (is_valid m line.1)) (seeds_seen file) ≡ None
    → omissions_of m bytes ≡ Ok (proof_meant proof)
    → verdict m (seeds_seen file) bytes
    ≡ by_omission m (suite_seen file) (omissions_meant proof.omissions) (first_unrefuted m (format_of proof.form) [] 2 (as_cells m (omissions_meant proof.omissions)))
judged m file bytes proof none read =
    ap (by_row m (map (λ (line : ℕ × List (Option ℕ)). line.1) (seeds_seen file)) bytes) none
    ∙ ap (by_proof m (map (λ (line : ℕ × List (Option ℕ)). line.1) (seeds_seen file))) read
    ∙ ap (λ rows. by_proof m rows (Ok (proof_meant proof))) (map-map (λ (line : ℕ × List (Option ℕ)). line.1) row_seen file.rows)

-- what names nothing where a thing is mapped was nothing
pub none_mapped : {X Y : Type 0} (f : X → Y) (found : Option X) → None ≡ option_map f found → found ≡ None
none_mapped f None is = refl
none_mapped f (Some x) is = absurd (false≢true (ap is_some is))
