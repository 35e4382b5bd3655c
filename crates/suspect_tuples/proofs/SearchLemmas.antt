-- What holds of the rows of a file of results, and of the number of candidates.
use Rattle.std.proofs.Common.{◌≡◌, ℕ, ◌*◌, ◌<◌, ◌≤◌, ◌^◌, Bool, List, [], ◌∷◌, map, filter, length, All, Option, inl, inr, ap, subst, ◌∙◌, arith}
use Rattle.std.specs.Prelude.{zip}
use Rattle.std.proofs.Math.Nat.{min-le_left}
use Rattle.std.proofs.lemmas.List.{length-map}
use Rattle.std.proofs.lemmas.Slice.Zip.{length-zip}
use Rattle.value_text.proofs.ListLemmas.{length-filter-le}
use Rattle.cov_model.specs.Fits.{FitsModel}
use Rattle.cov_model.specs.believed.Sound.{ModelView, IsSound}
use Rattle.definitions.proofs.Members.{Has, all_members, member_of_all, of_filter, of_map}
use Rattle.row_text.specs.declared.row_file.FileRow.{FileRow}
use Rattle.tuple_index.specs.believed.PlanFault.{saturated}
use Rattle.tuple_index.proofs.SaturatedLemmas.{saturated-product}
use Rattle.suspect_tuples.specs.Sets.{AreWide}
use Rattle.suspect_tuples.specs.believed.Suspects.{candidate_count, suspect_sets}
use Rattle.suspect_tuples.proofs.CountingSteps.{cells_seen}

-- the rows fit the model, and are as long as the list of parameters
pub fit_rows : (m : ModelView) (rows : List FileRow) → All (λ row. FitsModel m row.cells) rows → All (λ row. FitsModel m row) (cells_seen rows)
fit_rows m rows fit = all_members (λ cells. FitsModel m cells) (cells_seen rows) (λ cells has.
    let of = of_map (λ (row : FileRow). row.cells) rows cells has in
    subst (FitsModel m) of.2 (member_of_all (λ (row : FileRow). FitsModel m row.cells) rows of.0 fit of.1))

pub wide_rows : (m : ModelView) (rows : List (List (Option ℕ))) → All (λ row. FitsModel m row) rows → AreWide m rows
wide_rows m rows fit = λ k d within. (fit k d within).as_long

pub short_rows : (m : ModelView) (rows : List FileRow) → IsSound m → All (λ row. FitsModel m row.cells) rows → All (λ row. length row.cells < 2 ^ 16) rows
short_rows m rows sound fit = λ k d within. omega (arith, (fit k d within).as_long, sound.few)

-- so are those of them that count
zip_member : {X Y : Type 0} (xs : List X) (ys : List Y) (pair : X × Y) → Has (zip xs ys) pair → Has xs pair.0
zip_member [] ys pair has = absurd has
zip_member (x ∷ xs) [] pair has = absurd has
zip_member (x ∷ xs) (y ∷ ys) pair (inl is) = inl (ap (λ (p : _ × _). p.0) is)
zip_member (x ∷ xs) (y ∷ ys) pair (inr has) = inr (zip_member xs ys pair has)

pub fit_kept : (m : ModelView) (rows : List (List (Option ℕ))) (failed : List Bool) (test : List (Option ℕ) × Bool → Bool) → All (λ row. FitsModel m row) rows
    → All (λ row. FitsModel m row) (map (λ row. row.0) (filter test (zip rows failed)))
fit_kept m rows failed test fit = all_members (λ cells. FitsModel m cells) (map (λ row. row.0) (filter test (zip rows failed))) (λ cells has.
    let of = of_map (λ (row : List (Option ℕ) × Bool). row.0) (filter test (zip rows failed)) cells has in
    let in_rows = zip_member rows failed of.0 (of_filter test (zip rows failed) of.0 of.1).0 in
    subst (FitsModel m) of.2 (member_of_all (λ cells. FitsModel m cells) rows of.0.0 fit in_rows))

-- the candidates, saturated
pub told_candidates : (m : ModelView) (failing : List (List (Option ℕ))) (rows sets candidates : ℕ) → rows ≡ length failing
    → sets ≡ saturated (length (suspect_sets m)) → candidates ≡ saturated (rows * sets) → candidates ≡ saturated (candidate_count m failing)
told_candidates m failing rows sets candidates many counted multiplied =
    multiplied ∙ ap (λ n. saturated (n * sets)) many ∙ ap (λ n. saturated (length failing * n)) counted ∙ saturated-product (length failing) (length (suspect_sets m))

-- rows that are taken are no more than all
pub few_kept : (rows : List (List (Option ℕ))) (failed : List Bool) (test : List (Option ℕ) × Bool → Bool)
    → length (map (λ row. row.0) (filter test (zip rows failed))) ≤ length rows
few_kept rows failed test =
    omega (arith, length-map (filter test (zip rows failed)) (λ row. row.0), length-filter-le test (zip rows failed), length-zip rows failed, min-le_left (length rows) (length failed))
