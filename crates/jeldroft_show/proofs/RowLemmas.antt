-- Rows that fit a model are as long as each other.
use Rattle.std.proofs.Common.{◌≡◌, ℕ, List, map, take, length, All, Option, ◌∙◌, sym, ap, subst}
use Rattle.std.proofs.lemmas.List.Elements.{All-map, All-take, All-weaker}
use Rattle.cov_model.specs.Fits.{FitsModel}
use Rattle.cov_model.specs.believed.Sound.{ModelView}
use Rattle.row_text.specs.declared.row_file.FileRow.{FileRow}

pub as_long : (m : ModelView) (rows : List (List (Option ℕ))) (slice : List (Option ℕ)) {cells : List (Option ℕ)} → All (FitsModel m) rows → FitsModel m cells
    → slice ≡ cells → All (λ other. length other ≡ length slice) rows
as_long m rows slice {cells} all fits same =
    All-weaker (FitsModel m) (λ other. length other ≡ length slice) (λ other fit. fit.as_long ∙ sym (ap length same ∙ fits.as_long)) rows all

-- the rows before one fit
pub fit_before : (m : ModelView) (rows : List FileRow) (i : ℕ) (seen : List (List (Option ℕ))) → All (λ row. FitsModel m row.cells) rows
    → seen ≡ map (λ row. row.cells) (take i rows) → All (FitsModel m) seen
fit_before m rows i seen all are =
    subst (All (FitsModel m)) (sym are)
    (All-map (FitsModel m) (λ (row : FileRow). row.cells) (take i rows) (All-take (λ (row : FileRow). FitsModel m row.cells) i rows all))

-- all rows fit
pub fit_all : (m : ModelView) (rows : List FileRow) (seen : List (List (Option ℕ))) → All (λ row. FitsModel m row.cells) rows → seen ≡ map (λ row. row.cells) rows
    → All (FitsModel m) seen
fit_all m rows seen all are = subst (All (FitsModel m)) (sym are) (All-map (FitsModel m) (λ (row : FileRow). row.cells) rows all)
