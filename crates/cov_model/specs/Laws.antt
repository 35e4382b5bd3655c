-- What the meaning on partial rows tells of rows. (Kleene's logic: what is known stays true.)
use Rattle.std.specs.Prelude.{◌≡◌, ℕ, true, false, List, Option}
use Rattle.cov_model.specs.declared.truth.Truth.TheVariants.{Yes, No}
use Rattle.cov_model.specs.believed.Views.{BodyView}
use Rattle.cov_model.specs.believed.Sound.{ModelView, IsSoundBody}
use Rattle.cov_model.specs.believed.Rows.{contains}
use Rattle.cov_model.specs.believed.Meaning.{body_holds}
use Rattle.cov_model.specs.believed.Kleene.{known, body_truth}
use Rattle.cov_model.specs.believed.Valid.{is_row}

-- a constraint that is No on a partial row is false on every row that contains it
abbrev pub NoStays : Type 0
NoStays = (m : ModelView) (body : BodyView) (cells row : List (Option ℕ))
    → contains row cells ≡ true → body_truth m body cells ≡ No → body_holds m body row ≡ false

-- and one that is Yes is true on every such row
abbrev pub YesStays : Type 0
YesStays = (m : ModelView) (body : BodyView) (cells row : List (Option ℕ))
    → contains row cells ≡ true → body_truth m body cells ≡ Yes → body_holds m body row ≡ true

-- on rows the two meanings agree
abbrev pub RowsAreKnown : Type 0
RowsAreKnown = (m : ModelView) (body : BodyView) (row : List (Option ℕ))
    → IsSoundBody m.params body → is_row m row ≡ true → body_truth m body row ≡ known (body_holds m body row)
