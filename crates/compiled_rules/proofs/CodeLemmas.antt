-- Compiled predicates over rows of parts and over lists of parts.
use mathlib.Core.Former.{Count}
use Rattle.std.proofs.Common.{◌≡◌, Bool, List, ℕ, Option, ◌∙◌, ap, refl}
use Rattle.cov_model.specs.believed.Kleene.{and_of, or_of}
use Rattle.cov_model.specs.believed.Sound.{ModelView}
use Rattle.compiled_rules.specs.declared.code.Code as codes
use Rattle.compiled_rules.specs.declared.code.Code.{Code, Not', All', Any', Row_of-Code, end_of-Code, more_of-Code, items-the_row-Code, items_hidden-the_row-Code-0}
use Rattle.compiled_rules.specs.Codes.{code_truth, all_rows, any_rows, all_codes, any_codes}

-- the parts of a predicate as the row that holds them
abbrev pub row_of : Code → (n : Count) × Row_of-Code n
row_of (All' _ row) = (_, row)
row_of (Any' _ row) = (_, row)
row_of _ = (_, end_of-Code)

all_listed : {n : _} (m : ModelView) (table : List Bool) (parts : Row_of-Code n) (cells : List (Option ℕ))
    → all_rows m table parts cells ≡ all_codes m table (items-the_row-Code n parts) cells
all_listed m table end_of-Code cells = refl
all_listed m table (more_of-Code part rest) cells = ap (λ truth. and_of (code_truth m table part cells) truth) (all_listed m table rest cells)

any_listed : {n : _} (m : ModelView) (table : List Bool) (parts : Row_of-Code n) (cells : List (Option ℕ))
    → any_rows m table parts cells ≡ any_codes m table (items-the_row-Code n parts) cells
any_listed m table end_of-Code cells = refl
any_listed m table (more_of-Code part rest) cells = ap (λ truth. or_of (code_truth m table part cells) truth) (any_listed m table rest cells)

pub code_truth-All : (m : ModelView) (table : List Bool) (parts : List Code) (cells : List (Option ℕ))
    → code_truth m table (codes.All parts) cells ≡ all_codes m table parts cells
code_truth-All m table parts cells =
    all_listed m table (row_of (codes.All parts)).1 cells ∙ ap (λ list. all_codes m table list cells) (items_hidden-the_row-Code-0 parts)

pub code_truth-Any : (m : ModelView) (table : List Bool) (parts : List Code) (cells : List (Option ℕ))
    → code_truth m table (codes.Any parts) cells ≡ any_codes m table parts cells
code_truth-Any m table parts cells =
    any_listed m table (row_of (codes.Any parts)).1 cells ∙ ap (λ list. any_codes m table list cells) (items_hidden-the_row-Code-0 parts)
