-- The cells of a table one after another.
use Rattle.std.proofs.Common.{◌≡◌, ◌≤◌, ◌^◌, ℕ, Bool, true, List, [], ◌∷◌, ◌++◌, Option, Some, None, Ok, length, ap, sym, subst, ◌∙◌, append_assoc}
use Rattle.std.proofs.lemmas.List.{append-nil}
use Rattle.comma_rows.specs.declared.comma_cells.CommaCell.{CommaCell}
use Rattle.comma_rows.specs.believed.Reading.{Cell, Reading, comma_cells, no_more, unless_fault, with_cell}
use Rattle.comma_rows.specs.Taking.{Takes, cell_seen}
use Rattle.jeldroft_files.specs.believed.Tables.{as_tabs, cell_text, next_line, tabbed, tabbed_from}
use Rattle.jeldroft_files.specs.Tabbing.{AddsCell}
use Rattle.jeldroft_files.proofs.TabbedLength.{tabbed_short}

-- one cell more
step : (starts : Bool) (line then : ℕ) (table after whole : List ℕ) (cell : Cell) (cells : List Cell)
    → after ≡ table ++ cell_text starts line cell → then ≡ next_line starts line cell → table ++ tabbed_from starts line (cell ∷ cells) ≡ whole
    → after ++ tabbed_from cell.ends_row then cells ≡ whole
unfolding tabbed_from
step starts line then table after whole cell cells text moves grown =
    ap (λ t. t ++ tabbed_from cell.ends_row then cells) text
    ∙ ap (λ n. (table ++ cell_text starts line cell) ++ tabbed_from cell.ends_row n cells) moves
    ∙ append_assoc table (cell_text starts line cell) (tabbed_from cell.ends_row (next_line starts line cell) cells)
    ∙ grown

-- no cell
nothing : (starts : Bool) (line : ℕ) (table whole : List ℕ) → table ++ tabbed_from starts line [] ≡ whole → table ≡ whole
unfolding tabbed_from
nothing starts line table whole grown = sym (append-nil table) ∙ grown

module _ (bytes : List ℕ) (starts : Bool) (line : ℕ) where
  -- a cell was taken and added: the table with the cells that are left is the whole, and their fault is that of all
  pub goes_on : (then : ℕ) (table after : List ℕ) (found : Option CommaCell) (cell : CommaCell) (cells left : Reading) (text : List ℕ) → found ≡ Some cell
      → Takes (Ok found) cells left text → AddsCell starts line (cell_seen cell text) table after then
      → table ++ tabbed_from starts line cells.cells ≡ tabbed (comma_cells bytes).cells → cells.fault ≡ (comma_cells bytes).fault
      → (after ++ tabbed_from cell.ends_row then left.cells ≡ tabbed (comma_cells bytes).cells) × (left.fault ≡ (comma_cells bytes).fault)
  goes_on then table after found cell cells left text is takes adds grown fault =
      let before : cells ≡ with_cell (cell_seen cell text) left = subst (λ f. Takes (Ok f) cells left text) is takes in (
        step starts line then table after (tabbed (comma_cells bytes).cells) (cell_seen cell text) left.cells adds.text adds.moves
            (sym (ap (λ (r : Reading). table ++ tabbed_from starts line r.cells) before) ∙ grown),
        sym (ap (λ (r : Reading). r.fault) before) ∙ fault,
      )

  -- no cell is left: the table is the whole, and there is no fault
  pub none_left : (table : List ℕ) (found : Option CommaCell) (cells left : Reading) (text : List ℕ) → found ≡ None → Takes (Ok found) cells left text
      → table ++ tabbed_from starts line cells.cells ≡ tabbed (comma_cells bytes).cells → cells.fault ≡ (comma_cells bytes).fault
      → (table ≡ tabbed (comma_cells bytes).cells) × (None ≡ (comma_cells bytes).fault)
  none_left table found cells left text is takes grown fault =
      let before : cells ≡ no_more = subst (λ f. Takes (Ok f) cells left text) is takes in (
        nothing starts line table (tabbed (comma_cells bytes).cells) (sym (ap (λ (r : Reading). table ++ tabbed_from starts line r.cells) before) ∙ grown),
        sym (ap (λ (r : Reading). r.fault) before) ∙ fault,
      )

-- all cells were written, and there is no fault
pub all_written : (bytes table : List ℕ) → table ≡ tabbed (comma_cells bytes).cells → None ≡ (comma_cells bytes).fault → as_tabs true bytes ≡ Ok table
all_written bytes table whole fault =
    ap (λ f. unless_fault f (tabbed (comma_cells bytes).cells)) (sym fault) ∙ ap Ok (sym whole)

pub few : (bytes table : List ℕ) → table ≡ tabbed (comma_cells bytes).cells → length bytes ≤ 2 ^ 26 → length table ≤ 2 ^ 28
few bytes table whole within = subst (λ t. length t ≤ 2 ^ 28) (sym whole) (tabbed_short bytes within)
