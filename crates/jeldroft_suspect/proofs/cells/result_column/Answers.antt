use Rattle.std.proofs.Common.{position, ap, ◌∙◌}
use Rattle.std.specs.Borrow.{Bor}
use Rattle.std.specs.Prelude.{ℕ, List}
use Rattle.value_text.specs.believed.Texts.{is_same_text}
use Rattle.jeldroft_suspect.proofs.CellLemmas.{position_map}
use Rattle.jeldroft_suspect.proofs.cells.result_column.Goals as goal

pub returns : goal.returns
returns c =
    let named = λ (name cell : List ℕ). is_same_text c.args.fold name cell in
    c.place_of.ensures ∙ ap (λ name. position (λ (cell : Bor (List ℕ)). named name cell.now) c.as_slice.result.now) c.as_bytes.ensures.value
    ∙ ap (position (λ (cell : Bor (List ℕ)). named c.args.name.now cell.now)) c.as_slice.ensures.value
    ∙ position_map (λ (cell : Bor (List ℕ)). cell.now) (named c.args.name.now) c.in_ok-cells.cells.items
    ∙ ap (position (named c.args.name.now)) c.in_ok-cells.ensures
