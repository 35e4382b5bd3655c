use Rattle.std.proofs.Common.{◌≡◌, ◌++◌, ◌<◌, List, [], get_or, length, map, take, sym, ap, subst, ◌∙◌, arith}
use Rattle.std.specs.Prelude.{None, OnOk}
use Rattle.html_page.specs.Trees.{content_text}
use Rattle.row_text.specs.declared.row_file.FileRow.{FileRow}
use Rattle.suite_page.specs.believed.TestsTable.{cell_tree}
use Rattle.model_page.specs.believed.Tests.{cell_of}
use Rattle.model_page.proofs.Cells.{cell_absent, cell_given}
use Rattle.model_page.proofs.cell.put_cell_of.Goals as goal

pub returns-in-Some : goal.returns-in-Some
returns-in-Some c =
    let m = c.args.model.now in
    let at = c.args.at in
    let place = c.args.place in
    let rows = c.as_slice-rows.result.now in
    let row = c.index-rows-at.result in
    let same = c.as_slice-rows.ensures in
    let inside : at < length rows = omega (arith, c.requires, ap length same) in
    let gives = sym c.in-Some.is ∙ c.value_given.ensures ∙ ap (λ (one : FileRow). get_or one.cells place None) (sym c.index-rows-at.is) in
    subst (λ cell. OnOk c.put_value.result (c.put_value.new.page ≡ c.args.page.now ++ content_text (cell_tree cell)))
    (sym (ap (λ (list : List FileRow). cell_of m (take at (map (λ (one : FileRow). one.cells) list)) (get_or (map (λ (one : FileRow). one.cells) list) at []) place) (sym same)
    ∙ cell_given rows at row inside c.index-rows-at.is m place c.in-Some.value c.times_given-times.result gives c.times_given-times.ensures))
    c.put_value.ensures

pub returns-in-None : goal.returns-in-None
returns-in-None c =
    let m = c.args.model.now in
    let at = c.args.at in
    let place = c.args.place in
    let rows = c.as_slice-rows.result.now in
    let row = c.index-rows-at.result in
    let same = c.as_slice-rows.ensures in
    let inside : at < length rows = omega (arith, c.requires, ap length same) in
    let gives = sym c.in-None.is ∙ c.value_given.ensures ∙ ap (λ (one : FileRow). get_or one.cells place None) (sym c.index-rows-at.is) in
    subst (λ cell. OnOk c.put_no_cell.result (c.put_no_cell.new.page ≡ c.args.page.now ++ content_text (cell_tree cell)))
    (sym (ap (λ (list : List FileRow). cell_of m (take at (map (λ (one : FileRow). one.cells) list)) (get_or (map (λ (one : FileRow). one.cells) list) at []) place) (sym same)
    ∙ cell_absent rows at row inside c.index-rows-at.is m place gives))
    c.put_no_cell.ensures
