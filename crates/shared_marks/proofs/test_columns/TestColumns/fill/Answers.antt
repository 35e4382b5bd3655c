use Rattle.std.proofs.Common.{◌≡◌, ◌∙◌, ◌++◌, ◌<◌, [], ℕ, Bor, Vec, Global, List, Option, length, map, ap, arith, subst, sym}
use Rattle.std.proofs.lemmas.Grind.{common_steps}
use Rattle.std.proofs.lemmas.List.{get_or_default, length-map, nil_from_length}
use Rattle.shared_marks.specs.TestColumns.{AreColumns, ColumnsView, digit_in}
use Rattle.shared_marks.proofs.ColumnLemmas.{one_filled}
use Rattle.shared_marks.proofs.test_columns.TestColumns.fill.Goals as goal

filled : (c : goal.In_ok-push_places) → c.push_places.new.column.items ≡ map (digit_in c.args.model.now c.args.p) (map (λ (t : Bor (List (Option ℕ))). t.now) c.self.inside.rows.items)
filled c =
    let digits = λ (rows : List (Bor (List (Option ℕ)))). map (digit_in c.args.model.now c.args.p) (map (λ (t : Bor (List (Option ℕ))). t.now) rows) in
    let columns = c.self.inside.places.items in
    let items = λ (column : Vec ℕ Global). column.items in
    let within : c.args.p < length columns =
    omega (arith, c.requires.param, c.requires.columns.wide, ap (λ (v : ColumnsView). length v.places) c.self.view_is, length-map columns items) in
    let empty : c.index.result.now.items ≡ [] =
    nil_from_length c.index.result.now.items (grind (arith, common_steps, c.is_empty.ensures, c.if-not-is_empty.false)) in
    let same : c.index_mut.result.now ≡ c.index.result.now =
    c.index_mut.ensures.value ∙ get_or_default columns c.args.p c.index_mut.result.now c.index.result.now within ∙ sym c.index.ensures in
    c.in_ok-push_places.ensures ∙ ap (λ places. places ++ digits c.as_slice.result.now) (ap items same ∙ empty) ∙ ap digits c.as_slice.ensures.value

pub returns-clause-columns : goal.returns-clause-columns
returns-clause-columns c =
    let m = c.args.model.now in
    (one_filled m (map (λ (t : Bor (List (Option ℕ))). t.now) c.self.inside.rows.items) c.self.inside.places.items c.args.p c.push_places.new.column
    (subst (AreColumns m) (sym c.self.view_is) c.requires.columns) c.requires.param (filled c)).0

pub returns-clause-column : goal.returns-clause-column
returns-clause-column c =
    let m = c.args.model.now in
    let now = λ (t : Bor (List (Option ℕ))). t.now in
    (one_filled m (map now c.self.inside.rows.items) c.self.inside.places.items c.args.p c.push_places.new.column
    (subst (AreColumns m) (sym c.self.view_is) c.requires.columns) c.requires.param (filled c)).1
    ∙ ap (λ columns. map (digit_in m c.args.p) columns.tests) c.self.view_is
