use Rattle.std.proofs.Common.{List, ℕ, ◌++◌, ◌∙◌, ◌-◌, ap, length, map, sym}
use Rattle.std.specs.Prelude.{min}
use Rattle.std.specs.List.{flat_map, range_with_len}
use Rattle.std.proofs.lemmas.List.{length-map}
use Rattle.std.proofs.lemmas.List.Folds.{flat_map-map}
use Rattle.html_page.specs.believed.Pieces.{pieces_text}
use Rattle.html_page.specs.Trees.{content_text}
use Rattle.row_text.specs.RowFiles.{suite_seen}
use Rattle.row_text.specs.declared.row_file.FileRow.{FileRow}
use Rattle.suite_page.specs.believed.TestsTable.{test_tree}
use Rattle.suite_page.specs.TestsTable.{tests_closing, tests_opening}
use Rattle.suite_page.proofs.Wholes.{tests_whole, three}
use Rattle.model_page.specs.Parts.{tests_part}
use Rattle.model_page.specs.believed.Pages.{most_shown}
use Rattle.model_page.specs.believed.Tests.{param_names, test_of}
use Rattle.model_page.proofs.tests.put_tests.Goals as goal

pub returns : goal.returns
returns c =
    let m = c.args.model.now in
    let rows = suite_seen c.args.file.now in
    let row : ℕ → List ℕ = λ at. content_text (test_tree (test_of m rows at)) in
    let long = c.len-count.ensures ∙ sym (length-map c.args.file.now.rows (λ (one : FileRow). one.cells)) in
    let tests = map (test_of m rows) (range_with_len 0 (min (length rows) most_shown)) in
    three c.args.page.now (pieces_text (tests_opening (param_names m))) (flat_map (λ test. content_text (test_tree test)) tests) (pieces_text (tests_closing (length rows - most_shown)))
    c.put_tests_opening.new.page c.put_rows.new.page c.put_tests_closing.new.page
    (c.in_ok-put_tests_opening.ensures
    ∙ ap (λ names. c.args.page.now ++ pieces_text (tests_opening names)) (ap (map (λ name. name.now)) c.as_slice.ensures.value ∙ c.in_ok-names.ensures))
    (c.in_ok-put_rows.ensures
    ∙ ap (λ count. c.put_tests_opening.new.page ++ flat_map row (range_with_len 0 count)) (c.min.ensures ∙ ap (λ n. min n most_shown) long)
    ∙ ap (λ bytes. c.put_tests_opening.new.page ++ bytes) (sym (flat_map-map (λ test. content_text (test_tree test)) (test_of m rows) (range_with_len 0 (min (length rows) most_shown)))))
    (c.in_ok-put_tests_closing.ensures
    ∙ ap (λ count. c.put_rows.new.page ++ pieces_text (tests_closing count)) (c.saturating_sub.ensures ∙ ap (λ n. n - most_shown) long))
    ∙ ap (λ bytes. c.args.page.now ++ bytes) (tests_whole (param_names m) tests (length rows - most_shown))
