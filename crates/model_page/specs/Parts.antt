-- The parts of a page as they are written.
use Rattle.std.specs.Prelude.{ℕ, ◌-◌, ◌++◌, List, length, map, min, take, Option}
use Rattle.std.specs.List.{range_with_len}
use Rattle.cov_model.specs.believed.Sound.{ModelView}
use Rattle.definitions.specs.believed.ProofText as proofs
use Rattle.html_page.specs.believed.Pieces.{pieces_text}
use Rattle.html_page.specs.believed.Trees.{Content}
use Rattle.html_page.specs.Trees.{content_text}
use Rattle.model_page.specs.believed.Curves.{picture_of}
use Rattle.model_page.specs.believed.Omitted.{omitted}
use Rattle.model_page.specs.believed.Pages.{PageWords, most_shown}
use Rattle.model_page.specs.believed.Tests.{param_names, test_of}
use Rattle.suite_page.specs.believed.Document.{left_out}
use Rattle.suite_page.specs.Document.{opening}
use Rattle.suite_page.specs.believed.LeftOut.{groups_of}
use Rattle.suite_page.specs.believed.Pictures.{picture_tree}
use Rattle.suite_page.specs.believed.TestsTable.{tests_tree}
use Rattle.suite_page.specs.believed.Verdicts.{numbers_tree, verdict_tree}

-- what stands before the tests
abbrev pub head_text : ModelView → List (List (Option ℕ)) → PageWords → List ℕ
head_text m rows words =
    pieces_text (opening words.name) ++ content_text (verdict_tree words.name words.accepted words.verdict words.remark)
    ++ content_text (numbers_tree words.numbers) ++ content_text (picture_tree (picture_of m rows words.accepted))

-- the tests
abbrev pub tests_part : ModelView → List (List (Option ℕ)) → Content
tests_part m rows =
    tests_tree (param_names m) (map (test_of m rows) (range_with_len 0 (min (length rows) most_shown))) (length rows - most_shown)

-- what is left out
abbrev pub omitted_part : ModelView → List proofs.Omission → Content
omitted_part m omissions =
    left_out (groups_of (map (omitted m omissions) (take most_shown omissions))) (length omissions - most_shown)
