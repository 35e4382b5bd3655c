-- What the code's cells, pictures and omissions are.
use Rattle.std.specs.Prelude.{ℕ, List, map}
use Rattle.html_page.specs.Trees.{content_text}
use Rattle.suite_page.specs.believed.LeftOut as left_out
use Rattle.suite_page.specs.believed.Pictures as pictures
use Rattle.suite_page.specs.believed.TestsTable as tests
use Rattle.suite_page.specs.declared.left_out.Omission.{Omission}
use Rattle.suite_page.specs.declared.picture.Picture.{Picture}
use Rattle.suite_page.specs.declared.tests_table.Cell.{Cell}

abbrev pub cell_seen : Cell → tests.Cell
cell_seen cell = record { text = cell.text.now; is_invalid = cell.is_invalid }

abbrev pub picture_seen : Picture → pictures.Picture
picture_seen picture = record {
  points = picture.points.now;
  tests = picture.tests;
  covered = picture.covered;
  total = picture.total;
  is_known = picture.is_known;
}

abbrev pub omission_seen : Omission → left_out.Omission
omission_seen omission = record {
  combination = omission.combination.items;
  causes = omission.causes.items;
  reasons = map (λ reason. reason.items) omission.reasons.items;
}

-- the text of its item
abbrev pub combination_text : Omission → List ℕ
combination_text omission = content_text (left_out.item_tree omission.combination.items)
