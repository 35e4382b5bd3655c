-- What the code's words of a page and points of a curve are.
use Rattle.std.specs.Prelude.{map}
use Rattle.suite_facts.specs.declared.curve.CurvePoint.{CurvePoint}
use Rattle.suite_page.specs.declared.picture.Point.{Point}
use Rattle.model_page.specs.believed.Pages as pages
use Rattle.model_page.specs.declared.page.PageWords.{PageWords}

abbrev pub words_seen : PageWords → pages.PageWords
words_seen words = record {
  name = words.name.now;
  accepted = words.accepted;
  verdict = words.verdict.now;
  remark = words.remark.now;
  numbers = map (λ sentence. sentence.now) words.numbers.now;
}

abbrev pub point_seen : CurvePoint → Point
point_seen point = record { tests = point.tests; covered = point.covered }
