use Rattle.std.proofs.Common.{◌≤◌, length}
use Rattle.value_text.specs.believed.Like.{folded_chars}
use Rattle.value_text.specs.PatternParts.{Continues}
use denote.Text.{Utf8}
use denote.Shadow.{shadow}
use Rattle.value_text.proofs.pattern.match_part.Given as goal

abbrev pub invariant-loop-mark : goal.invariant-loop-mark
invariant-loop-mark l = record {
  pattern_text : shadow (Utf8 l.pattern_rest);
  text_text : shadow (Utf8 l.text_rest);
  continues : Continues (folded_chars l.fold l.pattern) (folded_chars l.fold l.text) (folded_chars l.fold l.pattern_rest) (folded_chars l.fold l.text_rest);
  pattern_shorter : length l.pattern_rest ≤ length l.pattern;
  text_shorter : length l.text_rest ≤ length l.text;
}

abbrev pub decreases-loop-mark : goal.decreases-loop-mark
decreases-loop-mark l = length l.pattern_rest
