use Rattle.std.proofs.Common.{◌≡◌, ◌+◌, length}
use Rattle.value_text.specs.believed.Like.{is_like, folded_chars}
use Rattle.value_text.proofs.LikeLemmas.{matches_after}
use denote.Text.{Utf8}
use denote.Shadow.{shadow}
use Rattle.value_text.proofs.pattern.like.Given as goal

abbrev pub invariant-loop-behind : goal.invariant-loop-behind
invariant-loop-behind l = record {
  part_text : shadow (Utf8 l.part);
  start_text : shadow (Utf8 l.start);
  left : is_like l.fold l.pattern l.text ≡ matches_after l.after_star (folded_chars l.fold l.part) (folded_chars l.fold l.start);
}

abbrev pub decreases-loop-behind : goal.decreases-loop-behind
decreases-loop-behind l = length l.part + length l.start
