use Rattle.std.proofs.Common.{rules, arith, inl, inr}
use Rattle.std.proofs.lemmas.Bool.Decides.{nat_tests}
use Rattle.value_text.proofs.CharLemmas.{folded_chars_none, folded_chars_some}
use Rattle.value_text.proofs.LikeLemmas.{step, both_end, pattern_ends}
use Rattle.value_text.proofs.pattern.match_part.Goals as goal

pub loop-mark-preserved : goal.loop-mark-preserved
loop-mark-preserved c = record {
  pattern_text = search rules;
  text_text = search rules;
  continues =
      step _ _ _ _ _ _ c.in-Some.mark c.in-Some-next_char.letter c.loop-mark.invariant.continues c.in-Some.ensures.some c.in-Some-next_char.ensures.some c.if-mark-eq42.false
      (elim c.else-mark-ne63.either [ inl same ↦ inr same.1 | inr any ↦ inl any ]);
  pattern_shorter = omega (arith, c.in-Some.ensures.shorter);
  text_shorter = omega (arith, c.in-Some-next_char.ensures.shorter);
}

pub returns-then-is_empty : goal.returns-then-is_empty
returns-then-is_empty c =
    both_end _ _ _ _ c.loop-mark.invariant.continues c.in_default.ensures.none (folded_chars_none c.args.fold c.loop-mark.text_rest.now (grind (arith, nat_tests, c.if-is_empty.ensures)))

pub returns-else-is_empty : goal.returns-else-is_empty
returns-else-is_empty c =
    let left = folded_chars_some c.args.fold c.loop-mark.text_rest.now c.loop-mark.invariant.text_text (grind (arith, nat_tests, c.if-is_empty.ensures)) in
    pattern_ends _ _ _ _ _ _ c.loop-mark.invariant.continues c.in_default.ensures.none left.2
