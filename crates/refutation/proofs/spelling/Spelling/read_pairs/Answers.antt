use Rattle.std.proofs.Common.{◌≡◌, false, ◌∙◌, sym, ap, subst}
use Rattle.std.specs.List.{after_first, before_first}
use Rattle.definitions.specs.believed.ProofText.{is_colon_word, read_pair}
use Rattle.refutation.proofs.WordLemmas.{ReadSoFar, after_first-no, before_first-no, read_more}
use Rattle.refutation.proofs.spelling.Spelling.read_pairs.Goals as goal

pub loop-word-preserved : goal.loop-word-preserved
loop-word-preserved c =
    let read = read_pair c.args.self.now.model in
    let all = before_first is_colon_word c.args.words.now in
    let word = c.in-Some.word.now in
    let other : is_colon_word word ≡ false = sym c.if-is_colon.ensures in
    let front = c.loop-word.pairs.items in
    let so_far = subst (λ left. ReadSoFar read all left front) (ap (before_first is_colon_word) c.in-Some.ensures ∙ before_first-no is_colon_word word c.next.new.self other)
    c.loop-word.invariant.read in
    record {
      read = subst (ReadSoFar read all (before_first is_colon_word c.next.new.self)) (sym c.in_ok-push.ensures.ok)
          (read_more read all (before_first is_colon_word c.next.new.self) word c.in-Some-read_pair.pair front so_far (sym c.in-Some-read_pair.ensures));
      left = c.loop-word.invariant.left ∙ ap (after_first is_colon_word) c.in-Some.ensures ∙ after_first-no is_colon_word word c.next.new.self other;
    }
