use Rattle.std.proofs.Common.{◌∙◌, ap, slice_index}
use Rattle.made_models.specs.believed.Words.{word_of}
use Rattle.made_models.specs.believed.MadeModel.{forbidden_by}
use Rattle.made_models.proofs.Drawing.{draws_four}
use Rattle.made_models.proofs.forbidden.Forbidden.draw.Goals as goal

pub returns : goal.returns
returns c =
    let g = c.args.words.now in
    let counts = slice_index c.args.counts.now in
    let w = c.next_word-first.result in
    let x = c.next_word.result in
    let y = c.next_word-2.result in
    let z = c.next_word-3.result in
    let drawn = draws_four g c.next_word-first.new.self c.next_word.new.self c.next_word-2.new.self c.next_word-3.new.self w x y z
    c.next_word-first.ensures c.next_word.ensures c.next_word-2.ensures c.next_word-3.ensures in
    record {
      pair =
          ap (λ v. forbidden_by counts v x y z) drawn.first ∙ ap (λ v. forbidden_by counts (word_of g 0) v y z) drawn.second
          ∙ ap (λ v. forbidden_by counts (word_of g 0) (word_of g 1) v z) drawn.third
          ∙ ap (λ v. forbidden_by counts (word_of g 0) (word_of g 1) (word_of g 2) v) drawn.fourth;
      words = drawn.last;
    }
