use Rattle.std.proofs.Common.{◌≡◌, length, replicate, rules}
use Rattle.shared_marks.proofs.AddingLemmas.{marks_same}
use Rattle.shared_marks.proofs.GatherLemmas.{gathered}
use Rattle.shared_marks.proofs.ranks.mark_gathered.Goals as goal

pub returns : goal.returns
returns c =
    let zeros : c.fill.new.self ≡ replicate (length c.args.words.now) 0 = search rules in
    marks_same _ _ _ _ c.mark_words.ensures (λ place. gathered c.args.base place c.args.ranks.now c.fill.new.self c.put_bits.new.words _ zeros c.put_bits.ensures.each)
