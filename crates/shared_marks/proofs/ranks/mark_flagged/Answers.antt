use Rattle.std.proofs.Common.{◌*◌, false, length, replicate, take}
use Rattle.shared_marks.proofs.AddingLemmas.{marks_same}
use Rattle.shared_marks.proofs.GatherLemmas.{flagged, none_set}
use Rattle.shared_marks.proofs.ranks.mark_flagged.Goals as goal

pub returns : goal.returns
returns c =
    let count = length c.args.words.now * 64 in
    marks_same _ _ _ _ c.mark_words.ensures
    (λ place. flagged c.args.base place c.args.ranks.now c.pack.new.words (take count (replicate 512 false)) c.set_flags.new.flags (none_set count 512)
    c.set_flags.ensures.each c.pack.ensures.each)
