use Rattle.std.proofs.Common.{◌≡◌, length, ◌∙◌, sym, ap, rules}
use Rattle.packed_lists.proofs.CutLemmas.{cut_length}
use Rattle.packed_lists.proofs.packed.PackedLists.len.Goals as goal

pub returns : goal.returns
returns c =
    let long : c.len.result ≡ length c.self.inside.ends.items = search rules in
    long ∙ sym (cut_length 0 c.self.inside.ends.items c.self.inside.numbers.items) ∙ ap length c.self.view_is
