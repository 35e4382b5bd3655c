use Rattle.std.proofs.Common.{ℕ, Vec, ap, map, sym, take, ◌∙◌}
use Rattle.std.proofs.lemmas.List.{take-map}
use Rattle.std.specs.declared.alloc.Global.{Global}
use Rattle.seq_check.proofs.event_names.EventNames.truncate.Goals as goal

pub returns : goal.returns
returns c =
    let text = λ (key : Vec ℕ Global). key.items in
    ap (map text) c.truncate.ensures.keys ∙ (sym (take-map text c.args.count c.self.inside.keys.keys) ∙ ap (take c.args.count) c.self.view_is)
