use Rattle.std.proofs.Common.{ℕ, Vec}
use Rattle.std.specs.declared.alloc.Global.{Global}
use Rattle.model_parse.proofs.Names.{known_is}
use Rattle.model_parse.proofs.name_set.NameSet.holds.Goals as goal

pub returns : goal.returns
returns c =
    known_is (λ (key : Vec ℕ Global). key.items) c.args.fold c.args.name.now c.in_ok-key.key.items c.self.inside.keys.keys
    c.args.self.now c.contains.result c.contains.ensures c.in_ok-key.ensures c.self.view_is
