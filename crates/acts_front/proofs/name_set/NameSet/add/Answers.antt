use Rattle.std.proofs.Common.{ℕ, Vec}
use Rattle.std.specs.declared.alloc.Global.{Global}
use Rattle.model_parse.proofs.Names.{added_is}
use Rattle.acts_front.proofs.name_set.NameSet.add.Goals as goal

pub returns-clause-added : goal.returns-clause-added
returns-clause-added c =
    added_is (λ (key : Vec ℕ Global). key.items) c.args.fold c.args.name.now c.in_ok-key.key c.self.inside.keys.keys c.insert.new.self.keys c.args.self.now
    c.in_ok-insert.ensures.keys c.in_ok-key.ensures c.self.view_is c.requires
