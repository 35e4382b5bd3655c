use Rattle.std.proofs.Common.{ℕ, Vec}
use Rattle.std.specs.declared.alloc.Global.{Global}
use Rattle.seq_check.proofs.NameLemmas.{added_is}
use Rattle.seq_check.proofs.event_names.EventNames.add.Goals as goal

pub returns-clause-added : goal.returns-clause-added
returns-clause-added c =
    added_is (λ (key : Vec ℕ Global). key.items) c.args.name.now c.in_ok-key.key c.self.inside.keys.keys c.insert.new.self.keys c.args.self.now
    c.in_ok-insert.ensures.keys c.in_ok-key.ensures.items c.self.view_is c.requires
