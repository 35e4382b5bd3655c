use Rattle.std.proofs.Common.{ℕ, Vec}
use Rattle.std.specs.declared.alloc.Global.{Global}
use Rattle.seq_check.proofs.NameLemmas.{number_is}
use Rattle.seq_check.proofs.event_names.EventNames.number.Goals as goal

pub returns-clause-value : goal.returns-clause-value
returns-clause-value c =
    number_is (λ (key : Vec ℕ Global). key.items) c.in_ok-key.key.items c.args.name.now c.self.inside.keys.keys
    c.args.self.now c.get_index_of.result c.get_index_of.ensures.index c.in_ok-key.ensures.items c.self.view_is
