use Rattle.std.proofs.Common.{ℕ, Vec}
use Rattle.std.specs.declared.alloc.Global.{Global}
use Rattle.model_parse.proofs.Names.{place_is}
use Rattle.acts_front.proofs.name_set.NameSet.place.Goals as goal

pub returns-clause-value : goal.returns-clause-value
returns-clause-value c =
    place_is (λ (key : Vec ℕ Global). key.items) c.args.fold c.args.name.now c.in_ok-key.key.items c.self.inside.keys.keys
    c.args.self.now c.get_index_of.result c.get_index_of.ensures.index c.in_ok-key.ensures c.self.view_is
