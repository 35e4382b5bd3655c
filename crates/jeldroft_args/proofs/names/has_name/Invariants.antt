use Rattle.std.proofs.Common.{◌≡◌, drop}
use Rattle.std.specs.List.{list_any}
use Rattle.jeldroft_args.specs.believed.Names.{is_same_name}
use Rattle.jeldroft_args.proofs.NameLemmas.{texts_in}
use Rattle.jeldroft_args.proofs.names.has_name.Given as goal

abbrev pub invariant-loop-other : goal.invariant-loop-other
invariant-loop-other l = list_any (is_same_name l.name) (texts_in (drop l.other-index l.names))
    ≡ list_any (is_same_name l.name) (texts_in l.names)
