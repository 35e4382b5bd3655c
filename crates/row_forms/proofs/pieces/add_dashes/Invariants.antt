use Rattle.std.proofs.Common.{◌≡◌, ◌++◌, drop}
use Rattle.std.specs.Prelude.{flat_map}
use Rattle.row_forms.specs.believed.Forms.{dashes}
use Rattle.row_forms.specs.Seen.{names_seen}
use Rattle.row_forms.proofs.pieces.add_dashes.Given as goal

-- what is added with what the names that are left add is what all add
abbrev pub invariant-loop-name : goal.invariant-loop-name
invariant-loop-name l =
    l.into.items ++ flat_map (λ name. dashes) (names_seen (drop l._name-index l.names)) ≡ l.fn.into.items ++ flat_map (λ name. dashes) (names_seen l.names)
