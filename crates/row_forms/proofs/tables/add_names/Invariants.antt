use Rattle.std.proofs.Common.{◌≡◌, ◌++◌, true, drop}
use Rattle.row_forms.specs.Seen.{names_seen}
use Rattle.row_forms.specs.believed.Tables.{is_single, name_pieces}
use Rattle.row_forms.proofs.tables.add_names.Given as goal

-- what is added with what the names that are left add is what all add
abbrev pub invariant-loop-name : goal.invariant-loop-name
invariant-loop-name l =
    l.into.items ++ name_pieces l.form l.is_first l.is_only (names_seen (drop l.name-index l.names))
    ≡ l.fn.into.items ++ name_pieces l.form true (is_single (names_seen l.names)) (names_seen l.names)
