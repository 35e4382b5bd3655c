use Rattle.std.proofs.Common.{◌∙◌, [], get_or, sym, subst}
use Rattle.feasibility.proofs.Deciding.{fails_stays}
use Rattle.full_search.specs.Reasons.{HasNoRow}
use Rattle.full_search.proofs.Holding.{part_contained}
use Rattle.full_search.proofs.Parts.{no_row_of}
use Rattle.full_search.proofs.Rows.{failing_none}
use Rattle.full_search.proofs.finding.find_row.Goals as goal

pub returns-then-fails-clause-no : goal.returns-then-fails-clause-no
returns-then-fails-clause-no c e =
    let tree = c.args.tree.now in
    failing_none tree c.args.cells.now c.assert_invariant.ensures.values c.requires.listed
    (fails_stays tree.model tree.values c.args.cells.now (c.requires.listed.long ∙ c.assert_invariant.ensures.values.as_many) c.requires.listed
    (sym c.requires.ready.fails ∙ c.if-fails.true))

pub returns-then-meets_all-clause-yes : goal.returns-then-meets_all-clause-yes
returns-then-meets_all-clause-yes c e = record {
  listed = c.put_all.ensures.witness.row;
  contained = part_contained c.args.cells.now c.put_all.new.self.row c.put_all.ensures.part;
  meets = c.meets_all.ensures.meets c.if-meets_all.true;
}

pub returns-then-not-found-clause-no : goal.returns-then-not-found-clause-no
returns-then-not-found-clause-no c e =
    let reason = c.search_from-found.ensures.reason e in
    subst (HasNoRow c.args.tree.now) c.copy_from.ensures
    (no_row_of c.args.tree.now (get_or c.search_from-found.new.whys 0 []) c.copy_from.new.self reason.none reason.part)
