use Rattle.std.proofs.Common.{◌≡◌, ℕ, ◌∙◌, not, List, [], Option, Some, None, get_or, set, sym, ap, subst, arith, refl}
use Rattle.std.proofs.lemmas.Bool.{not-false}
use Rattle.value_text.proofs.ListLemmas.{none_of}
use Rattle.cov_model.specs.believed.Rows.{with_value}
use Rattle.definitions.specs.believed.Search.{is_failing}
use Rattle.live_sets.specs.Trail.{LiveView, mark_at, undone}
use Rattle.feasibility.specs.Tree.{IsListed, constrained_at}
use Rattle.feasibility.proofs.Naming.{constrained_exists}
use Rattle.feasibility.proofs.Nodes.{set_clear}
use Rattle.feasibility.proofs.Searching.{IsListed-with_value}
use Rattle.full_search.specs.Completing.{HasRow}
use Rattle.full_search.specs.Reasons.{HasNoRow, IsPart, IsRowFor}
use Rattle.full_search.specs.Searching.{IsAt}
use Rattle.full_search.proofs.Entered.{entered_at, listed_part}
use Rattle.full_search.proofs.Holding.{dead_none, is_equal, part_contained, part_given, part_whole, row_fine}
use Rattle.full_search.proofs.Parts.{no_row_of, part_self, part_with}
use Rattle.full_search.proofs.Rows.{failing_none}
use Rattle.full_search.proofs.completing.holds_with.Goals as goal
use Rattle.full_search.proofs.completing.holds_with.Goals.{else-enter-via-then-enter+else-search, else-enter-via-else-enter}

pub returns-then-not-is_live-clause-no : goal.returns-then-not-is_live-clause-no
returns-then-not-is_live-clause-no c e =
    let tree = c.args.tree.now in
    let param = ap (λ entry. entry.param) c.constrained_at.ensures in
    dead_none tree c.args.cells.now c.args.sets.now (constrained_at tree.model c.args.i) c.args.v c.assert_invariant.ensures.values c.requires.row.at.listed
    c.requires.row.at.node.live (constrained_exists tree.model c.args.i c.requires.place) c.requires.free c.requires.value
    (ap (λ (k : ℕ). mark_at c.args.sets.now.live k c.args.v) (sym param) ∙ sym c.is_live.ensures ∙ c.if-not-is_live.true)

pub returns-then-eq-clause-row : goal.returns-then-eq-clause-row
returns-then-eq-clause-row c =
    let tree = c.args.tree.now in
    let cells = c.args.cells.now in
    let witness = c.args.witness.now in
    let p = constrained_at tree.model c.args.i in
    let param = ap (λ entry. entry.param) c.constrained_at.ensures in
    let values = c.assert_invariant.ensures.values in
    let low = constrained_exists tree.model c.args.i c.requires.place in
    let has : get_or witness.row p None ≡ Some c.args.v =
    ap (λ (k : ℕ). get_or witness.row k None) (sym param) ∙ sym c.get.ensures ∙ is_equal c.get.result c.args.v (sym c.eq.ensures ∙ c.if-eq.true) in
    let part = part_given cells witness.row p c.args.v c.requires.row.at.part (omega (arith, low, c.requires.row.at.listed.long, values.as_many)) has in
    let row : IsRowFor tree (with_value cells p c.args.v) witness.row =
    record { listed = c.requires.row.row.listed; contained = part_contained (with_value cells p c.args.v) witness.row part; meets = c.requires.row.row.meets } in
    let listed = listed_part tree.values (with_value cells p c.args.v) witness.row c.requires.row.at.kept.row part in
    let entered = c.enter-fine.ensures.fails ∙ ap not (row_fine tree (with_value cells p c.args.v) witness.row values listed row) in
    subst (λ (after : List (Option ℕ)). HasRow tree after c.enter-fine.new.sets witness) (sym c.enter-fine.ensures.cells)
    (record {
      at = entered_at tree cells c.enter-fine.new.sets witness p c.args.v c.enter-fine.result c.requires.row.at.node.fits low
          (values.exist p c.args.v c.requires.value) entered c.enter-fine.ensures.fails (c.enter-fine.ensures.live entered) c.requires.row.at.kept part;
      row = row;
    })

pub search-requires-clause-at : goal.search-requires-clause-at
search-requires-clause-at c =
    let tree = c.args.tree.now in
    let cells = c.args.cells.now in
    let p = constrained_at tree.model c.args.i in
    subst (λ (after : List (Option ℕ)). IsAt tree after c.enter.new.sets c.put.new.self) (sym c.enter.ensures.cells)
    (entered_at tree cells c.enter.new.sets c.put.new.self p c.args.v c.enter.result c.requires.row.at.node.fits
    (constrained_exists tree.model c.args.i c.requires.place) (c.assert_invariant.ensures.values.exist p c.args.v c.requires.value) c.if-enter.true
    c.enter.ensures.fails (c.enter.ensures.live c.if-enter.true) c.put.ensures.witness
    (subst (IsPart (with_value cells p c.args.v)) (sym c.put.ensures.row) (part_with cells c.args.witness.now.row p c.args.v c.requires.row.at.part)))

pub returns-then-search-clause-row : goal.returns-then-search-clause-row
returns-then-search-clause-row c =
    let tree = c.args.tree.now in
    let cells = c.args.cells.now in
    let p = constrained_at tree.model c.args.i in
    let told = c.search.ensures.told in
    subst (λ (after : List (Option ℕ)). HasRow tree after c.search.new.sets c.search.new.witness) (sym (c.search.ensures.cells ∙ c.enter.ensures.cells))
    (subst (λ (sets : LiveView). HasRow tree (with_value cells p c.args.v) sets c.search.new.witness) (sym c.search.ensures.sets)
    (record {
      at = entered_at tree cells c.enter.new.sets c.search.new.witness p c.args.v c.enter.result c.requires.row.at.node.fits
          (constrained_exists tree.model c.args.i c.requires.place) (c.assert_invariant.ensures.values.exist p c.args.v c.requires.value) c.if-enter.true
          c.enter.ensures.fails (c.enter.ensures.live c.if-enter.true) told.kept
          (subst (λ (after : List (Option ℕ)). IsPart after c.search.new.witness.row) c.enter.ensures.cells told.part);
      row = subst (λ (after : List (Option ℕ)). IsRowFor tree after c.search.new.witness.row) c.enter.ensures.cells (told.yes c.if-search.true);
    }))

pub put_all-requires-clause-listed : goal.put_all-requires-clause-listed
put_all-requires-clause-listed c =
    let row = c.args.witness.now.row in
    subst (IsListed c.args.tree.now.values) (sym c.copy_from.ensures) (listed_part c.args.tree.now.values row row c.requires.row.at.kept.row (part_self row))

pub returns-clause-no : goal.returns-clause-no
returns-clause-no c e =
    let tree = c.args.tree.now in
    let cells = c.args.cells.now in
    let p = constrained_at tree.model c.args.i in
    let values = c.assert_invariant.ensures.values in
    let low = constrained_exists tree.model c.args.i c.requires.place in
    elim c.else-enter.branch [
      | else-enter-via-then-enter+else-search w ↦
          let reason = w.search.ensures.told.no w.if-search.false in
          subst (HasNoRow tree) c.enter.ensures.cells (no_row_of tree (get_or w.search.new.whys 0 []) c.enter.new.cells reason.none reason.part)
      | else-enter-via-else-enter w ↦
          failing_none tree (with_value cells p c.args.v) values
          (IsListed-with_value tree.values cells p c.args.v c.requires.row.at.listed (omega (arith, low, values.as_many)) c.requires.value)
          (not-false (is_failing tree.model tree.values (with_value cells p c.args.v)) (sym c.enter.ensures.fails ∙ w.if-enter.false))
    ]

pub returns-clause-same : goal.returns-clause-same
returns-clause-same c e =
    let cells = c.args.cells.now in
    let p = constrained_at c.args.tree.now.model c.args.i in
    let param = ap (λ entry. entry.param) c.constrained_at.ensures in
    let after : c.else-enter.cells ≡ with_value cells p c.args.v =
    elim c.else-enter.branch [
      | else-enter-via-then-enter+else-search w ↦ w.cells-is ∙ w.search.ensures.cells ∙ c.enter.ensures.cells
      | else-enter-via-else-enter w ↦ w.cells-is ∙ c.enter.ensures.cells
    ] in
    c.clear_cell.ensures ∙ ap (λ (k : ℕ). set c.else-enter.cells k None) param ∙ ap (λ (held : List (Option ℕ)). set held p None) after
    ∙ set_clear cells p c.args.v (none_of (get_or cells p None) c.requires.free)

pub returns-clause-row : goal.returns-clause-row
returns-clause-row c =
    let tree = c.args.tree.now in
    let row = c.args.witness.now.row in
    let sets : c.undo.new.self ≡ c.args.sets.now =
    c.undo.ensures ∙ elim c.else-enter.branch [
      | else-enter-via-then-enter+else-search w ↦ ap (λ (sets : LiveView). undone sets c.trail_len-len.result) (w.sets-is ∙ w.search.ensures.sets)
      | else-enter-via-else-enter w ↦ ap (λ (sets : LiveView). undone sets c.trail_len-len.result) w.sets-is
    ] ∙ ap (undone c.enter.new.sets) c.trail_len-len.ensures ∙ c.enter.ensures.since.back in
    let again : c.put_all.new.self.row ≡ row =
    sym (part_whole tree.values row c.put_all.new.self.row c.requires.row.at.kept.row
    (subst (λ (saved : List (Option ℕ)). IsPart saved c.put_all.new.self.row) c.copy_from.ensures c.put_all.ensures.part)) in
    subst (λ (cells : List (Option ℕ)). HasRow tree cells c.undo.new.self c.put_all.new.self) (sym (returns-clause-same c refl))
    (subst (λ (sets : LiveView). HasRow tree c.args.cells.now sets c.put_all.new.self) (sym sets)
    (record {
      at = record {
        node = c.requires.row.at.node;
        listed = c.requires.row.at.listed;
        kept = c.put_all.ensures.witness;
        part = subst (IsPart c.args.cells.now) (sym again) c.requires.row.at.part;
      };
      row = subst (IsRowFor tree c.args.cells.now) (sym again) c.requires.row.row;
    }))
