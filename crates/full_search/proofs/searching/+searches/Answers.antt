use Rattle.std.proofs.Common.{◌≡◌, ◌<◌, ◌+◌, ◌++◌, ◌∙◌, ℕ, [], Option, None, Some, true, false, not, is_some, unwrap_or, get_or, length, set, take, refl, sym, ap, subst, arith}
use Rattle.std.specs.Option.{IsSome}
use Rattle.std.proofs.lemmas.List.{get_or_default}
use Rattle.value_text.proofs.ListLemmas.{Some-unwrap_or}
use Rattle.cov_model.specs.Fits.{FitsModel}
use Rattle.cov_model.specs.believed.Rows.{is_assigned, with_value}
use Rattle.definitions.specs.believed.Demand.{is_among}
use Rattle.live_sets.specs.Trail.{mark_at}
use Rattle.feasibility.specs.Descent.{IsNode}
use Rattle.feasibility.specs.Tree.{constrained_at}
use Rattle.feasibility.proofs.Naming.{constrained_exists}
use Rattle.feasibility.proofs.Nodes.{FitsModel-with_value, listed_at, none_of, set_clear}
use Rattle.full_search.specs.Reasons.{Grows, HasNoRow, IsPart}
use Rattle.full_search.specs.Searching.{HasRoom, IsAt, TriedTells}
use Rattle.full_search.proofs.Entered.{entered_at, marked_unbroken}
use Rattle.full_search.proofs.GivenRows.{given_among}
use Rattle.full_search.proofs.Grown.{grows_none}
use Rattle.full_search.proofs.Parts.{part_with}
use Rattle.full_search.proofs.Rooms.{cleared_long, joined_room, room_with, split_room}
use Rattle.full_search.proofs.Told.{branches_again, branches_join, branches_more, told_found, told_jumped, told_met, told_refuted, tried_found, tried_jumped, tried_refuted, tried_room}
use Rattle.full_search.proofs.searching.+searches.Goals as goal
use Rattle.full_search.proofs.searching.+searches.Goals.{branch-then-v-at_hand+in-Refuted-try_value, branch-else-v-at_hand}

-- ---- search

pub search-returns-then-meets_all-clause-told : goal.search-returns-then-meets_all-clause-told
search-returns-then-meets_all-clause-told t c =
    told_met c.args.tree.now c.args.cells.now c.args.witness.now c.args.whys.now c.requires.at.kept c.requires.at.part c.requires.room
    (c.meets_all.ensures.meets c.if-meets_all.true)

-- ---- enter

pub enter-search-requires : goal.enter-search-requires
enter-search-requires t c =
    let tree = c.args.tree.now in
    let p = constrained_at tree.model c.args.i in
    let at = entered_at tree c.args.cells.now c.enter.new.sets c.args.witness.now p c.args.v c.enter.result c.requires.node.fits
    (constrained_exists tree.model c.args.i c.requires.place) (c.assert_invariant.ensures.values.exist p c.args.v c.requires.value) c.if-enter.true
    c.enter.ensures.fails (c.enter.ensures.live c.if-enter.true) c.requires.kept c.requires.part in (
      omega arith,
      (
        subst (λ cells. IsAt tree cells c.enter.new.sets c.args.witness.now) (sym c.enter.ensures.cells) at,
        subst (λ cells. HasRoom cells c.args.whys.now) (sym c.enter.ensures.cells) c.requires.room,
      ),
    )

pub enter-refute_stuck-requires-clause-fits : goal.enter-refute_stuck-requires-clause-fits
enter-refute_stuck-requires-clause-fits t c =
    let m = c.args.tree.now.model in
    let p = constrained_at m c.args.i in
    subst (FitsModel m) (sym c.enter.ensures.cells)
    (FitsModel-with_value m c.args.cells.now p c.args.v c.requires.node.fits (constrained_exists m c.args.i c.requires.place)
    (c.assert_invariant.ensures.values.exist p c.args.v c.requires.value))

-- ---- try_value

pub try_value-enter-found-requires : goal.try_value-enter-found-requires
try_value-enter-found-requires t c =
    let tree = c.args.tree.now in
    let cells = c.args.cells.now in
    let p = constrained_at tree.model c.args.i in
    let mark : mark_at c.args.sets.now.live p c.args.v ≡ true =
    ap (λ entry. mark_at c.args.sets.now.live entry.param c.args.v) (sym c.constrained_at.ensures) ∙ sym c.is_live.ensures ∙ c.if-not-is_live.false in
    let unbroken = marked_unbroken tree cells c.args.sets.now p c.args.v c.assert_invariant.ensures.values c.requires.at.node.live
    (constrained_exists tree.model c.args.i c.requires.place) c.requires.free c.requires.value mark in
    let part = subst (IsPart (with_value cells p c.args.v)) (sym c.put.ensures.row) (part_with cells c.args.witness.now.row p c.args.v c.requires.at.part) in (
      omega arith,
      (
        c.requires.place,
        (c.requires.free, (c.requires.value, (c.requires.at.node, (c.requires.at.listed, (c.put.ensures.witness, (part, (unbroken, c.requires.room))))))),
      ),
    )

pub try_value-returns-then-found-clause-cells : goal.try_value-returns-then-found-clause-cells
try_value-returns-then-found-clause-cells t c =
    let p = constrained_at c.args.tree.now.model c.args.i in
    c.clear_cell.ensures ∙ ap (λ entry. set c.enter-found.new.cells entry.param None) c.constrained_at.ensures
    ∙ ap (λ cells. set cells p None) c.enter-found.ensures.cells
    ∙ set_clear c.args.cells.now p c.args.v (none_of (get_or c.args.cells.now p None) c.requires.free)

pub try_value-returns-then-is_none-clause-cells : goal.try_value-returns-then-is_none-clause-cells
try_value-returns-then-is_none-clause-cells t c =
    let p = constrained_at c.args.tree.now.model c.args.i in
    c.clear_cell.ensures ∙ ap (λ entry. set c.enter-found.new.cells entry.param None) c.constrained_at.ensures
    ∙ ap (λ cells. set cells p None) c.enter-found.ensures.cells
    ∙ set_clear c.args.cells.now p c.args.v (none_of (get_or c.args.cells.now p None) c.requires.free)

pub try_value-returns-clause-cells : goal.try_value-returns-clause-cells
try_value-returns-clause-cells t c =
    let p = constrained_at c.args.tree.now.model c.args.i in
    c.clear_cell.ensures ∙ ap (λ entry. set c.enter-found.new.cells entry.param None) c.constrained_at.ensures
    ∙ ap (λ cells. set cells p None) c.enter-found.ensures.cells
    ∙ set_clear c.args.cells.now p c.args.v (none_of (get_or c.args.cells.now p None) c.requires.free)

pub try_value-returns-then-found-clause-told : goal.try_value-returns-then-found-clause-told
try_value-returns-then-found-clause-told t c =
    tried_found c.args.tree.now c.args.cells.now (constrained_at c.args.tree.now.model c.args.i) c.args.v c.enter-found.result c.enter-found.new.witness
    c.args.why.now c.args.below.now c.enter-found.new.whys c.requires.free c.if-found.true c.enter-found.ensures.told

pub try_value-returns-then-is_none-clause-told : goal.try_value-returns-then-is_none-clause-told
try_value-returns-then-is_none-clause-told t c =
    let p = constrained_at c.args.tree.now.model c.args.i in
    let new = c.enter-found.new.whys in
    let told = c.enter-found.ensures.told in
    let first : c.copy_from.new.self ≡ get_or new 0 [] =
    c.copy_from.ensures ∙ get_or_default new 0 c.index-below-0.result [] (omega (arith, told.as_many, c.requires.room.enough)) in
    let unset : is_assigned c.copy_from.new.self p ≡ false =
    ap (λ why. is_assigned why p) c.copy_from.ensures
    ∙ ap (λ entry. is_assigned (get_or new 0 c.index-below-0.result) entry.param) (sym c.constrained_at.ensures)
    ∙ ap is_some (sym c.get.ensures) ∙ c.is_none.ensures ∙ ap not c.if-is_none.true in
    tried_jumped c.args.tree.now c.args.cells.now p c.args.v c.enter-found.result c.enter-found.new.witness c.args.why.now c.copy_from.new.self
    c.args.below.now new c.requires.free c.if-found.false told c.requires.grows.part.long first unset

pub try_value-add_reason-requires-clause-below : goal.try_value-add_reason-requires-clause-below
try_value-add_reason-requires-clause-below t c =
    let cells = c.args.cells.now in
    let p = constrained_at c.args.tree.now.model c.args.i in
    let new = c.enter-found.new.whys in
    let told = c.enter-found.ensures.told in
    let back : c.clear_cell.new.self ≡ cells =
    c.clear_cell.ensures ∙ ap (λ entry. set c.enter-found.new.cells entry.param None) c.constrained_at.ensures
    ∙ ap (λ row. set row p None) c.enter-found.ensures.cells ∙ set_clear cells p c.args.v (none_of (get_or cells p None) c.requires.free) in
    let same : with_value c.clear_cell.new.self c.constrained_at.result.now.param c.args.v ≡ with_value cells p c.args.v =
    ap (λ row. with_value row c.constrained_at.result.now.param c.args.v) back ∙ ap (λ entry. with_value cells entry.param c.args.v) c.constrained_at.ensures in
    subst (IsPart (get_or new 0 c.index-below-0.result)) (sym same)
    (subst (λ why. IsPart why (with_value cells p c.args.v))
    (get_or_default new 0 [] c.index-below-0.result (omega (arith, told.as_many, c.requires.room.enough))) (told.no c.if-found.false).part)

pub try_value-returns-clause-told : goal.try_value-returns-clause-told
try_value-returns-clause-told t c =
    let tree = c.args.tree.now in
    let cells = c.args.cells.now in
    let p = constrained_at tree.model c.args.i in
    let new = c.enter-found.new.whys in
    let why = c.add_reason.new.why in
    let told = c.enter-found.ensures.told in
    let back : c.clear_cell.new.self ≡ cells =
    c.clear_cell.ensures ∙ ap (λ entry. set c.enter-found.new.cells entry.param None) c.constrained_at.ensures
    ∙ ap (λ row. set row p None) c.enter-found.ensures.cells ∙ set_clear cells p c.args.v (none_of (get_or cells p None) c.requires.free) in
    tried_refuted tree cells p c.args.v c.enter-found.result c.enter-found.new.witness c.args.why.now why c.args.below.now new c.requires.free c.if-found.false told
    (subst (λ row. Grows row p c.args.why.now why) back
    (subst (λ entry. Grows c.clear_cell.new.self entry.param c.args.why.now why) c.constrained_at.ensures c.add_reason.ensures.grows))
    (λ none. subst (λ entry. HasNoRow tree (with_value why entry.param c.args.v)) c.constrained_at.ensures
    (c.add_reason.ensures.refuted (subst (HasNoRow tree)
    (get_or_default new 0 [] c.index-below-0.result (omega (arith, told.as_many, c.requires.room.enough))) none)))

-- ---- branch

pub branch-get-requires : goal.branch-get-requires
branch-get-requires t c =
    let m = c.args.tree.now.model in
    omega (
      arith,
      constrained_exists m c.args.i c.requires.place,
      ap (λ entry. entry.param) c.constrained_at.ensures,
      c.requires.at.kept.row.as_long,
      c.assert_invariant.ensures.values.as_many,
    )

pub branch-unwrap-at_hand-requires : goal.branch-unwrap-at_hand-requires
branch-unwrap-at_hand-requires t c =
    let row = c.args.witness.now.row in
    let p = constrained_at c.args.tree.now.model c.args.i in
    let within : p < length c.args.tree.now.values =
    omega (arith, constrained_exists c.args.tree.now.model c.args.i c.requires.place, c.assert_invariant.ensures.values.as_many) in
    subst IsSome (sym (c.get.ensures ∙ ap (λ entry. get_or row entry.param None) c.constrained_at.ensures
    ∙ Some-unwrap_or (get_or row p None) 0 (c.requires.at.kept.row.assigned p within))) refl

pub branch-try_value-requires : goal.branch-try_value-requires
branch-try_value-requires t c =
    let tree = c.args.tree.now in
    let cells = c.args.cells.now in
    let row = c.args.witness.now.row in
    let p = constrained_at tree.model c.args.i in
    let own = c.split_at_mut-own.result.0.now in
    let low = constrained_exists tree.model c.args.i c.requires.place in
    let split = split_room cells c.args.whys.now own c.split_at_mut-own.result.1.now c.requires.room c.split_at_mut-own.ensures.value
    c.split_at_mut-own.ensures.front_len in
    let given : get_or row p None ≡ Some c.unwrap-at_hand.result =
    ap (λ entry. get_or row entry.param None) (sym c.constrained_at.ensures) ∙ sym c.get.ensures ∙ c.unwrap-at_hand.ensures in
    let listed = subst (λ (cell : Option ℕ). is_among (get_or tree.values p []) (unwrap_or cell 0) ≡ true) given
    (given_among tree.values row p c.requires.at.kept.row (omega (arith, low, c.assert_invariant.ensures.values.as_many))) in
    let room = room_with cells c.args.whys.now c.split_at_mut-own.result.1.now p c.unwrap-at_hand.result
    (omega (arith, low, c.requires.at.node.fits.as_long)) c.requires.free c.requires.room split.as_many split.each_below in
    let grows = subst (λ why. Grows cells p why why) (sym c.clear.ensures)
    (grows_none (length (get_or own 0 c.index-own-0.result)) cells p (split.each_own 0 c.index-own-0.result (omega (arith, split.one)))) in (
      omega (arith, split.as_many),
      (c.requires.place, (c.requires.free, (listed, (c.requires.at, (room, grows))))),
    )

pub branch-returns-in-Found-clause-told : goal.branch-returns-in-Found-clause-told
branch-returns-in-Found-clause-told t c =
    let tree = c.args.tree.now in
    let cells = c.args.cells.now in
    let p = constrained_at tree.model c.args.i in
    let whys = c.args.whys.now in
    let own = c.split_at_mut-own.result.0.now in
    let below = c.split_at_mut-own.result.1.now in
    let why = c.try_value.new.why in
    let split = split_room cells whys own below c.requires.room c.split_at_mut-own.ensures.value c.split_at_mut-own.ensures.front_len in
    told_found tree cells p c.unwrap-at_hand.result c.try_value.result c.try_value.new.witness c.clear.new.why why below c.try_value.new.below whys
    (set own 0 why ++ c.try_value.new.below) c.in-Found.is c.try_value.ensures.told
    (tried_room tree cells p c.unwrap-at_hand.result c.try_value.result c.try_value.new.witness c.clear.new.why why below c.try_value.new.below whys own below
    split split.as_many (cleared_long cells c.clear.new.why c.index-own-0.result whys own below split c.clear.ensures) c.try_value.ensures.told)

pub branch-try_value-requires-then-v-at_hand : goal.branch-try_value-requires-then-v-at_hand
branch-try_value-requires-then-v-at_hand t c =
    let tree = c.args.tree.now in
    let cells = c.args.cells.now in
    let p = constrained_at tree.model c.args.i in
    let values = c.values_of-v-items.result.now in
    let v = get_or values c.loop-v.v-index 0 in
    let branches = c.loop-v.invariant.branches in
    let same = sym c.loop-v.invariant.cells in
    let is : values ≡ get_or tree.values p [] =
    c.values_of-v-items.ensures ∙ ap (λ entry. get_or tree.values entry.param []) c.constrained_at.ensures in
    let at : IsAt tree cells c.loop-v.sets c.loop-v.witness = record {
      node = subst (IsNode tree cells) (sym c.loop-v.invariant.sets) c.requires.at.node;
      listed = c.requires.at.listed;
      kept = branches.kept;
      part = branches.part;
    } in
    let room = room_with cells c.args.whys.now c.loop-v.below p v
    (omega (arith, constrained_exists tree.model c.args.i c.requires.place, c.requires.at.node.fits.as_long)) c.requires.free c.requires.room
    branches.as_many branches.long in (
      omega (arith, branches.as_many),
      (
        c.requires.place,
        (
          subst (λ row. is_assigned row p ≡ false) same c.requires.free,
          (
            listed_at values (get_or tree.values p []) c.loop-v.v-index is c.loop-v-test.true,
            (
              subst (λ row. IsAt tree row c.loop-v.sets c.loop-v.witness) same at,
              (
                subst (λ row. HasRoom (with_value row p v) c.loop-v.below) same room,
                subst (λ row. Grows row p c.loop-v.why c.loop-v.why) same branches.tries.grows,
              ),
            ),
          ),
        ),
      ),
    )

pub branch-returns-in-Found-try_value-clause-told : goal.branch-returns-in-Found-try_value-clause-told
branch-returns-in-Found-try_value-clause-told t c =
    let tree = c.args.tree.now in
    let cells = c.args.cells.now in
    let p = constrained_at tree.model c.args.i in
    let v = get_or c.values_of-v-items.result.now c.loop-v.v-index 0 in
    let whys = c.args.whys.now in
    let own = c.split_at_mut-own.result.0.now in
    let below = c.split_at_mut-own.result.1.now in
    let result = c.try_value-then-v-at_hand.result in
    let witness = c.try_value-then-v-at_hand.new.witness in
    let why = c.try_value-then-v-at_hand.new.why in
    let new = c.try_value-then-v-at_hand.new.below in
    let branches = c.loop-v.invariant.branches in
    let told = subst (λ row. TriedTells tree row p v result witness c.loop-v.why why c.loop-v.below new) c.loop-v.invariant.cells
    c.try_value-then-v-at_hand.ensures.told in
    told_found tree cells p v result witness c.loop-v.why why c.loop-v.below new whys (set own 0 why ++ new) c.in-Found-try_value.is told
    (tried_room tree cells p v result witness c.loop-v.why why c.loop-v.below new whys own below
    (split_room cells whys own below c.requires.room c.split_at_mut-own.ensures.value c.split_at_mut-own.ensures.front_len) branches.as_many
    branches.tries.grows.part.long told)

pub branch-returns-in-Jumped-try_value-clause-told : goal.branch-returns-in-Jumped-try_value-clause-told
branch-returns-in-Jumped-try_value-clause-told t c =
    let tree = c.args.tree.now in
    let cells = c.args.cells.now in
    let p = constrained_at tree.model c.args.i in
    let v = get_or c.values_of-v-items.result.now c.loop-v.v-index 0 in
    let whys = c.args.whys.now in
    let own = c.split_at_mut-own.result.0.now in
    let below = c.split_at_mut-own.result.1.now in
    let result = c.try_value-then-v-at_hand.result in
    let witness = c.try_value-then-v-at_hand.new.witness in
    let why = c.try_value-then-v-at_hand.new.why in
    let new = c.try_value-then-v-at_hand.new.below in
    let branches = c.loop-v.invariant.branches in
    let told = subst (λ row. TriedTells tree row p v result witness c.loop-v.why why c.loop-v.below new) c.loop-v.invariant.cells
    c.try_value-then-v-at_hand.ensures.told in
    told_jumped tree cells p v result witness c.loop-v.why why c.loop-v.below new whys (set own 0 why ++ new) c.in-Jumped-try_value.is told
    (tried_room tree cells p v result witness c.loop-v.why why c.loop-v.below new whys own below
    (split_room cells whys own below c.requires.room c.split_at_mut-own.ensures.value c.split_at_mut-own.ensures.front_len) branches.as_many
    branches.tries.grows.part.long told)

pub branch-loop-v-preserved : goal.branch-loop-v-preserved
branch-loop-v-preserved t c =
    let tree = c.args.tree.now in
    let cells = c.args.cells.now in
    let p = constrained_at tree.model c.args.i in
    let values = c.values_of-v-items.result.now in
    let i = c.loop-v.v-index in
    let own = c.unwrap-at_hand.result in
    let whys = c.args.whys.now in
    elim c.if-v-at_hand.branch [
      | branch-then-v-at_hand+in-Refuted-try_value w ↦ record {
        cells = w.cells-is ∙ w.try_value-then-v-at_hand.ensures.cells ∙ c.loop-v.invariant.cells;
        sets = w.sets-is ∙ w.try_value-then-v-at_hand.ensures.sets ∙ c.loop-v.invariant.sets;
        branches = branches_join tree cells p own (take (i + 1) values) whys c.if-v-at_hand.witness w.try_value-then-v-at_hand.new.witness c.if-v-at_hand.why
            w.try_value-then-v-at_hand.new.why c.if-v-at_hand.below w.try_value-then-v-at_hand.new.below w.witness-is w.why-is w.below-is
            (branches_more tree cells p own values i w.try_value-then-v-at_hand.result c.loop-v.witness w.try_value-then-v-at_hand.new.witness c.loop-v.why
            w.try_value-then-v-at_hand.new.why c.loop-v.below w.try_value-then-v-at_hand.new.below whys c.loop-v-test.true w.in-Refuted-try_value.is
            (subst (λ row. TriedTells tree row p (get_or values i 0) w.try_value-then-v-at_hand.result w.try_value-then-v-at_hand.new.witness c.loop-v.why
            w.try_value-then-v-at_hand.new.why c.loop-v.below w.try_value-then-v-at_hand.new.below) c.loop-v.invariant.cells
            w.try_value-then-v-at_hand.ensures.told) c.loop-v.invariant.branches);
      }
      | branch-else-v-at_hand w ↦ record {
        cells = w.cells-is ∙ c.loop-v.invariant.cells;
        sets = w.sets-is ∙ c.loop-v.invariant.sets;
        branches = branches_join tree cells p own (take (i + 1) values) whys c.if-v-at_hand.witness c.loop-v.witness c.if-v-at_hand.why c.loop-v.why
            c.if-v-at_hand.below c.loop-v.below w.witness-is w.why-is w.below-is
            (branches_again tree cells p own values i c.loop-v.witness c.loop-v.why c.loop-v.below whys c.loop-v-test.true w.if-v-at_hand.false
            c.loop-v.invariant.branches);
      }
    ]

pub branch-returns-clause-told : goal.branch-returns-clause-told
branch-returns-clause-told t c =
    let tree = c.args.tree.now in
    let cells = c.args.cells.now in
    let p = constrained_at tree.model c.args.i in
    let values = c.values_of-v-items.result.now in
    let whys = c.args.whys.now in
    let own = c.split_at_mut-own.result.0.now in
    let below = c.split_at_mut-own.result.1.now in
    let branches = c.loop-v.invariant.branches in
    told_refuted tree cells p c.unwrap-at_hand.result values c.loop-v.v-index c.loop-v.witness c.loop-v.why c.loop-v.below whys
    (set own 0 c.loop-v.why ++ c.loop-v.below)
    (omega (arith, constrained_exists tree.model c.args.i c.requires.place, c.assert_invariant.ensures.values.as_many))
    (c.values_of-v-items.ensures ∙ ap (λ entry. get_or tree.values entry.param []) c.constrained_at.ensures) c.loop-v-test.false branches
    (joined_room cells c.loop-v.why whys own below c.loop-v.below
    (split_room cells whys own below c.requires.room c.split_at_mut-own.ensures.value c.split_at_mut-own.ensures.front_len) branches.tries.grows.part.long
    branches.as_many branches.long)
