use Rattle.std.proofs.Common.{◌≡◌, ◌<◌, ◌++◌, ◌∙◌, [], None, ℕ, List, Option, false, true, not, drop, length, get_or, set, is_some, take, arith, sym, ap, subst, refl}
use Rattle.std.specs.Result.{OnOk}
use Rattle.std.proofs.lemmas.List.{get_or-set_same, get_or_default}
use Rattle.std.proofs.lemmas.Result.{on_ok_weaker}
use Rattle.cov_model.specs.believed.Rows.{is_assigned, with_value}
use Rattle.cov_model.specs.believed.Sound.{param_at}
use Rattle.definitions.specs.believed.Search.{breaks_a_rule, constrained_params, is_failing}
use Rattle.live_sets.specs.Trail.{mark_at}
use Rattle.refutation.specs.Proofs.{meant}
use Rattle.feasibility.specs.Live.{ShowsLive}
use Rattle.feasibility.specs.Refuting.{HasNoLeaf, IsPath}
use Rattle.feasibility.specs.Tree.{TreeView}
use Rattle.feasibility.proofs.Naming.{constrained_exists}
use Rattle.feasibility.proofs.Nodes.{none_of, set_clear}
use Rattle.feasibility.proofs.Paths.{marked_value, positive_value}
use Rattle.full_search.specs.Closing.{IsClosed, IsFirstLeaf, IsLeafBetween, IsOpen, KeepsRoom, TellsOf, ValueClosed, tree_of}
use Rattle.full_search.specs.Reasons.{Grows, IsPart}
use Rattle.full_search.specs.Searching.{HasRoom, free_count}
use Rattle.full_search.specs.Witnesses.{BreaksOne, IsWitness}
use Rattle.full_search.specs.declared.closing.Closed.TheVariants.{Whole}
use Rattle.full_search.proofs.ClosingSteps.{can_cut, closed_joined, keeps_joined, keeps_start, keeps_then, keeps_without, leaf_added, open_with, param_is, path_added, path_whole}
use Rattle.full_search.proofs.Entered.{entered_at}
use Rattle.full_search.proofs.Grown.{grows_none, grows_on}
use Rattle.full_search.proofs.LeafTells.{live_tells}
use Rattle.full_search.proofs.OpenPaths.{breaks_one}
use Rattle.full_search.proofs.Parts.{no_row_of, part_set, part_then, part_with}
use Rattle.full_search.proofs.PartTrees.{ClosesBelow, below_all, below_next, below_none}
use Rattle.full_search.proofs.Rooms.{free_less, room_with, split_room}
use Rattle.full_search.proofs.closing.+closes.Goals as goal

pub close-place_to_branch-i-requires-clause-broken : goal.close-place_to_branch-i-requires-clause-broken
close-place_to_branch-i-requires-clause-broken t c =
    let r = c.args.refuter.now in
    subst (λ (tree : TreeView). BreaksOne tree.model c.args.witness.now.row) (sym c.tree.ensures)
    (breaks_one (tree_of r) c.args.cells.now c.args.witness.now c.requires.open.none c.requires.open.at.kept c.requires.open.at.part)

pub close-count_of-v-end-requires : goal.close-count_of-v-end-requires
close-count_of-v-end-requires t c =
    let r = c.args.refuter.now in
    let i = c.place_to_branch-i.result in
    let p = param_is r c.tree-2.result.now c.constrained_at.result.now i c.tree-2.ensures c.constrained_at.ensures in
    let place = subst (λ (tree : TreeView). i < length (constrained_params tree.model)) c.tree.ensures c.place_to_branch-i.ensures.place in
    omega (arith, constrained_exists r.model i place, p)

pub close-loop-v-init : goal.close-loop-v-init
close-loop-v-init t c =
    let r = c.args.refuter.now in
    let path = c.args.cells.now in
    let p = c.constrained_at.result.now.param in
    let own = c.split_at_mut-own.result.0.now in
    let below = c.split_at_mut-own.result.1.now in
    let split = split_room path c.args.whys.now own below c.requires.room c.split_at_mut-own.ensures.value c.split_at_mut-own.ensures.front_len in
    let long = split.each_own 0 c.index-own-0.result (omega (arith, split.one)) in
    record {
      cells = refl;
      sets = refl;
      keeps = keeps_start r path c.args.sets.now c.args.witness.now c.args.whys.now own below c.requires.open split;
      grows = subst (λ why. Grows path p why why) (sym c.clear.ensures) (grows_none (length (get_or own 0 c.index-own-0.result)) path p long);
      closes = below_none r c.clear.new.why path p c.push.new.self.items;
    }

pub close-close_value-requires : goal.close-close_value-requires
close-close_value-requires t c =
    let r = c.args.refuter.now in
    let path = c.args.cells.now in
    let i = c.place_to_branch-i.result in
    let q = get_or (constrained_params r.model) i 0 in
    let p = param_is r c.tree-2.result.now c.constrained_at.result.now i c.tree-2.ensures c.constrained_at.ensures in
    let place = subst (λ (tree : TreeView). i < length (constrained_params tree.model)) c.tree.ensures c.place_to_branch-i.ensures.place in
    let free = subst (λ (tree : TreeView). is_assigned path (get_or (constrained_params tree.model) i 0) ≡ false) c.tree.ensures c.place_to_branch-i.ensures.free in
    let cells = c.loop-v.invariant.cells in
    let within : q < length path = omega (arith, constrained_exists r.model i place, c.requires.open.path.fits.as_long) in
    let opened = open_with r path c.args.sets.now c.args.witness.now c.loop-v.witness c.requires.open c.loop-v.invariant.keeps.kept
    c.loop-v.invariant.keeps.part in
    let split = split_room path c.args.whys.now c.split_at_mut-own.result.0.now c.split_at_mut-own.result.1.now c.requires.room
    c.split_at_mut-own.ensures.value c.split_at_mut-own.ensures.front_len in
    let room = room_with path c.args.whys.now c.loop-v.below q c.loop-v.v within free c.requires.room
    (omega (arith, c.loop-v.invariant.keeps.as_many, split.as_many)) c.loop-v.invariant.keeps.long in (
      omega (arith, ap (λ row. free_count row) cells),
      (
        place,
        (
          ap (λ row. is_assigned row q) cells ∙ free,
          (
            subst (λ k. c.loop-v.v < length (param_at r.model.params k).values) p (omega (arith, c.loop-v-test.true, c.count_of-v-end.ensures)),
            (
              subst (λ row. IsOpen r row c.loop-v.sets c.loop-v.witness) (sym cells)
                  (subst (λ sets. IsOpen r path sets c.loop-v.witness) (sym c.loop-v.invariant.sets) opened),
              (
                subst (λ row. HasRoom (with_value row q c.loop-v.v) c.loop-v.below) (sym cells) room,
                subst (λ row. Grows row q c.loop-v.why c.loop-v.why) (sym cells)
                    (subst (λ k. Grows path k c.loop-v.why c.loop-v.why) p c.loop-v.invariant.grows),
              ),
            ),
          ),
        ),
      ),
    )

pub close-returns-in_err-close_value-clause-keeps : goal.close-returns-in_err-close_value-clause-keeps
close-returns-in_err-close_value-clause-keeps t c =
    let r = c.args.refuter.now in
    let path = c.args.cells.now in
    let own = c.split_at_mut-own.result.0.now in
    let below = c.split_at_mut-own.result.1.now in
    let split = split_room path c.args.whys.now own below c.requires.room c.split_at_mut-own.ensures.value c.split_at_mut-own.ensures.front_len in
    let later = subst (λ row. KeepsRoom r row c.close_value.new.witness c.loop-v.below c.close_value.new.below) c.loop-v.invariant.cells
    c.close_value.ensures.keeps in
    let keeps = keeps_then r path c.loop-v.witness c.close_value.new.witness below c.loop-v.below c.close_value.new.below c.loop-v.invariant.keeps later in
    keeps_joined r path c.close_value.new.witness c.args.whys.now own below c.close_value.new.below c.close_value.new.why split
    (c.close_value.ensures.long ∙ c.loop-v.invariant.grows.part.long) keeps

pub close-returns-in_err-close_value-clause-cells : goal.close-returns-in_err-close_value-clause-cells
close-returns-in_err-close_value-clause-cells t c = c.close_value.ensures.cells ∙ c.loop-v.invariant.cells

pub close-returns-in_err-close_value-clause-sets : goal.close-returns-in_err-close_value-clause-sets
close-returns-in_err-close_value-clause-sets t c = c.close_value.ensures.sets ∙ c.loop-v.invariant.sets

pub close-cut-requires-clause-ordered : goal.close-cut-requires-clause-ordered
close-cut-requires-clause-ordered t c =
    let r = c.args.refuter.now in
    let path = c.args.cells.now in
    let i = c.place_to_branch-i.result in
    let q = get_or (constrained_params r.model) i 0 in
    let k = c.constrained_at.result.now.param in
    let p = param_is r c.tree-2.result.now c.constrained_at.result.now i c.tree-2.ensures c.constrained_at.ensures in
    let told = subst (λ n. ValueClosed r path n c.loop-v.v c.loop-v.why c.close_value.new.why c.loop-v.tokens.items c.close_value.new.tokens.items
    c.in_ok-close_value.field-0) (sym p)
    (subst (λ row. ValueClosed r row q c.loop-v.v c.loop-v.why c.close_value.new.why c.loop-v.tokens.items c.close_value.new.tokens.items
    c.in_ok-close_value.field-0) c.loop-v.invariant.cells c.in_ok-close_value.ensures.closed) in
    let cut = can_cut r c.loop-v.why path c.close_value.new.why k c.loop-v.v c.args.tokens.now.items c.push.new.self.items c.loop-v.tokens.items
    c.close_value.new.tokens.items c.loop-v.invariant.grows c.loop-v.invariant.closes c.in_ok-push.ensures.items (told.whole c.in-Whole.is) in
    omega (arith, cut.ordered, c.len-start.ensures, c.len-before.ensures)

pub close-cut-requires-clause-within : goal.close-cut-requires-clause-within
close-cut-requires-clause-within t c =
    let r = c.args.refuter.now in
    let path = c.args.cells.now in
    let i = c.place_to_branch-i.result in
    let q = get_or (constrained_params r.model) i 0 in
    let k = c.constrained_at.result.now.param in
    let p = param_is r c.tree-2.result.now c.constrained_at.result.now i c.tree-2.ensures c.constrained_at.ensures in
    let told = subst (λ n. ValueClosed r path n c.loop-v.v c.loop-v.why c.close_value.new.why c.loop-v.tokens.items c.close_value.new.tokens.items
    c.in_ok-close_value.field-0) (sym p)
    (subst (λ row. ValueClosed r row q c.loop-v.v c.loop-v.why c.close_value.new.why c.loop-v.tokens.items c.close_value.new.tokens.items
    c.in_ok-close_value.field-0) c.loop-v.invariant.cells c.in_ok-close_value.ensures.closed) in
    let cut = can_cut r c.loop-v.why path c.close_value.new.why k c.loop-v.v c.args.tokens.now.items c.push.new.self.items c.loop-v.tokens.items
    c.close_value.new.tokens.items c.loop-v.invariant.grows c.loop-v.invariant.closes c.in_ok-push.ensures.items (told.whole c.in-Whole.is) in
    omega (arith, cut.within, c.len-before.ensures)

pub close-returns-in-Whole-clause-closed : goal.close-returns-in-Whole-clause-closed
close-returns-in-Whole-clause-closed t c =
    let r = c.args.refuter.now in
    let path = c.args.cells.now in
    let i = c.place_to_branch-i.result in
    let q = get_or (constrained_params r.model) i 0 in
    let k = c.constrained_at.result.now.param in
    let p = param_is r c.tree-2.result.now c.constrained_at.result.now i c.tree-2.ensures c.constrained_at.ensures in
    let told = subst (λ n. ValueClosed r path n c.loop-v.v c.loop-v.why c.close_value.new.why c.loop-v.tokens.items c.close_value.new.tokens.items
    c.in_ok-close_value.field-0) (sym p)
    (subst (λ row. ValueClosed r row q c.loop-v.v c.loop-v.why c.close_value.new.why c.loop-v.tokens.items c.close_value.new.tokens.items
    c.in_ok-close_value.field-0) c.loop-v.invariant.cells c.in_ok-close_value.ensures.closed) in
    let cut = can_cut r c.loop-v.why path c.close_value.new.why k c.loop-v.v c.args.tokens.now.items c.push.new.self.items c.loop-v.tokens.items
    c.close_value.new.tokens.items c.loop-v.invariant.grows c.loop-v.invariant.closes c.in_ok-push.ensures.items (told.whole c.in-Whole.is) in
    let own = c.split_at_mut-own.result.0.now in
    let below = c.split_at_mut-own.result.1.now in
    let split = split_room path c.args.whys.now own below c.requires.room c.split_at_mut-own.ensures.value c.split_at_mut-own.ensures.front_len in
    let later = subst (λ row. KeepsRoom r row c.close_value.new.witness c.loop-v.below c.close_value.new.below) c.loop-v.invariant.cells
    c.close_value.ensures.keeps in
    let keeps = keeps_then r path c.loop-v.witness c.close_value.new.witness below c.loop-v.below c.close_value.new.below c.loop-v.invariant.keeps later in
    let tokens = c.close_value.new.tokens.items in
    let start : c.len-start.result ≡ length c.args.tokens.now.items = omega (arith, c.len-start.ensures) in
    let before : c.len-before.result ≡ length c.loop-v.tokens.items = omega (arith, c.len-before.ensures) in
    let are = c.cut.ensures ∙ ap (λ n. take n tokens ++ drop c.len-before.result tokens) start
    ∙ ap (λ n. take (length c.args.tokens.now.items) tokens ++ drop n tokens) before in
    closed_joined r path c.close_value.new.why c.close_value.new.witness c.args.whys.now own below c.close_value.new.below c.args.tokens.now.items
    c.cut.new.tokens.items split keeps (cut.closed c.cut.new.tokens.items are)

pub close-returns-in-Whole-clause-keeps : goal.close-returns-in-Whole-clause-keeps
close-returns-in-Whole-clause-keeps t c =
    let r = c.args.refuter.now in
    let path = c.args.cells.now in
    let own = c.split_at_mut-own.result.0.now in
    let below = c.split_at_mut-own.result.1.now in
    let split = split_room path c.args.whys.now own below c.requires.room c.split_at_mut-own.ensures.value c.split_at_mut-own.ensures.front_len in
    let later = subst (λ row. KeepsRoom r row c.close_value.new.witness c.loop-v.below c.close_value.new.below) c.loop-v.invariant.cells
    c.close_value.ensures.keeps in
    let keeps = keeps_then r path c.loop-v.witness c.close_value.new.witness below c.loop-v.below c.close_value.new.below c.loop-v.invariant.keeps later in
    keeps_joined r path c.close_value.new.witness c.args.whys.now own below c.close_value.new.below c.close_value.new.why split
    (c.close_value.ensures.long ∙ c.loop-v.invariant.grows.part.long) keeps

pub close-returns-in-Whole-clause-cells : goal.close-returns-in-Whole-clause-cells
close-returns-in-Whole-clause-cells t c = c.close_value.ensures.cells ∙ c.loop-v.invariant.cells

pub close-returns-in-Whole-clause-sets : goal.close-returns-in-Whole-clause-sets
close-returns-in-Whole-clause-sets t c = c.close_value.ensures.sets ∙ c.loop-v.invariant.sets

pub close-loop-v-preserved : goal.close-loop-v-preserved
close-loop-v-preserved t c =
    let r = c.args.refuter.now in
    let path = c.args.cells.now in
    let i = c.place_to_branch-i.result in
    let q = get_or (constrained_params r.model) i 0 in
    let k = c.constrained_at.result.now.param in
    let p = param_is r c.tree-2.result.now c.constrained_at.result.now i c.tree-2.ensures c.constrained_at.ensures in
    let told = subst (λ n. ValueClosed r path n c.loop-v.v c.loop-v.why c.close_value.new.why c.loop-v.tokens.items c.close_value.new.tokens.items
    c.in_ok-close_value.field-0) (sym p)
    (subst (λ row. ValueClosed r row q c.loop-v.v c.loop-v.why c.close_value.new.why c.loop-v.tokens.items c.close_value.new.tokens.items
    c.in_ok-close_value.field-0) c.loop-v.invariant.cells c.in_ok-close_value.ensures.closed) in
    let below = c.split_at_mut-own.result.1.now in
    let later = subst (λ row. KeepsRoom r row c.close_value.new.witness c.loop-v.below c.close_value.new.below) c.loop-v.invariant.cells
    c.close_value.ensures.keeps in
    let keeps = keeps_then r path c.loop-v.witness c.close_value.new.witness below c.loop-v.below c.close_value.new.below c.loop-v.invariant.keeps later in
    let added = told.added c.in-Added.is in
    record {
      cells = c.close_value.ensures.cells ∙ c.loop-v.invariant.cells;
      sets = c.close_value.ensures.sets ∙ c.loop-v.invariant.sets;
      keeps = keeps;
      grows = grows_on path k c.loop-v.why c.close_value.new.why added.0;
      closes = below_next r c.loop-v.why c.close_value.new.why path k c.loop-v.v c.push.new.self.items c.loop-v.tokens.items c.close_value.new.tokens.items
          added.0 c.loop-v.invariant.closes added.1;
    }

pub close-returns-clause-closed : goal.close-returns-clause-closed
close-returns-clause-closed t c =
    let r = c.args.refuter.now in
    let path = c.args.cells.now in
    let own = c.split_at_mut-own.result.0.now in
    let below = c.split_at_mut-own.result.1.now in
    let split = split_room path c.args.whys.now own below c.requires.room c.split_at_mut-own.ensures.value c.split_at_mut-own.ensures.front_len in
    let i = c.place_to_branch-i.result in
    let k = c.constrained_at.result.now.param in
    let p = param_is r c.tree-2.result.now c.constrained_at.result.now i c.tree-2.ensures c.constrained_at.ensures in
    let place = subst (λ (tree : TreeView). i < length (constrained_params tree.model)) c.tree.ensures c.place_to_branch-i.ensures.place in
    let free = subst (λ (tree : TreeView). is_assigned path (get_or (constrained_params tree.model) i 0) ≡ false) c.tree.ensures c.place_to_branch-i.ensures.free in
    let whole : c.loop-v.v ≡ length (param_at r.model.params k).values =
    omega (arith, c.loop-v-test.false, c.loop-v.auto.v-end, c.count_of-v-end.ensures) in
    closed_joined r path c.loop-v.why c.loop-v.witness c.args.whys.now own below c.loop-v.below c.args.tokens.now.items c.loop-v.tokens.items split
    c.loop-v.invariant.keeps (record {
      part = c.loop-v.invariant.grows.part;
      closes = below_all r c.loop-v.why path k c.args.tokens.now.items c.push.new.self.items c.loop-v.tokens.items c.in_ok-push.ensures.items
          (omega (arith, constrained_exists r.model i place, p)) (ap (is_assigned path) p ∙ free) c.requires.open.leafless
          (subst (λ n. ClosesBelow r c.loop-v.why path k n c.push.new.self.items c.loop-v.tokens.items) whole c.loop-v.invariant.closes);
    })

pub close-returns-clause-keeps : goal.close-returns-clause-keeps
close-returns-clause-keeps t c =
    let r = c.args.refuter.now in
    let path = c.args.cells.now in
    let own = c.split_at_mut-own.result.0.now in
    let below = c.split_at_mut-own.result.1.now in
    let split = split_room path c.args.whys.now own below c.requires.room c.split_at_mut-own.ensures.value c.split_at_mut-own.ensures.front_len in
    keeps_joined r path c.loop-v.witness c.args.whys.now own below c.loop-v.below c.loop-v.why split c.loop-v.invariant.grows.part.long
    c.loop-v.invariant.keeps

pub close-returns-clause-cells : goal.close-returns-clause-cells
close-returns-clause-cells t c = c.loop-v.invariant.cells

pub close-returns-clause-sets : goal.close-returns-clause-sets
close-returns-clause-sets t c = c.loop-v.invariant.sets

pub close_live-close-requires : goal.close_live-close-requires
close_live-close-requires t c =
    let r = c.args.refuter.now in
    let q = get_or (constrained_params r.model) c.args.i 0 in
    let row = with_value c.args.cells.now q c.args.v in
    let is : c.enter.new.cells ≡ row =
    c.enter.ensures.cells ∙ ap (λ (tree : TreeView). with_value c.args.cells.now (get_or (constrained_params tree.model) c.args.i 0) c.args.v) c.tree.ensures in
    let node : c.enter.result ≡ not (is_failing r.model r.lists row) =
    subst (λ (tree : TreeView). c.enter.result ≡ not (is_failing tree.model tree.values
    (with_value c.args.cells.now (get_or (constrained_params tree.model) c.args.i 0) c.args.v))) c.tree.ensures c.enter.ensures.fails in
    let live : ShowsLive r.model r.lists row c.enter.new.sets =
    subst (λ (tree : TreeView). ShowsLive tree.model tree.values (with_value c.args.cells.now (get_or (constrained_params tree.model) c.args.i 0) c.args.v)
    c.enter.new.sets) c.tree.ensures (c.enter.ensures.live c.if-enter.true) in
    let low = constrained_exists r.model c.args.i c.requires.place in
    let opened : IsOpen r row c.enter.new.sets c.args.witness.now = record {
      path = c.requires.path;
      leafless = c.requires.leafless;
      at = entered_at (tree_of r) c.args.cells.now c.enter.new.sets c.args.witness.now q c.args.v c.enter.result c.requires.open.path.fits low c.requires.value
          c.if-enter.true node live c.requires.kept c.requires.part;
      none = no_row_of (tree_of r) c.args.cells.now row c.requires.open.none (part_set c.args.cells.now q c.args.v c.requires.free);
    } in
    let within : q < length c.args.cells.now = omega (arith, low, c.requires.open.path.fits.as_long) in (
      omega (arith, free_less c.args.cells.now q c.args.v within c.requires.free, ap (λ cells. free_count cells) is),
      (
        subst (λ cells. IsOpen r cells c.enter.new.sets c.args.witness.now) (sym is) opened,
        subst (λ cells. HasRoom cells c.args.whys.now) (sym is) c.requires.room,
      ),
    )

pub close_live-returns-then-enter-clause-closed : goal.close_live-returns-then-enter-clause-closed
close_live-returns-then-enter-clause-closed t c =
    let r = c.args.refuter.now in
    let q = get_or (constrained_params r.model) c.args.i 0 in
    let row = with_value c.args.cells.now q c.args.v in
    let is : c.enter.new.cells ≡ row =
    c.enter.ensures.cells ∙ ap (λ (tree : TreeView). with_value c.args.cells.now (get_or (constrained_params tree.model) c.args.i 0) c.args.v) c.tree.ensures in
    subst (λ cells. OnOk c.close.result (IsClosed r cells (get_or c.close.new.whys 0 []) c.args.tokens.now.items c.close.new.tokens.items)) is
    c.close.ensures.closed

pub close_live-returns-then-enter-clause-keeps : goal.close_live-returns-then-enter-clause-keeps
close_live-returns-then-enter-clause-keeps t c =
    let r = c.args.refuter.now in
    let q = get_or (constrained_params r.model) c.args.i 0 in
    let row = with_value c.args.cells.now q c.args.v in
    let is : c.enter.new.cells ≡ row =
    c.enter.ensures.cells ∙ ap (λ (tree : TreeView). with_value c.args.cells.now (get_or (constrained_params tree.model) c.args.i 0) c.args.v) c.tree.ensures in
    subst (λ cells. KeepsRoom r cells c.close.new.witness c.args.whys.now c.close.new.whys) is c.close.ensures.keeps

pub close_live-returns-then-enter-clause-cells : goal.close_live-returns-then-enter-clause-cells
close_live-returns-then-enter-clause-cells t c =
    let r = c.args.refuter.now in
    let q = get_or (constrained_params r.model) c.args.i 0 in
    let row = with_value c.args.cells.now q c.args.v in
    let is : c.enter.new.cells ≡ row =
    c.enter.ensures.cells ∙ ap (λ (tree : TreeView). with_value c.args.cells.now (get_or (constrained_params tree.model) c.args.i 0) c.args.v) c.tree.ensures in
    c.close.ensures.cells ∙ is

pub close_live-close_stuck-requires-clause-path : goal.close_live-close_stuck-requires-clause-path
close_live-close_stuck-requires-clause-path t c =
    let r = c.args.refuter.now in
    let q = get_or (constrained_params r.model) c.args.i 0 in
    let row = with_value c.args.cells.now q c.args.v in
    let is : c.enter.new.cells ≡ row =
    c.enter.ensures.cells ∙ ap (λ (tree : TreeView). with_value c.args.cells.now (get_or (constrained_params tree.model) c.args.i 0) c.args.v) c.tree.ensures in
    subst (IsPath r) (sym is) c.requires.path

pub close_live-close_stuck-requires-clause-unbroken : goal.close_live-close_stuck-requires-clause-unbroken
close_live-close_stuck-requires-clause-unbroken t c =
    let r = c.args.refuter.now in
    let q = get_or (constrained_params r.model) c.args.i 0 in
    let row = with_value c.args.cells.now q c.args.v in
    let is : c.enter.new.cells ≡ row =
    c.enter.ensures.cells ∙ ap (λ (tree : TreeView). with_value c.args.cells.now (get_or (constrained_params tree.model) c.args.i 0) c.args.v) c.tree.ensures in
    ap (breaks_a_rule r.model) is ∙ c.requires.unbroken

pub close_live-close_stuck-requires-clause-leafless : goal.close_live-close_stuck-requires-clause-leafless
close_live-close_stuck-requires-clause-leafless t c =
    let r = c.args.refuter.now in
    let q = get_or (constrained_params r.model) c.args.i 0 in
    let row = with_value c.args.cells.now q c.args.v in
    let is : c.enter.new.cells ≡ row =
    c.enter.ensures.cells ∙ ap (λ (tree : TreeView). with_value c.args.cells.now (get_or (constrained_params tree.model) c.args.i 0) c.args.v) c.tree.ensures in
    subst (HasNoLeaf r) (sym is) c.requires.leafless

pub close_live-returns-clause-closed : goal.close_live-returns-clause-closed
close_live-returns-clause-closed t c =
    let r = c.args.refuter.now in
    let q = get_or (constrained_params r.model) c.args.i 0 in
    let row = with_value c.args.cells.now q c.args.v in
    let is : c.enter.new.cells ≡ row =
    c.enter.ensures.cells ∙ ap (λ (tree : TreeView). with_value c.args.cells.now (get_or (constrained_params tree.model) c.args.i 0) c.args.v) c.tree.ensures in
    let first : get_or (set c.args.whys.now 0 c.close_stuck.new.why) 0 [] ≡ c.close_stuck.new.why =
    get_or-set_same c.args.whys.now 0 c.close_stuck.new.why [] (omega (arith, c.requires.room.enough)) in
    on_ok_weaker c.close_stuck.result (λ closed.
    subst (λ why. IsClosed r row why c.args.tokens.now.items c.close_stuck.new.tokens.items) (sym first)
    (subst (λ cells. IsClosed r cells c.close_stuck.new.why c.args.tokens.now.items c.close_stuck.new.tokens.items) is closed))
    c.close_stuck.ensures.closed

pub close_live-returns-clause-cells : goal.close_live-returns-clause-cells
close_live-returns-clause-cells t c =
    let r = c.args.refuter.now in
    let q = get_or (constrained_params r.model) c.args.i 0 in
    let row = with_value c.args.cells.now q c.args.v in
    let is : c.enter.new.cells ≡ row =
    c.enter.ensures.cells ∙ ap (λ (tree : TreeView). with_value c.args.cells.now (get_or (constrained_params tree.model) c.args.i 0) c.args.v) c.tree.ensures in
    c.close_stuck.ensures.same ∙ is

pub close_value-leaf_with-requires-clause-told : goal.close_value-leaf_with-requires-clause-told
close_value-leaf_with-requires-clause-told t c =
    let r = c.args.refuter.now in
    let path = c.args.cells.now in
    let q = get_or (constrained_params r.model) c.args.i 0 in
    let v = c.args.v in
    let k = c.constrained_at.result.now.param in
    let p : k ≡ q = param_is r c.tree.result.now c.constrained_at.result.now c.args.i c.tree.ensures c.constrained_at.ensures in
    subst (λ n. TellsOf r.model path c.args.sets.now n v) (sym p)
    (live_tells r path c.args.sets.now q v c.assert_invariant.ensures.positive c.requires.open.path c.requires.open.at.node.live
    (constrained_exists r.model c.args.i c.requires.place) c.requires.value c.requires.free)

pub close_value-add_token-requires-clause-leaf : goal.close_value-add_token-requires-clause-leaf
close_value-add_token-requires-clause-leaf t c =
    let r = c.args.refuter.now in
    let k = c.constrained_at.result.now.param in
    subst (λ cells. IsFirstLeaf r (with_value cells k c.args.v) (meant c.in-Some.token)) (sym c.leaf_with.ensures.same) c.in-Some.ensures.leaf

pub close_value-returns-in-Some-clause-closed : goal.close_value-returns-in-Some-clause-closed
close_value-returns-in-Some-clause-closed t c =
    let r = c.args.refuter.now in
    let path = c.args.cells.now in
    let q = get_or (constrained_params r.model) c.args.i 0 in
    let v = c.args.v in
    let k = c.constrained_at.result.now.param in
    let p : k ≡ q = param_is r c.tree.result.now c.constrained_at.result.now c.args.i c.tree.ensures c.constrained_at.ensures in
    let more = c.add_token.new.why in
    let token = meant c.in-Some.token in
    let grows = subst (λ n. Grows path n c.args.why.now more) p (subst (λ cells. Grows cells k c.args.why.now more) c.leaf_with.ensures.same
    c.add_token.ensures.grows) in
    let leaf = subst (λ n. IsLeafBetween r more path n v token) p (subst (λ cells. IsLeafBetween r more cells k v token) c.leaf_with.ensures.same
    c.add_token.ensures.leaf) in
    leaf_added r path q v c.args.why.now more c.in-Some.token c.args.tokens.now.items c.push.new.self.items c.in_ok-push.ensures.items grows leaf

pub close_value-close_live-closed-requires : goal.close_value-close_live-closed-requires
close_value-close_live-closed-requires t c =
    let r = c.args.refuter.now in
    let path = c.args.cells.now in
    let q = get_or (constrained_params r.model) c.args.i 0 in
    let v = c.args.v in
    let k = c.constrained_at.result.now.param in
    let p : k ≡ q = param_is r c.tree.result.now c.constrained_at.result.now c.args.i c.tree.ensures c.constrained_at.ensures in
    let row = with_value path q v in
    let same = c.leaf_with.ensures.same in
    let within = constrained_exists r.model c.args.i c.requires.place in
    let marked : mark_at c.args.sets.now.live q v ≡ true =
    ap (λ n. mark_at c.args.sets.now.live n v) (sym p) ∙ c.leaf_with.ensures.live c.in_default.is in
    let live = marked_value r path c.args.sets.now q v c.assert_invariant.ensures.positive c.requires.open.path c.requires.open.at.node.live within
    c.requires.value c.requires.free marked in
    let leafless : HasNoLeaf r row = subst (λ n. HasNoLeaf r (with_value path n v)) p (c.leaf_with.ensures.leafless c.in_default.is) in
    let kept = subst (λ (tree : TreeView). IsWitness tree c.put.new.self) c.tree-2.ensures c.put.ensures.witness in
    let put = c.put.ensures.row
    ∙ ap (λ (tree : TreeView). with_value c.args.witness.now.row (get_or (constrained_params tree.model) c.args.i 0) v) c.tree-2.ensures in
    let part : IsPart row c.put.new.self.row =
    subst (IsPart row) (sym put) (part_with path c.args.witness.now.row q v c.requires.open.at.part) in
    let at = λ (P : List (Option ℕ) → Type 0) (holds : P row). subst (λ cells. P (with_value cells q v)) (sym same) holds in
    let opened = open_with r path c.args.sets.now c.args.witness.now c.put.new.self c.requires.open kept
    (part_then path row c.put.new.self.row (part_set path q v c.requires.free) part) in (
      omega (arith, ap (λ cells. free_count cells) same),
      (
        c.requires.place,
        (
          ap (λ cells. is_assigned cells q) same ∙ c.requires.free,
          (
            c.requires.value,
            (
              subst (λ cells. IsOpen r cells c.args.sets.now c.put.new.self) (sym same) opened,
              (
                kept,
                (
                  at (λ cells. IsPart cells c.put.new.self.row) part,
                  (
                    at (IsPath r) (positive_value r path q v c.requires.open.path within c.requires.value live.positive),
                    (
                      at (λ cells. breaks_a_rule r.model cells ≡ false) live.unbroken,
                      (at (HasNoLeaf r) leafless, at (λ cells. HasRoom cells c.args.below.now) c.requires.room),
                    ),
                  ),
                ),
              ),
            ),
          ),
        ),
      ),
    )

pub close_value-returns-in_err-closed-clause-cells : goal.close_value-returns-in_err-closed-clause-cells
close_value-returns-in_err-closed-clause-cells t c =
    let r = c.args.refuter.now in
    let path = c.args.cells.now in
    let q = get_or (constrained_params r.model) c.args.i 0 in
    let v = c.args.v in
    let k = c.constrained_at.result.now.param in
    let p : k ≡ q = param_is r c.tree.result.now c.constrained_at.result.now c.args.i c.tree.ensures c.constrained_at.ensures in
    let same = c.leaf_with.ensures.same in
    let cells : c.clear_cell.new.self ≡ path =
    c.clear_cell.ensures ∙ ap (λ n. set c.close_live-closed.new.cells n None) p
    ∙ ap (λ row. set row q None) (c.close_live-closed.ensures.cells ∙ ap (λ start. with_value start q v) same)
    ∙ set_clear path q v (none_of (get_or path q None) c.requires.free) in
    cells

pub close_value-returns-then-is_none-clause-closed : goal.close_value-returns-then-is_none-clause-closed
close_value-returns-then-is_none-clause-closed t c =
    let r = c.args.refuter.now in
    let path = c.args.cells.now in
    let q = get_or (constrained_params r.model) c.args.i 0 in
    let v = c.args.v in
    let k = c.constrained_at.result.now.param in
    let p : k ≡ q = param_is r c.tree.result.now c.constrained_at.result.now c.args.i c.tree.ensures c.constrained_at.ensures in
    let same = c.leaf_with.ensures.same in
    let whys = c.close_live-closed.new.whys in
    let some : 0 < length whys = omega (arith, c.close_live-closed.ensures.keeps.as_many, c.requires.room.enough) in
    let reason = get_or whys 0 c.index-below-0.result in
    let closed : IsClosed r (with_value path q v) reason c.args.tokens.now.items c.close_live-closed.new.tokens.items =
    subst (λ why. IsClosed r (with_value path q v) why c.args.tokens.now.items c.close_live-closed.new.tokens.items)
    (get_or_default whys 0 [] c.index-below-0.result some)
    (subst (λ start. IsClosed r (with_value start q v) (get_or whys 0 []) c.args.tokens.now.items c.close_live-closed.new.tokens.items) same
    c.in_ok-closed.ensures.closed) in
    let unspoken : is_assigned reason q ≡ false =
    ap (is_assigned reason) (sym p) ∙ ap is_some (sym c.get.ensures) ∙ c.is_none.ensures ∙ ap not c.if-is_none.true in
    subst (λ why. ValueClosed r path q v c.args.why.now why c.args.tokens.now.items c.close_live-closed.new.tokens.items Whole) (sym c.copy_from.ensures)
    (path_whole r path q v c.args.why.now reason c.args.tokens.now.items c.close_live-closed.new.tokens.items c.requires.free unspoken closed)

pub close_value-returns-then-is_none-clause-keeps : goal.close_value-returns-then-is_none-clause-keeps
close_value-returns-then-is_none-clause-keeps t c =
    let r = c.args.refuter.now in
    let path = c.args.cells.now in
    let q = get_or (constrained_params r.model) c.args.i 0 in
    let v = c.args.v in
    let k = c.constrained_at.result.now.param in
    let p : k ≡ q = param_is r c.tree.result.now c.constrained_at.result.now c.args.i c.tree.ensures c.constrained_at.ensures in
    keeps_without r path q v c.close_live-closed.new.witness c.args.below.now c.close_live-closed.new.whys c.requires.free
    (subst (λ start. KeepsRoom r (with_value start q v) c.close_live-closed.new.witness c.args.below.now c.close_live-closed.new.whys)
    c.leaf_with.ensures.same c.close_live-closed.ensures.keeps)

pub close_value-returns-then-is_none-clause-cells : goal.close_value-returns-then-is_none-clause-cells
close_value-returns-then-is_none-clause-cells t c =
    let r = c.args.refuter.now in
    let path = c.args.cells.now in
    let q = get_or (constrained_params r.model) c.args.i 0 in
    let v = c.args.v in
    let k = c.constrained_at.result.now.param in
    let p : k ≡ q = param_is r c.tree.result.now c.constrained_at.result.now c.args.i c.tree.ensures c.constrained_at.ensures in
    let same = c.leaf_with.ensures.same in
    let cells : c.clear_cell.new.self ≡ path =
    c.clear_cell.ensures ∙ ap (λ n. set c.close_live-closed.new.cells n None) p
    ∙ ap (λ row. set row q None) (c.close_live-closed.ensures.cells ∙ ap (λ start. with_value start q v) same)
    ∙ set_clear path q v (none_of (get_or path q None) c.requires.free) in
    cells

pub close_value-add_reason-requires-clause-below : goal.close_value-add_reason-requires-clause-below
close_value-add_reason-requires-clause-below t c =
    let r = c.args.refuter.now in
    let path = c.args.cells.now in
    let q = get_or (constrained_params r.model) c.args.i 0 in
    let v = c.args.v in
    let k = c.constrained_at.result.now.param in
    let p : k ≡ q = param_is r c.tree.result.now c.constrained_at.result.now c.args.i c.tree.ensures c.constrained_at.ensures in
    let same = c.leaf_with.ensures.same in
    let cells : c.clear_cell.new.self ≡ path =
    c.clear_cell.ensures ∙ ap (λ n. set c.close_live-closed.new.cells n None) p
    ∙ ap (λ row. set row q None) (c.close_live-closed.ensures.cells ∙ ap (λ start. with_value start q v) same)
    ∙ set_clear path q v (none_of (get_or path q None) c.requires.free) in
    let whys = c.close_live-closed.new.whys in
    let some : 0 < length whys = omega (arith, c.close_live-closed.ensures.keeps.as_many, c.requires.room.enough) in
    let reason = get_or whys 0 c.index-below-0.result in
    let closed : IsClosed r (with_value path q v) reason c.args.tokens.now.items c.close_live-closed.new.tokens.items =
    subst (λ why. IsClosed r (with_value path q v) why c.args.tokens.now.items c.close_live-closed.new.tokens.items)
    (get_or_default whys 0 [] c.index-below-0.result some)
    (subst (λ start. IsClosed r (with_value start q v) (get_or whys 0 []) c.args.tokens.now.items c.close_live-closed.new.tokens.items) same
    c.in_ok-closed.ensures.closed) in
    subst (λ row. IsPart reason (with_value row k v)) (sym cells) (subst (λ n. IsPart reason (with_value path n v)) (sym p) closed.part)

pub close_value-returns-clause-closed : goal.close_value-returns-clause-closed
close_value-returns-clause-closed t c =
    let r = c.args.refuter.now in
    let path = c.args.cells.now in
    let q = get_or (constrained_params r.model) c.args.i 0 in
    let v = c.args.v in
    let k = c.constrained_at.result.now.param in
    let p : k ≡ q = param_is r c.tree.result.now c.constrained_at.result.now c.args.i c.tree.ensures c.constrained_at.ensures in
    let same = c.leaf_with.ensures.same in
    let cells : c.clear_cell.new.self ≡ path =
    c.clear_cell.ensures ∙ ap (λ n. set c.close_live-closed.new.cells n None) p
    ∙ ap (λ row. set row q None) (c.close_live-closed.ensures.cells ∙ ap (λ start. with_value start q v) same)
    ∙ set_clear path q v (none_of (get_or path q None) c.requires.free) in
    let whys = c.close_live-closed.new.whys in
    let some : 0 < length whys = omega (arith, c.close_live-closed.ensures.keeps.as_many, c.requires.room.enough) in
    let reason = get_or whys 0 c.index-below-0.result in
    let closed : IsClosed r (with_value path q v) reason c.args.tokens.now.items c.close_live-closed.new.tokens.items =
    subst (λ why. IsClosed r (with_value path q v) why c.args.tokens.now.items c.close_live-closed.new.tokens.items)
    (get_or_default whys 0 [] c.index-below-0.result some)
    (subst (λ start. IsClosed r (with_value start q v) (get_or whys 0 []) c.args.tokens.now.items c.close_live-closed.new.tokens.items) same
    c.in_ok-closed.ensures.closed) in
    let more = c.add_reason.new.why in
    let grows = subst (λ n. Grows path n c.args.why.now more) p (subst (λ row. Grows row k c.args.why.now more) cells c.add_reason.ensures.grows) in
    let part = subst (λ n. IsPart reason (with_value more n v)) p c.add_reason.ensures.part in
    path_added r path q v c.args.why.now more reason c.args.tokens.now.items c.close_live-closed.new.tokens.items grows part closed

pub close_value-returns-clause-keeps : goal.close_value-returns-clause-keeps
close_value-returns-clause-keeps t c =
    let r = c.args.refuter.now in
    let path = c.args.cells.now in
    let q = get_or (constrained_params r.model) c.args.i 0 in
    let v = c.args.v in
    let k = c.constrained_at.result.now.param in
    let p : k ≡ q = param_is r c.tree.result.now c.constrained_at.result.now c.args.i c.tree.ensures c.constrained_at.ensures in
    keeps_without r path q v c.close_live-closed.new.witness c.args.below.now c.close_live-closed.new.whys c.requires.free
    (subst (λ start. KeepsRoom r (with_value start q v) c.close_live-closed.new.witness c.args.below.now c.close_live-closed.new.whys)
    c.leaf_with.ensures.same c.close_live-closed.ensures.keeps)

pub close_value-returns-clause-cells : goal.close_value-returns-clause-cells
close_value-returns-clause-cells t c =
    let r = c.args.refuter.now in
    let path = c.args.cells.now in
    let q = get_or (constrained_params r.model) c.args.i 0 in
    let v = c.args.v in
    let k = c.constrained_at.result.now.param in
    let p : k ≡ q = param_is r c.tree.result.now c.constrained_at.result.now c.args.i c.tree.ensures c.constrained_at.ensures in
    let same = c.leaf_with.ensures.same in
    let cells : c.clear_cell.new.self ≡ path =
    c.clear_cell.ensures ∙ ap (λ n. set c.close_live-closed.new.cells n None) p
    ∙ ap (λ row. set row q None) (c.close_live-closed.ensures.cells ∙ ap (λ start. with_value start q v) same)
    ∙ set_clear path q v (none_of (get_or path q None) c.requires.free) in
    cells
