use Rattle.std.proofs.Common.{◌≡◌, ℕ, ◌+◌, ◌-◌, ◌*◌, ◌<◌, ◌≤◌, ◌⊎◌, ◌∷◌, ◌++◌, [], ◌∙◌, None, Some, get_or, length, ap, sym, subst, arith, rules}
use Rattle.std.specs.Vec.{with_items}
use Rattle.std.proofs.lemmas.List.{with_items_is}
use Rattle.seq_cover.specs.Building.{IsBuilt}
use Rattle.seq_cover.specs.believed.OrderGrowth.{built_from, next_placed, with_next}
use Rattle.seq_cover.proofs.BuildLemmas.{built_more, gains_told, nothing_built}
use Rattle.seq_cover.proofs.RowLemmas.{build_step}
use Rattle.seq_cover.proofs.row.build_row.Goals as goal

pub loop-turn-init : goal.loop-turn-init
loop-turn-init c =
    let empty : c.new-row.result ≡ [] = search rules in
    let whole : c.args.count ≡ c.args.count - 0 = omega arith in
    let of : (c.args.opened.now.len ≡ 2) ⊎ (c.args.opened.now.len ≡ 3) = subst (λ k. (k ≡ 2) ⊎ (k ≡ 3)) (sym c.requires.len) c.requires.lens in
    let built = nothing_built c.args.opened.now c.args.count c.none-placed.result c.in_ok-gains.gains.items of c.none-placed.ensures
    (c.in_ok-gains.ensures.items_if_clones_equal (λ y same. same)) in (
      subst (λ row. IsBuilt c.args.opened.now c.args.count 0 row c.none-placed.result c.in_ok-gains.gains.items) (sym empty) built,
      λ pairs rows turned exist tells. ap (λ k. built_from c.args.count c.args.len pairs rows k []) whole ∙ ap (built_from c.args.count c.args.len pairs rows (c.args.count - 0)) (sym empty),
    )

pub returns-in_default-clause-value : goal.returns-in_default-clause-value
returns-in_default-clause-value c = λ pairs rows turned exist tells.
    let n = c.args.count in
    let len = c.args.len in
    let row = c.loop-turn.row in
    let k = n - c.loop-turn.turn in
    let built = c.loop-turn.invariant.0 in
    let told = gains_told c.args.opened.now n len c.loop-turn.turn rows row c.loop-turn.placed c.loop-turn.gains.items
    c.as_slice.result.now built c.requires.len c.requires.lens tells c.as_slice.ensures.value in
    let long : length c.as_slice.result.now ≡ n = ap length c.as_slice.ensures.value ∙ built.long in
    let next : None ≡ next_placed n len pairs rows row =
    sym c.in_default.is ∙ c.next_placed.ensures.value pairs rows row len turned exist built.placed_are told ∙ ap (λ m. next_placed m len pairs rows row) long in
    sym (c.loop-turn.invariant.1 pairs rows turned exist tells ∙ build_step n len pairs rows k row (omega arith) ∙ ap (λ o. with_next o row (built_from n len pairs rows (k - 1))) (sym next))

pub returns-in_default-clause-few : goal.returns-in_default-clause-few
returns-in_default-clause-few c =
    let short = c.loop-turn.invariant.0.short in let most = c.requires.count in let test = c.loop-turn-test.true in omega (arith, short, most, test)

pub raise-requires-clause-few : goal.raise-requires-clause-few
raise-requires-clause-few c = λ k d within.
    let is = c.as_mut_slice.ensures.value in
    let most = c.requires.count in
    let test = c.loop-turn-test.true in
    let few : (k : ℕ) (d : ℕ) → k < length c.as_mut_slice.result.now → get_or c.as_mut_slice.result.now k d ≤ 64 * c.loop-turn.turn =
    subst (λ l. (k : ℕ) (d : ℕ) → k < length l → get_or l k d ≤ 64 * c.loop-turn.turn) (sym is) c.loop-turn.invariant.0.few in
    let here = few k d within in
    omega (arith, here, most, test)

pub loop-turn-preserved : goal.loop-turn-preserved
loop-turn-preserved c =
    let n = c.args.count in
    let len = c.args.len in
    let o = c.args.opened.now in
    let row = c.loop-turn.row in
    let turn = c.loop-turn.turn in
    let k = n - turn in
    let event = c.in-Some.event in
    let built = c.loop-turn.invariant.0 in
    let pushed : c.push.new.self ≡ row ++ event ∷ [] = search rules in
    let read = c.as_slice.ensures.value in
    let long : length c.as_slice.result.now ≡ n = ap length read ∙ built.long in
    let below : event < n = subst (λ m. event < m) long c.in-Some.ensures.below in
    let is = c.as_mut_slice.ensures.value in
    let more = built_more o n turn row c.loop-turn.placed c.with-placed.result c.as_mut_slice.result.now c.raise.new.gains event c.requires.count
    (subst (IsBuilt o n turn row c.loop-turn.placed) (sym is) built) below c.in-Some.ensures.left c.raise.ensures.long c.raise.ensures.value c.raise.ensures.few c.with-placed.ensures in
    let written = with_items_is c.loop-turn.gains c.raise.new.gains (c.raise.ensures.long ∙ ap length is ∙ sym c.loop-turn.gains.ok.0) in (
      subst (λ l. IsBuilt o n (turn + 1) l c.with-placed.result (with_items c.loop-turn.gains c.raise.new.gains).items) (sym pushed)
          (subst (IsBuilt o n (turn + 1) (row ++ event ∷ []) c.with-placed.result) (sym written) more),
      λ pairs rows turned exist tells.
          let told = gains_told o n len turn rows row c.loop-turn.placed c.loop-turn.gains.items c.as_slice.result.now built c.requires.len c.requires.lens tells read in
          let next : Some event ≡ next_placed n len pairs rows row =
          sym c.in-Some.is ∙ c.next_placed.ensures.value pairs rows row len turned exist built.placed_are told ∙ ap (λ m. next_placed m len pairs rows row) long in
          let fewer : k - 1 ≡ n - (turn + 1) = omega arith in
          c.loop-turn.invariant.1 pairs rows turned exist tells ∙ build_step n len pairs rows k row (omega arith)
          ∙ ap (λ found. with_next found row (built_from n len pairs rows (k - 1))) (sym next)
          ∙ ap (λ m. built_from n len pairs rows m (row ++ event ∷ [])) fewer
          ∙ ap (built_from n len pairs rows (n - (turn + 1))) (sym pushed),
    )

pub returns-clause-value : goal.returns-clause-value
returns-clause-value c = λ pairs rows turned exist tells.
    let none : c.args.count - c.loop-turn.turn ≡ 0 = let done = c.loop-turn-test.false in omega (arith, done) in
    sym (c.loop-turn.invariant.1 pairs rows turned exist tells ∙ ap (λ k. built_from c.args.count c.args.len pairs rows k c.loop-turn.row) none)

pub returns-clause-few : goal.returns-clause-few
returns-clause-few c =
    let short = c.loop-turn.invariant.0.short in let most = c.requires.count in let test = c.loop-turn.auto.turn-end in omega (arith, short, most, test)
