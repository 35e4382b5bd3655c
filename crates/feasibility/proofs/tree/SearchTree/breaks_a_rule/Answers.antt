use Rattle.std.proofs.Common.{◌≡◌, ◌+◌, ◌<◌, ◌++◌, ◌∙◌, ℕ, Bool, List, [], false, is_some, if◌then◌else◌, take, length, get_or, sym, ap, subst, arith, append-nil}
use Rattle.std.proofs.lemmas.Bool.{or_from}
use Rattle.std.proofs.lemmas.List.{take_all}
use Rattle.std.proofs.lemmas.List.Folds.{list_any-append}
use Rattle.cov_model.specs.believed.Rows.{is_assigned, value_in}
use Rattle.definitions.specs.believed.Search.{constrained_params}
use Rattle.feasibility.specs.Live.{AreRules, IsUnbrokenBefore, breaks_one, no_on, undecided_of}
use Rattle.feasibility.specs.Tree.{undecided}
use Rattle.feasibility.proofs.Broken.{breaks_of}
use Rattle.feasibility.proofs.Earlier.{unbroken_before}
use Rattle.feasibility.proofs.Naming.{constrained_exists, has_given, undecided_of_more}
use Rattle.feasibility.proofs.SafeValues.{broken_by_values}
use Rattle.feasibility.proofs.tree.SearchTree.breaks_a_rule.Goals as goal
use Rattle.feasibility.proofs.tree.SearchTree.breaks_a_rule.Goals.{in-Some+else-breaks_one, in_default}

pub get-requires : goal.get-requires
get-requires c =
    let within : c.loop-i.i < length (constrained_params c.args.self.now.model) = omega (arith, c.loop-i.invariant.count) in
    omega (
      arith,
      constrained_exists c.args.self.now.model c.loop-i.i within,
      ap (λ entry. entry.param) c.constrained_at-named.ensures,
      c.requires.fits.as_long,
    )

pub list-rules-requires : goal.list-rules-requires
list-rules-requires c =
    (has_given c.args.self.now.model c.args.cells.now (get_or (constrained_params c.args.self.now.model) c.loop-i.i 0) c.in-Some.v
    c.constrained_at-named.result.now c.assert_invariant.ensures.sound c.requires.fits c.constrained_at-named.ensures (sym c.get.ensures ∙ c.in-Some.is)).within

pub breaks_one-requires-clause-exist : goal.breaks_one-requires-clause-exist
breaks_one-requires-clause-exist c =
    let has = has_given c.args.self.now.model c.args.cells.now (get_or (constrained_params c.args.self.now.model) c.loop-i.i 0) c.in-Some.v
    c.constrained_at-named.result.now c.assert_invariant.ensures.sound c.requires.fits c.constrained_at-named.ensures (sym c.get.ensures ∙ c.in-Some.is) in
    subst (AreRules c.args.self.now.model) (sym c.list-rules.ensures) has.exist

pub breaks_one-requires-clause-seen : goal.breaks_one-requires-clause-seen
breaks_one-requires-clause-seen c =
    let m = c.args.self.now.model in
    let within : c.loop-i.i < length (constrained_params m) = omega (arith, c.loop-i.invariant.count) in
    subst (λ (p : ℕ). IsUnbrokenBefore m p c.args.cells.now) (sym (ap (λ entry. entry.param) c.constrained_at-named.ensures))
    (unbroken_before m c.args.cells.now c.loop-i.i c.assert_invariant.ensures.sound c.requires.fits.as_long within c.loop-i.invariant.whole)

pub returns-then-breaks_one : goal.returns-then-breaks_one
returns-then-breaks_one c =
    let has = has_given c.args.self.now.model c.args.cells.now (get_or (constrained_params c.args.self.now.model) c.loop-i.i 0) c.in-Some.v
    c.constrained_at-named.result.now c.assert_invariant.ensures.sound c.requires.fits c.constrained_at-named.ensures (sym c.get.ensures ∙ c.in-Some.is) in
    sym (breaks_of c.args.self.now.model c.list-rules.result.now c.args.cells.now (subst (AreRules c.args.self.now.model) (sym c.list-rules.ensures) has.exist)
    (sym c.breaks_one.ensures ∙ c.if-breaks_one.true))

pub loop-i-preserved : goal.loop-i-preserved
loop-i-preserved c =
    let m = c.args.self.now.model in
    let cells = c.args.cells.now in
    let p = get_or (constrained_params m) c.loop-i.i 0 in
    let within : c.loop-i.i < length (constrained_params m) = omega (arith, c.loop-i.invariant.count) in
    let done = undecided_of m cells (take c.loop-i.i (constrained_params m)) in
    let more = undecided_of_more m cells (constrained_params m) c.loop-i.i within in
    elim c.match-get.branch [
      | in-Some+else-breaks_one w ↦
          let has = has_given m cells p w.in-Some.v c.constrained_at-named.result.now c.assert_invariant.ensures.sound c.requires.fits
          c.constrained_at-named.ensures (sym c.get.ensures ∙ w.in-Some.is) in
          record {
            count = c.loop-i.invariant.count;
            whole = ap (λ (numbers : List ℕ). breaks_one m numbers cells) (more ∙ ap (λ (numbers : List ℕ). done ++ numbers) has.given)
                ∙ list_any-append (no_on m cells) done (undecided m p w.in-Some.v)
                ∙ or_from (breaks_one m done cells) (breaks_one m (undecided m p w.in-Some.v) cells) c.loop-i.invariant.whole
                (ap (λ (numbers : List ℕ). breaks_one m numbers cells) (sym (w.list-rules.ensures ∙ has.list)) ∙ sym w.breaks_one.ensures ∙ w.if-breaks_one.false);
          }
      | in_default w ↦
          let free : is_assigned cells p ≡ false =
          ap (λ entry. is_assigned cells entry.param) (sym c.constrained_at-named.ensures) ∙ ap is_some (sym c.get.ensures ∙ w.in_default.is) in
          record {
            count = c.loop-i.invariant.count;
            whole = ap (λ (numbers : List ℕ). breaks_one m numbers cells)
                (more ∙ ap (λ (b : Bool). done ++ (if b then undecided m p (value_in cells p) else [])) free ∙ append-nil done)
                ∙ c.loop-i.invariant.whole;
          }
    ]

pub returns : goal.returns
returns c =
    let m = c.args.self.now.model in
    let all = take_all c.loop-i.i (constrained_params m) (omega (arith, c.loop-i.invariant.count)) in
    sym (broken_by_values m c.args.cells.now c.assert_invariant.ensures.sound c.requires.fits.as_long c.requires.whole
    ∙ ap (λ (params : List ℕ). breaks_one m (undecided_of m c.args.cells.now params) c.args.cells.now) (sym all) ∙ c.loop-i.invariant.whole)
