use Rattle.std.proofs.Common.{◌≡◌, ◌+◌, ◌<◌, ◌++◌, ◌∷◌, [], ℕ, Bool, cond, List, Option, All, length, get_or, take, filter, ◌∙◌, sym, ap, subst, arith}
use Rattle.std.proofs.lemmas.List.{append-nil}
use Rattle.cov_model.specs.contracts.slice.SlicePartialEq as equal
use Rattle.cov_model.specs.declared.slice.Slice.{Slice}
use Rattle.cov_model.specs.believed.Slices.{slice_of}
use Rattle.definitions.specs.believed.Growth.{is_of_slice}
use Rattle.ipog_grow.proofs.OfSlice.{slice_of-test, filter-more, seeds-long}
use Rattle.ipog_grow.proofs.seeds.seeds_of_slice.Goals as goal
use Rattle.ipog_grow.proofs.seeds.seeds_of_slice.Goals.{then-eq+in_ok-push, else-eq}

pub push-requires : goal.push-requires
push-requires c =
    let kept : List (List (Option ℕ)) = c.args.kept.now in
    let within : c.loop-i.i < length kept = omega (arith, c.loop-i-test.true, c.loop-i.auto.i-end, c.len-i-end.ensures) in
    let long = ap length (c.as_slice.ensures ∙ c.copy_from_slice.ensures ∙ c.row.ensures) ∙ (c.requires.fit c.loop-i.i [] within).as_long in
    subst (λ (rows : List (List (Option ℕ))). All (λ other. length other ≡ length c.as_slice.result.now) rows) (sym c.loop-i.invariant.rows)
    (seeds-long c.args.model.now c.args.slice kept c.loop-i.i c.as_slice.result.now c.requires.fit long)

pub loop-i-preserved : goal.loop-i-preserved
loop-i-preserved c =
    let kept : List (List (Option ℕ)) = c.args.kept.now in
    let i : ℕ = c.loop-i.i in
    let seed : List (Option ℕ) = get_or kept i [] in
    let of : List (Option ℕ) → Bool = is_of_slice c.args.model.now c.args.slice in
    let within : i < length kept = omega arith in
    let read : c.copy_from_slice.new.self ≡ seed = c.copy_from_slice.ensures ∙ c.row.ensures in
    let test : c.eq.result ≡ of seed =
    c.eq.ensures ∙ ap (λ (s : Slice). equal.TheImpl.eq-value.it s c.args.slice) (c.slice_of.ensures ∙ ap (slice_of c.args.model.now) read)
    ∙ slice_of-test c.args.model.now c.args.slice seed (c.requires.few i [] within) in
    let more : filter of (take (i + 1) kept) ≡ filter of (take i kept) ++ cond (of seed) (seed ∷ []) [] = filter-more of kept i [] within in
    record {
      rows = elim c.if-eq.branch [
        | then-eq+in_ok-push w ↦
            w.rows-is ∙ w.in_ok-push.ensures.ok ∙ ap (λ rows. rows ++ w.as_slice.result.now ∷ []) c.loop-i.invariant.rows
            ∙ ap (λ row. filter of (take i kept) ++ row ∷ []) (w.as_slice.ensures ∙ read)
            ∙ sym (more ∙ ap (λ (b : Bool). filter of (take i kept) ++ cond b (seed ∷ []) []) (sym test ∙ w.if-eq.true))
        | else-eq w ↦
            w.rows-is ∙ c.loop-i.invariant.rows
            ∙ sym (more ∙ ap (λ (b : Bool). filter of (take i kept) ++ cond b (seed ∷ []) []) (sym test ∙ w.if-eq.false) ∙ append-nil (filter of (take i kept)))
      ];
      long = ap length read ∙ (c.requires.fit i [] within).as_long;
    }
