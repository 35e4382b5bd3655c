use Rattle.std.proofs.Common.{◌≡◌, ◌+◌, [], ◌∷◌, ◌++◌, ℕ, Bool, true, false, cond, List, map, length, get_or, filter, ◌∙◌, sym, ap, arith}
use Rattle.std.specs.List.{range_with_len}
use Rattle.std.proofs.lemmas.List.{append-nil, append_assoc, get_or_default}
use Rattle.std.proofs.lemmas.Grind.{common_steps}
use Rattle.cov_model.specs.declared.slice.Slice.{Slice}
use Rattle.cov_model.specs.declared.slice.Slice.TheVariants.{Negative}
use Rattle.cov_model.specs.believed.Meaning.{value_at, no_value}
use Rattle.cov_model.specs.believed.Sound.{param_at}
use Rattle.cov_model.specs.declared.parameter.Value.{Value}
use Rattle.ipog_grow.proofs.SliceSteps.{passing-more}
use Rattle.ipog_grow.proofs.slices.push_negatives.Goals as goal
use Rattle.ipog_grow.proofs.slices.push_negatives.Goals.{then-values-v+in_ok-push, else-values-v}

pub loop-v-preserved : goal.loop-v-preserved
loop-v-preserved c =
    let test : ℕ → Bool = λ v. (value_at c.args.model.now c.args.p v).negative in
    let put : ℕ → Slice = λ v. Negative c.args.p v in
    let old : List Slice = c.args.list.now.items ++ map put (filter test (range_with_len 0 c.loop-v.v)) in
    let reads = ap (λ (value : Value). value.negative) c.index-values-v.is in
    let is : c.index-values-v.result.negative ≡ test c.loop-v.v =
    ap (λ (value : Value). value.negative)
    (c.index-values-v.is ∙ ap (λ (values : List Value). get_or values c.loop-v.v c.index-values-v.result) c.loop-v.invariant.0
    ∙ get_or_default (param_at c.args.model.now.params c.args.p).values c.loop-v.v c.index-values-v.result no_value
    (omega (arith, c.loop-v-test.true, ap length c.loop-v.invariant.0))) in (
      c.loop-v.invariant.0,
      c.loop-v.invariant.1,
      elim c.if-values-v.branch [
        | then-values-v+in_ok-push w ↦
            let pushed : w.push.new.self.items ≡ c.loop-v.list.items ++ put c.loop-v.v ∷ [] = grind (arith, common_steps) in
            ap (λ list. list.items) w.list-is ∙ pushed ∙ ap (λ items. items ++ put c.loop-v.v ∷ []) c.loop-v.invariant.2
            ∙ more test put c.loop-v.v c.args.list.now.items true (sym is ∙ reads ∙ w.if-values-v.true)
        | else-values-v w ↦
            ap (λ list. list.items) w.list-is ∙ c.loop-v.invariant.2 ∙ sym (append-nil old)
            ∙ more test put c.loop-v.v c.args.list.now.items false (sym is ∙ reads ∙ w.if-values-v.false)
      ],
    )
  where
    more : (test : ℕ → Bool) (put : ℕ → Slice) (v : ℕ) (start : List Slice) (b : Bool) → test v ≡ b
        → (start ++ map put (filter test (range_with_len 0 v))) ++ cond b (put v ∷ []) [] ≡ start ++ map put (filter test (range_with_len 0 (v + 1)))
    more test put v start b is =
        append_assoc start (map put (filter test (range_with_len 0 v))) (cond b (put v ∷ []) [])
        ∙ ap (λ rest. start ++ rest) (ap (λ (k : Bool). map put (filter test (range_with_len 0 v)) ++ cond k (put v ∷ []) []) (sym is)
        ∙ sym (passing-more test put v))
