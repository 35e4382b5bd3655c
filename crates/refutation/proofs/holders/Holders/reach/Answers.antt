use Rattle.std.proofs.Common.{List, ℕ, ◌∷◌, ◌++◌, [], length, get_or, ◌∙◌, ap, arith}
use Rattle.std.proofs.lemmas.List.{length_push}
use Rattle.refutation.proofs.HolderLemmas.{default_more}
use Rattle.refutation.proofs.holders.Holders.reach.Goals as goal

pub loop-preserved : goal.loop-preserved
loop-preserved c =
    let before = c.loop.self-inside.params.items in
    let pushed = c.in_ok-push.ensures.items ∙ ap (λ (list : List (List ℕ)). before ++ list ∷ []) c.new.ensures in
    record {
      long = omega (arith, ap length pushed, length_push before [], c.loop.invariant.long);
      same = λ q. ap (λ (lists : List (List (List ℕ))). get_or lists q []) pushed ∙ default_more before [] q ∙ c.loop.invariant.same q;
    }
