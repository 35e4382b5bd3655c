-- The reason of a path on which a constraint is No.
use Rattle.std.proofs.Common.{◌≡◌, ℕ, ◌<◌, ◌≤◌, true, List, Option, None, length, get_or, inl, inr, ◌∙◌, sym, ap, arith}
use Rattle.std.proofs.lemmas.Bool.{cases_eq}
use Rattle.std.proofs.lemmas.List.{get_or_past}
use Rattle.cov_model.specs.Sound.{rule_at}
use Rattle.definitions.specs.believed.Demand.{is_among}
use Rattle.definitions.specs.believed.Search.{body_params, is_no}
use Rattle.feasibility.specs.Live.{no_on}
use Rattle.feasibility.specs.Tree.{TreeView}
use Rattle.feasibility.proofs.Local.{agree_each, local_body}
use Rattle.full_search.specs.Reasons.{Grows, HasMembers, IsReason}
use Rattle.full_search.proofs.Parts.{no_row_broken}

-- a part with what the path gives the parameters that the constraint names, where all parameters are below a number
pub broken_reason : (tree : TreeView) (path why : List (Option ℕ)) (k p : ℕ) → length path ≤ p → 0 < k → k ≤ length tree.model.rules
    → no_on tree.model path k ≡ true → Grows path p why why → HasMembers tree.model k p path why → IsReason tree path why
broken_reason tree path why k p past some most is grows has = record {
  part = grows.part;
  none = no_row_broken tree why k some most
      (ap is_no (local_body tree.model (rule_at tree.model k).body why path (agree_each (body_params (rule_at tree.model k).body) why path same)).0 ∙ is);
}
  where
    same : (q : ℕ) → is_among (body_params (rule_at tree.model k).body) q ≡ true → get_or why q None ≡ get_or path q None
    same q named =
        elim (cases_eq q p) [
          | inl here ↦ get_or_past why q None (omega (arith, past, here, grows.part.long)) ∙ sym (get_or_past path q None (omega (arith, past, here)))
          | inr differs ↦ has q differs named
        ]
