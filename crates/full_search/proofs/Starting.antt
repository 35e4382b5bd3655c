-- Where a search begins.
use Rattle.std.proofs.Common.{◌≡◌, ℕ, ◌+◌, false, List, length, replicate, All, Option, None, is_none, ◌∙◌, sym, ap, subst, arith}
use Rattle.std.proofs.lemmas.List.{get_or-replicate, length-replicate}
use Rattle.std.proofs.lemmas.List.Sums.{count_by-le-length}
use Rattle.cov_model.specs.Fits.{FitsModel}
use Rattle.cov_model.specs.believed.Sound.{ModelView}
use Rattle.definitions.specs.believed.Search.{is_failing}
use Rattle.live_sets.specs.Trail.{LiveView}
use Rattle.feasibility.specs.Live.{ShowsLive}
use Rattle.feasibility.specs.Tree.{TreeView, IsListed, ListsValues}
use Rattle.full_search.specs.FullSearch.{HasReasons}
use Rattle.full_search.specs.Reasons.{IsPart}
use Rattle.full_search.specs.Searching.{HasRoom, IsAt}
use Rattle.full_search.specs.Witnesses.{IsWitness}
use Rattle.full_search.specs.declared.witness.Witness.{Witness}

-- listed values exist
pub started_fits : (tree : TreeView) (cells : List (Option ℕ)) → ListsValues tree.model tree.values → IsListed tree.values cells → FitsModel tree.model cells
started_fits tree cells values listed = record {
  as_long = listed.long ∙ values.as_many;
  exist = λ p assigned. values.exist p _ (listed.listed p assigned);
}

-- a node of listed values that doesn't fail
pub started_at : (tree : TreeView) (cells : List (Option ℕ)) (sets : LiveView) (witness : Witness) → ListsValues tree.model tree.values
    → IsListed tree.values cells → is_failing tree.model tree.values cells ≡ false → ShowsLive tree.model tree.values cells sets → IsWitness tree witness
    → IsPart cells witness.row → IsAt tree cells sets witness
started_at tree cells sets witness values listed fine live kept part = record {
  node = record { fits = started_fits tree cells values listed; node = fine; live = live };
  listed = listed;
  kept = kept;
  part = part;
}

-- there are reasons enough for any path
pub reasons_room : (m : ModelView) (cells : List (Option ℕ)) (whys : List (List (Option ℕ))) → length cells ≡ length m.params → HasReasons m whys
    → HasRoom cells whys
reasons_room m cells whys long reasons = record {
  enough = omega (arith, count_by-le-length is_none cells, long, reasons.enough);
  long = subst (λ (n : ℕ). All (λ why. length why ≡ n) whys) (sym long) reasons.long;
}

pub room_reasons : (m : ModelView) (cells : List (Option ℕ)) (old whys : List (List (Option ℕ))) → length cells ≡ length m.params → HasReasons m old
    → length whys ≡ length old → All (λ why. length why ≡ length cells) whys → HasReasons m whys
room_reasons m cells old whys long reasons same each = record {
  enough = omega (arith, reasons.enough, same);
  long = subst (λ (n : ℕ). All (λ why. length why ≡ n) whys) long each;
}

-- one reason more than parameters, each without a value
pub reasons_new : (m : ModelView) (count : ℕ) (whys : List (List (Option ℕ))) → count ≡ length m.params
    → whys ≡ replicate (count + 1) (replicate count None) → HasReasons m whys
reasons_new m count whys same are = record {
  enough = omega (arith, ap length are, length-replicate (count + 1) (replicate {A = Option ℕ} count None), same);
  long = subst (λ (list : List (List (Option ℕ))). All (λ why. length why ≡ length m.params) list) (sym are)
      (λ k d within.
      ap length (get_or-replicate (count + 1) k (replicate {A = Option ℕ} count None) d
      (omega (arith, within, length-replicate (count + 1) (replicate {A = Option ℕ} count None))))
      ∙ length-replicate count None ∙ same);
}
