-- The node that a live value leads to.
use Rattle.std.proofs.Common.{◌≡◌, ℕ, ◌<◌, Bool, true, false, not, List, [], length, Option, unwrap_or, get_or, ◌∙◌, sym, ap, arith}
use Rattle.std.proofs.lemmas.Bool.{and_parts, not-true}
use Rattle.cov_model.specs.Fits.{FitsModel}
use Rattle.cov_model.specs.believed.Rows.{is_assigned, with_value}
use Rattle.cov_model.specs.believed.Sound.{param_at}
use Rattle.cov_model.proofs.CellLemmas.{assigned_within}
use Rattle.definitions.specs.believed.Demand.{is_among}
use Rattle.definitions.specs.Laws.{GivesListed}
use Rattle.definitions.specs.believed.Search.{breaks_a_rule, is_failing}
use Rattle.live_sets.specs.Trail.{LiveView, mark_at}
use Rattle.feasibility.specs.Live.{ShowsLive}
use Rattle.feasibility.specs.Tree.{IsListed, ListsValues, TreeView}
use Rattle.feasibility.proofs.Nodes.{FitsModel-with_value}
use Rattle.full_search.specs.Reasons.{IsPart}
use Rattle.full_search.specs.Searching.{IsAt}
use Rattle.full_search.specs.Witnesses.{IsWitness}
use Rattle.full_search.specs.declared.witness.Witness.{Witness}
use Rattle.full_search.proofs.GivenRows.{given_among}

-- with a value that is marked no constraint is No
pub marked_unbroken : (tree : TreeView) (cells : List (Option ℕ)) (sets : LiveView) (p v : ℕ) → ListsValues tree.model tree.values
    → ShowsLive tree.model tree.values cells sets → p < length tree.model.params → is_assigned cells p ≡ false → is_among (get_or tree.values p []) v ≡ true
    → mark_at sets.live p v ≡ true → breaks_a_rule tree.model (with_value cells p v) ≡ false
marked_unbroken tree cells sets p v values shows low free listed mark =
    not-true (breaks_a_rule tree.model (with_value cells p v))
    (and_parts (is_among (get_or tree.values p []) v) (not (breaks_a_rule tree.model (with_value cells p v)))
    (sym (shows.marks p v low (values.exist p v listed) free) ∙ mark)).1

-- a part of a row of listed values has listed values
pub listed_part : (lists : List (List ℕ)) (cells row : List (Option ℕ)) → GivesListed lists row → IsPart cells row → IsListed lists cells
listed_part lists cells row given part = record {
  long = part.long ∙ given.as_long;
  listed = λ p assigned.
      ap (λ (cell : Option ℕ). is_among (get_or lists p []) (unwrap_or cell 0)) (sym (part.same p assigned))
      ∙ given_among lists row p given (omega (arith, assigned_within cells p assigned, part.long, given.as_long));
}

-- the search goes on there, if it doesn't fail
pub entered_at : (tree : TreeView) (cells : List (Option ℕ)) (sets : LiveView) (witness : Witness) (p v : ℕ) (entered : Bool) → FitsModel tree.model cells
    → p < length tree.model.params → v < length (param_at tree.model.params p).values → entered ≡ true
    → entered ≡ not (is_failing tree.model tree.values (with_value cells p v)) → ShowsLive tree.model tree.values (with_value cells p v) sets
    → IsWitness tree witness → IsPart (with_value cells p v) witness.row → IsAt tree (with_value cells p v) sets witness
entered_at tree cells sets witness p v entered fits low exists is fails live kept part = record {
  node = record {
    fits = FitsModel-with_value tree.model cells p v fits low exists;
    node = not-true (is_failing tree.model tree.values (with_value cells p v)) (sym fails ∙ is);
    live = live;
  };
  listed = listed_part tree.values (with_value cells p v) witness.row kept.row part;
  kept = kept;
  part = part;
}
