-- What a node tells once its values were tried.
use Rattle.std.proofs.Common.{◌≡◌, ℕ, ◌+◌, ◌<◌, ◌≤◌, Bool, true, false, List, [], ◌++◌, length, take, All, Option, Some, get_or, set, ◌∙◌, sym, subst, refl, arith}
use Rattle.std.proofs.lemmas.Bool.{false≢true}
use Rattle.std.proofs.lemmas.List.{length-set}
use Rattle.cov_model.specs.believed.Rows.{is_assigned, with_value}
use Rattle.cov_model.proofs.CellLemmas.{contains-from}
use Rattle.definitions.specs.believed.Completion.{meets_rules}
use Rattle.feasibility.specs.Tree.{TreeView}
use Rattle.full_search.specs.Reasons.{Grows, HasNoRow, IsPart, IsReason}
use Rattle.full_search.specs.Searching.{HasRoom, SearchTells, TriedTells}
use Rattle.full_search.specs.Witnesses.{IsWitness}
use Rattle.full_search.specs.declared.searching.Tried.{Tried}
use Rattle.full_search.specs.declared.searching.Tried.TheVariants.{Found, Jumped, Refuted}
use Rattle.full_search.specs.declared.witness.Witness.{Witness}
use Rattle.full_search.proofs.Parts.{no_row_of, part_set, part_then, part_with, part_without, row_of}
use Rattle.full_search.proofs.Grown.{grows_on}
use Rattle.full_search.proofs.Rooms.{IsJoined, IsSplit, joined_room}
use Rattle.full_search.proofs.Values.{Tries, tries_again, tries_all, tries_more}

-- of a node the witness's value and some others are refuted
pub record Branches (tree : TreeView) (cells : List (Option ℕ)) (p own : ℕ) (done : List ℕ) (whys : List (List (Option ℕ))) (witness : Witness)
    (why : List (Option ℕ)) (below : List (List (Option ℕ))) : Type 0 where
  pub kept : IsWitness tree witness
  pub part : IsPart cells witness.row
  pub as_many : length below + 1 ≡ length whys
  pub long : All (λ why. length why ≡ length cells) below
  pub refuted : HasNoRow tree (with_value why p own)
  pub tries : Tries tree cells p done why

-- after the witness's value
pub branches_first : (tree : TreeView) (cells : List (Option ℕ)) (p own : ℕ) (tried : Tried) (witness : Witness) (why_old why_new : List (Option ℕ))
    (old new whys : List (List (Option ℕ))) → length old + 1 ≡ length whys → tried ≡ Refuted → TriedTells tree cells p own tried witness why_old why_new old new
    → Branches tree cells p own [] whys witness why_new new
branches_first tree cells p own tried witness why_old why_new old new whys same is told =
    let by = told.refuted is in
    record {
      kept = told.kept;
      part = told.part;
      as_many = omega (arith, told.as_many, same);
      long = told.long;
      refuted = by.refuted;
      tries = record { grows = grows_on cells p why_old why_new by.grows; each = λ v none. absurd (false≢true none) };
    }

-- after one more of the others
pub branches_more : (tree : TreeView) (cells : List (Option ℕ)) (p own : ℕ) (values : List ℕ) (i : ℕ) (tried : Tried) (before witness : Witness)
    (why_old why_new : List (Option ℕ)) (old new whys : List (List (Option ℕ))) → i < length values → tried ≡ Refuted
    → TriedTells tree cells p (get_or values i 0) tried witness why_old why_new old new → Branches tree cells p own (take i values) whys before why_old old
    → Branches tree cells p own (take (i + 1) values) whys witness why_new new
branches_more tree cells p own values i tried before witness why_old why_new old new whys within is told so_far =
    let by = told.refuted is in
    record {
      kept = told.kept;
      part = told.part;
      as_many = omega (arith, told.as_many, so_far.as_many);
      long = told.long;
      refuted = no_row_of tree (with_value why_old p own) (with_value why_new p own) so_far.refuted (part_with why_old why_new p own by.grows.kept);
      tries = tries_more tree cells p values i why_old why_new within so_far.tries by;
    }

pub branches_again : (tree : TreeView) (cells : List (Option ℕ)) (p own : ℕ) (values : List ℕ) (i : ℕ) (witness : Witness) (why : List (Option ℕ))
    (below whys : List (List (Option ℕ))) → i < length values → get_or values i 0 ≡ own → Branches tree cells p own (take i values) whys witness why below
    → Branches tree cells p own (take (i + 1) values) whys witness why below
branches_again tree cells p own values i witness why below whys within same so_far = record {
  kept = so_far.kept;
  part = so_far.part;
  as_many = so_far.as_many;
  long = so_far.long;
  refuted = so_far.refuted;
  tries = tries_again tree cells p values i own why within so_far.tries same so_far.refuted;
}

-- where two ways of an iteration meet
pub branches_join : (tree : TreeView) (cells : List (Option ℕ)) (p own : ℕ) (done : List ℕ) (whys : List (List (Option ℕ))) (first witness : Witness)
    (why_first why : List (Option ℕ)) (below_first below : List (List (Option ℕ))) → first ≡ witness → why_first ≡ why → below_first ≡ below
    → Branches tree cells p own done whys witness why below → Branches tree cells p own done whys first why_first below_first
branches_join tree cells p own done whys first witness why_first why below_first below same also too branches =
    subst (λ (w : Witness). Branches tree cells p own done whys w why_first below_first) (sym same)
    (subst (λ (reason : List (Option ℕ)). Branches tree cells p own done whys witness reason below_first) (sym also)
    (subst (Branches tree cells p own done whys witness why) (sym too) branches))

-- ---- what the node tells then

-- the witness met every constraint
pub told_met : (tree : TreeView) (cells : List (Option ℕ)) (witness : Witness) (whys : List (List (Option ℕ))) → IsWitness tree witness
    → IsPart cells witness.row → HasRoom cells whys → meets_rules tree.model witness.row ≡ true → SearchTells tree cells true witness whys whys
told_met tree cells witness whys kept part room meets = record {
  yes = λ found. record { listed = kept.row; contained = contains-from witness.row cells part.same; meets = meets };
  no = λ none. absurd (false≢true (sym none));
  kept = kept;
  part = part;
  as_many = refl;
  long = room.long;
}

-- the reasons are joined again
pub tried_room : (tree : TreeView) (cells : List (Option ℕ)) (p v : ℕ) (tried : Tried) (witness : Witness) (why_old why_new : List (Option ℕ))
    (old new whys own below : List (List (Option ℕ))) → IsSplit cells whys own below → length old + 1 ≡ length whys → length why_old ≡ length cells
    → TriedTells tree cells p v tried witness why_old why_new old new → IsJoined cells why_new whys (set own 0 why_new ++ new)
tried_room tree cells p v tried witness why_old why_new old new whys own below split as_many long told =
    joined_room cells why_new whys own below new split (told.same ∙ long) (omega (arith, told.as_many, as_many)) told.long

pub told_found : (tree : TreeView) (cells : List (Option ℕ)) (p v : ℕ) (tried : Tried) (witness : Witness) (why_old why_new : List (Option ℕ))
    (old new whys joined : List (List (Option ℕ))) → tried ≡ Found → TriedTells tree cells p v tried witness why_old why_new old new
    → IsJoined cells why_new whys joined → SearchTells tree cells true witness whys joined
told_found tree cells p v tried witness why_old why_new old new whys joined is told room = record {
  yes = λ found. told.row is;
  no = λ none. absurd (false≢true (sym none));
  kept = told.kept;
  part = told.part;
  as_many = room.as_many;
  long = room.long;
}

pub told_jumped : (tree : TreeView) (cells : List (Option ℕ)) (p v : ℕ) (tried : Tried) (witness : Witness) (why_old why_new : List (Option ℕ))
    (old new whys joined : List (List (Option ℕ))) → tried ≡ Jumped → TriedTells tree cells p v tried witness why_old why_new old new
    → IsJoined cells why_new whys joined → SearchTells tree cells false witness whys joined
told_jumped tree cells p v tried witness why_old why_new old new whys joined is told room = record {
  yes = λ found. absurd (false≢true found);
  no = λ none. subst (IsReason tree cells) (sym room.first) (told.jumped is);
  kept = told.kept;
  part = told.part;
  as_many = room.as_many;
  long = room.long;
}

pub told_refuted : (tree : TreeView) (cells : List (Option ℕ)) (p own : ℕ) (values : List ℕ) (i : ℕ) (witness : Witness) (why : List (Option ℕ))
    (below whys joined : List (List (Option ℕ))) → p < length tree.values → values ≡ get_or tree.values p [] → length values ≤ i
    → Branches tree cells p own (take i values) whys witness why below → IsJoined cells why whys joined → SearchTells tree cells false witness whys joined
told_refuted tree cells p own values i witness why below whys joined within is whole branches room = record {
  yes = λ found. absurd (false≢true found);
  no = λ none. subst (IsReason tree cells) (sym room.first) (tries_all tree cells p values i why within is whole branches.tries);
  kept = branches.kept;
  part = branches.part;
  as_many = room.as_many;
  long = room.long;
}

-- ---- what a value tells

-- what a search of the path with the value told, once it is taken away again
pub record ToldBelow (tree : TreeView) (cells : List (Option ℕ)) (witness : Witness) (old new : List (List (Option ℕ))) : Type 0 where
  pub kept : IsWitness tree witness
  pub part : IsPart cells witness.row
  pub as_many : length new ≡ length old
  pub long : All (λ why. length why ≡ length cells) new

told_below : (tree : TreeView) (cells : List (Option ℕ)) (p v : ℕ) (found : Bool) (witness : Witness) (old new : List (List (Option ℕ)))
    → is_assigned cells p ≡ false → SearchTells tree (with_value cells p v) found witness old new → ToldBelow tree cells witness old new
told_below tree cells p v found witness old new free told = record {
  kept = told.kept;
  part = part_then cells (with_value cells p v) witness.row (part_set cells p v free) told.part;
  as_many = told.as_many;
  long = subst (λ (n : ℕ). All (λ why. length why ≡ n) new) (length-set cells p (Some v)) told.long;
}

pub tried_found : (tree : TreeView) (cells : List (Option ℕ)) (p v : ℕ) (found : Bool) (witness : Witness) (why : List (Option ℕ))
    (old new : List (List (Option ℕ))) → is_assigned cells p ≡ false → found ≡ true → SearchTells tree (with_value cells p v) found witness old new
    → TriedTells tree cells p v Found witness why why old new
tried_found tree cells p v found witness why old new free is told =
    let below = told_below tree cells p v found witness old new free told in
    record {
      row = λ e. row_of tree cells (with_value cells p v) witness.row (told.yes is) (part_set cells p v free);
      refuted = λ e. absurd (found_refuted e);
      jumped = λ e. absurd (found_jumped e);
      kept = below.kept;
      part = below.part;
      same = refl;
      as_many = below.as_many;
      long = below.long;
    }
  where
    found_refuted : Found ≡ Refuted → ⊥
    found_refuted e = cc

    found_jumped : Found ≡ Jumped → ⊥
    found_jumped e = cc

pub tried_jumped : (tree : TreeView) (cells : List (Option ℕ)) (p v : ℕ) (found : Bool) (witness : Witness) (why_old why_new : List (Option ℕ))
    (old new : List (List (Option ℕ))) → is_assigned cells p ≡ false → found ≡ false → SearchTells tree (with_value cells p v) found witness old new
    → length why_old ≡ length cells → why_new ≡ get_or new 0 [] → is_assigned why_new p ≡ false
    → TriedTells tree cells p v Jumped witness why_old why_new old new
tried_jumped tree cells p v found witness why_old why_new old new free is told long first away =
    let below = told_below tree cells p v found witness old new free told in
    let reason : IsReason tree (with_value cells p v) why_new = subst (IsReason tree (with_value cells p v)) (sym first) (told.no is) in
    let part : IsPart why_new cells = part_without why_new cells p v away reason.part in
    record {
      row = λ e. absurd (jumped_found e);
      refuted = λ e. absurd (jumped_refuted e);
      jumped = λ e. record { part = part; none = reason.none };
      kept = below.kept;
      part = below.part;
      same = part.long ∙ sym long;
      as_many = below.as_many;
      long = below.long;
    }
  where
    jumped_found : Jumped ≡ Found → ⊥
    jumped_found e = cc

    jumped_refuted : Jumped ≡ Refuted → ⊥
    jumped_refuted e = cc

pub tried_refuted : (tree : TreeView) (cells : List (Option ℕ)) (p v : ℕ) (found : Bool) (witness : Witness) (why_old why_new : List (Option ℕ))
    (old new : List (List (Option ℕ))) → is_assigned cells p ≡ false → found ≡ false → SearchTells tree (with_value cells p v) found witness old new
    → Grows cells p why_old why_new → (HasNoRow tree (get_or new 0 []) → HasNoRow tree (with_value why_new p v))
    → TriedTells tree cells p v Refuted witness why_old why_new old new
tried_refuted tree cells p v found witness why_old why_new old new free is told grows none =
    let below = told_below tree cells p v found witness old new free told in
    record {
      row = λ e. absurd (refuted_found e);
      refuted = λ e. record { grows = grows; refuted = none (told.no is).none };
      jumped = λ e. absurd (refuted_jumped e);
      kept = below.kept;
      part = below.part;
      same = sym grows.kept.long;
      as_many = below.as_many;
      long = below.long;
    }
  where
    refuted_found : Refuted ≡ Found → ⊥
    refuted_found e = cc

    refuted_jumped : Refuted ≡ Jumped → ⊥
    refuted_jumped e = cc
