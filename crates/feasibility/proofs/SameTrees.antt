-- In format 1 a tree refutes each tuple that gives the parameters which constraints name the same values, if none of
-- its branches is on a parameter of the tuple.
use Rattle.std.proofs.Common.{◌≡◌, ℕ, Bool, true, false, not, ◌&&◌, ◌||◌, ◌==◌, if◌then◌else◌, List, [], ◌∷◌, ◌++◌, length, map, Option, Some, None}
use Rattle.std.proofs.Common.{is_some, unwrap_or, get_or, ◌∙◌, sym, ap, refl, inl, inr}
use Rattle.std.specs.List.{filter, list_all, list_any, range_with_len}
use Rattle.std.proofs.lemmas.Bool.{false≢true, cases_eq, and_from, and_parts, and_right, false_from_ne_true, not-true, or_left, or_right}
use Rattle.std.proofs.lemmas.List.{get_or-set_other}
use Rattle.std.proofs.lemmas.List.Elements.{filter-append}
use Rattle.cov_model.specs.believed.Views.{RuleView}
use Rattle.cov_model.specs.believed.Sound.{ModelView}
use Rattle.cov_model.specs.believed.Kleene.{body_truth}
use Rattle.cov_model.specs.believed.Meaning.{given_value, value_at}
use Rattle.cov_model.specs.believed.Rows.{is_assigned, with_value}
use Rattle.cov_model.specs.believed.Slices.{value_numbers}
use Rattle.cov_model.specs.believed.Valid.{param_numbers}
use Rattle.definitions.specs.believed.Demand.{is_among}
use Rattle.definitions.specs.believed.Refutation.{Token, Branch, ByRule, ByNegative, ByOmission, are_eager, branches, is_branch, is_eager, is_first_leaf, is_leaf}
use Rattle.definitions.specs.believed.Refutation.{is_negative_leaf, is_rule_leaf, leaves, refute_paths}
use Rattle.definitions.specs.believed.Search.{body_params, is_no}
use Rattle.feasibility.specs.KeptTrees.{is_free}
use Rattle.feasibility.specs.Recurring.{AgreeOnNamed}
use Rattle.feasibility.proofs.Alike.{any_same, same_with}
use Rattle.feasibility.proofs.Local.{agree_each, local_body}
use Rattle.feasibility.proofs.Recurring.{agree_with}

-- a path of a tree for one tuple, and the path with the same branches of one for another tuple: what isn't a tuple's
-- own is the same on both
record AreAlong (m : ModelView) (one other a b : List (Option ℕ)) : Type 0 where
  agree : AgreeOnNamed m a b
  longer : (p : ℕ) → is_assigned one p ≡ true → is_assigned a p ≡ true
  left : (p : ℕ) → is_assigned a p ≡ true → is_assigned one p ≡ false → (is_assigned other p ≡ false) × (get_or a p None ≡ get_or b p None)
  right : (p : ℕ) → is_assigned b p ≡ true → is_assigned other p ≡ false → (is_assigned one p ≡ false) × (get_or a p None ≡ get_or b p None)

along_start : (m : ModelView) (one other : List (Option ℕ)) → AgreeOnNamed m one other → AreAlong m one other one other
along_start m one other agree = record {
  agree = agree;
  longer = λ p given. given;
  left = λ p given free. absurd (false≢true (sym free ∙ given));
  right = λ p given free. absurd (false≢true (sym free ∙ given));
}

along_with : (m : ModelView) (one other a b : List (Option ℕ)) (q v : ℕ) → is_assigned a q ≡ false → is_assigned other q ≡ false
    → AreAlong m one other a b → AreAlong m one other (with_value a q v) (with_value b q v)
along_with m one other a b q v free out along = record {
  agree = agree_with m a b q v along.agree;
  longer = λ p given. elim (cases_eq q p) [
    | inl same ↦ absurd (false≢true (sym free ∙ along.longer q (ap (is_assigned one) same ∙ given)))
    | inr apart ↦ ap (λ cell. is_some cell) (in_one p apart) ∙ along.longer p given
  ];
  left = λ p given none. elim (cases_eq q p) [
    | inl same ↦ (ap (is_assigned other) (sym same) ∙ out, same_with a b q p v (along.agree.long ∙ sym along.agree.also) same)
    | inr apart ↦
        let old = along.left p (sym (ap (λ cell. is_some cell) (in_one p apart)) ∙ given) none in
        (old.0, in_one p apart ∙ old.1 ∙ sym (in_other p apart))
  ];
  right = λ p given none. elim (cases_eq q p) [
    | inl same ↦ (
      ap (is_assigned one) (sym same) ∙ false_from_ne_true (is_assigned one q) (λ has. false≢true (sym free ∙ along.longer q has)),
      same_with a b q p v (along.agree.long ∙ sym along.agree.also) same,
    )
    | inr apart ↦
        let old = along.right p (sym (ap (λ cell. is_some cell) (in_other p apart)) ∙ given) none in
        (old.0, in_one p apart ∙ old.1 ∙ sym (in_other p apart))
  ];
}
  where
    in_one : (p : ℕ) → (q ≡ p → ⊥) → get_or (with_value a q v) p None ≡ get_or a p None
    in_one p apart = get_or-set_other a q p (Some v) None (λ e. apart (sym e))

    in_other : (p : ℕ) → (q ≡ p → ⊥) → get_or (with_value b q v) p None ≡ get_or b p None
    in_other p apart = get_or-set_other b q p (Some v) None (λ e. apart (sym e))

-- the same branches are possible
branch_along : (m : ModelView) (one other a b : List (Option ℕ)) (q : ℕ) → is_assigned other q ≡ false → AreAlong m one other a b
    → is_branch m a q ≡ true → (is_assigned a q ≡ false) × (is_branch m b q ≡ true)
branch_along m one other a b q out along branch =
    let parts = and_parts _ (not (is_assigned a q)) branch in
    let free = not-true (is_assigned a q) parts.1 in
    let also = false_from_ne_true (is_assigned b q) (λ given.
    false≢true (sym free ∙ ap (λ cell. is_some cell) (along.right q given out).1 ∙ given)) in
    (free, and_from _ (not (is_assigned b q)) parts.0 (ap not also))

-- the same constraints are leaves
rule_along : (m : ModelView) (rules : List RuleView) (a b : List (Option ℕ)) (k : ℕ)
    → ((p : ℕ) → list_any (λ rule. is_among (body_params rule.body) p) rules ≡ true → get_or a p None ≡ get_or b p None)
    → list_any (λ rule. (rule.number == k) && is_no (body_truth m rule.body a)) rules
    ≡ list_any (λ rule. (rule.number == k) && is_no (body_truth m rule.body b)) rules
rule_along m [] a b k same = refl
rule_along m (rule ∷ rules) a b k same =
    let names : ℕ → Bool = is_among (body_params rule.body) in
    let others : ℕ → Bool = λ q. list_any (λ other. is_among (body_params other.body) q) rules in
    let here = local_body m rule.body a b (agree_each (body_params rule.body) a b (λ q listed. same q (or_left (names q) (others q) listed))) in
    ap (λ known. ((rule.number == k) && is_no known) || list_any (λ other. (other.number == k) && is_no (body_truth m other.body a)) rules) here.0
    ∙ ap (λ later. ((rule.number == k) && is_no (body_truth m rule.body b)) || later)
    (rule_along m rules a b k (λ q listed. same q (or_right (names q) (others q) listed)))

-- a negative value that isn't in the tuple
abbrev counts : ModelView → ℕ → Option ℕ → Bool → Bool
counts m p cell given = (is_some cell && (value_at m p (unwrap_or cell 0)).negative) && not given

any_filter : (keep test : ℕ → Bool) (xs : List ℕ) → list_any test (filter keep xs) ≡ list_any (λ x. keep x && test x) xs
any_filter keep test [] = refl
any_filter keep test (x ∷ xs) = by_case (keep x) (any_filter keep test xs)
  where
    by_case : (b : Bool) → list_any test (filter keep xs) ≡ list_any (λ y. keep y && test y) xs
        → list_any test (if b then x ∷ filter keep xs else filter keep xs) ≡ ((b && test x) || list_any (λ y. keep y && test y) xs)
    by_case true later = ap (λ rest. test x || rest) later
    by_case false later = later

counts_along : (m : ModelView) (one other a b : List (Option ℕ)) (p : ℕ) → AreAlong m one other a b
    → counts m p (get_or a p None) (is_assigned one p) ≡ counts m p (get_or b p None) (is_assigned other p)
counts_along m one other a b p along =
    by_case (is_assigned one p) refl (is_assigned other p) refl (get_or a p None) refl (get_or b p None) refl
  where
    none : (cell : Option ℕ) → counts m p cell true ≡ false
    none cell = and_right (is_some cell && (value_at m p (unwrap_or cell 0)).negative) false refl

    by_case : (t : Bool) → is_assigned one p ≡ t → (u : Bool) → is_assigned other p ≡ u → (x : Option ℕ) → get_or a p None ≡ x
        → (y : Option ℕ) → get_or b p None ≡ y → counts m p x t ≡ counts m p y u
    by_case true t true u x ex y ey = none x ∙ sym (none y)
    by_case true t false u x ex None ey = none x
    by_case true t false u x ex (Some w) ey = absurd (false≢true (sym (along.right p (ap (λ cell. is_some cell) ey) u).0 ∙ t))
    by_case false t given u None ex None ey = refl
    by_case false t true u None ex (Some w) ey = sym (none (Some w))
    by_case false t false u None ex (Some w) ey =
        absurd (false≢true (ap (λ cell. is_some cell) (sym ex ∙ (along.right p (ap (λ cell. is_some cell) ey) u).1 ∙ ey)))
    by_case false t given u (Some v) ex y ey =
        let old = along.left p (ap (λ cell. is_some cell) ex) t in
        ap (λ cell. counts m p cell false) (sym ex ∙ old.1 ∙ ey) ∙ ap (counts m p y) (sym old.0 ∙ u)

negative_along : (m : ModelView) (one other a b : List (Option ℕ)) → AreAlong m one other a b
    → is_negative_leaf m one a ≡ is_negative_leaf m other b
negative_along m one other a b along =
    any_filter (λ p. is_assigned a p && (given_value m a p).negative) (λ p. not (is_assigned one p)) (param_numbers m)
    ∙ any_same (λ p. counts m p (get_or a p None) (is_assigned one p)) (λ p. counts m p (get_or b p None) (is_assigned other p)) (param_numbers m)
    (λ p. counts_along m one other a b p along)
    ∙ sym (any_filter (λ p. is_assigned b p && (given_value m b p).negative) (λ p. not (is_assigned other p)) (param_numbers m))

-- so the leaves are the same
no_citations : (m : ModelView) (earlier : List (List (Option ℕ))) (tuple path : List (Option ℕ)) (ns : List ℕ)
    → filter (is_leaf m 1 earlier tuple path) (map ByOmission ns) ≡ []
no_citations m earlier tuple path [] = refl
no_citations m earlier tuple path (n ∷ ns) = no_citations m earlier tuple path ns

filter_both : (f g : Token → Bool) (tokens : List Token) → ((token : Token) → f token ≡ g token) → filter f tokens ≡ filter g tokens
filter_both f g [] same = refl
filter_both f g (token ∷ tokens) same =
    ap (λ b. if b then token ∷ filter f tokens else filter f tokens) (same token)
    ∙ ap (λ rest. if g token then token ∷ rest else rest) (filter_both f g tokens same)

leaves_first : (m : ModelView) (earlier : List (List (Option ℕ))) (tuple path : List (Option ℕ))
    → leaves m 1 earlier tuple path ≡ filter (is_leaf m 1 earlier tuple path) (ByNegative ∷ map (λ rule. ByRule rule.number) m.rules) ++ []
leaves_first m earlier tuple path =
    let some = ByNegative ∷ map (λ rule. ByRule rule.number) m.rules in
    filter-append (is_leaf m 1 earlier tuple path) some (map ByOmission (range_with_len 1 (length earlier)))
    ∙ ap (λ rest. filter (is_leaf m 1 earlier tuple path) some ++ rest) (no_citations m earlier tuple path (range_with_len 1 (length earlier)))

leaves_along : (m : ModelView) (earlier others : List (List (Option ℕ))) (one other a b : List (Option ℕ)) → AreAlong m one other a b
    → leaves m 1 earlier one a ≡ leaves m 1 others other b
leaves_along m earlier others one other a b along =
    leaves_first m earlier one a
    ∙ ap (λ some. some ++ []) (filter_both (is_leaf m 1 earlier one a) (is_leaf m 1 others other b)
    (ByNegative ∷ map (λ rule. ByRule rule.number) m.rules) each)
    ∙ sym (leaves_first m others other b)
  where
    each : (token : Token) → is_leaf m 1 earlier one a token ≡ is_leaf m 1 others other b token
    each (Branch q) = refl
    each (ByRule k) = rule_along m m.rules a b k along.agree.named
    each ByNegative = negative_along m one other a b along
    each (ByOmission n) = refl

-- as many paths on both sides
abbrev AllAlong : ModelView → List (Option ℕ) → List (Option ℕ) → List (List (Option ℕ)) → List (List (Option ℕ)) → Type 0
AllAlong m one other [] [] = Unit {0}
AllAlong m one other [] (b ∷ rs) = ⊥
AllAlong m one other (a ∷ ps) [] = ⊥
AllAlong m one other (a ∷ ps) (b ∷ rs) = AreAlong m one other a b × AllAlong m one other ps rs

all_branches : (m : ModelView) (one other a b : List (Option ℕ)) (q : ℕ) (values : List ℕ) (ps rs : List (List (Option ℕ)))
    → is_assigned a q ≡ false → is_assigned other q ≡ false → AreAlong m one other a b → AllAlong m one other ps rs
    → AllAlong m one other (map (with_value a q) values ++ ps) (map (with_value b q) values ++ rs)
all_branches m one other a b q [] ps rs free out along rest = rest
all_branches m one other a b q (v ∷ values) ps rs free out along rest =
    (along_with m one other a b q v free out along, all_branches m one other a b q values ps rs free out along rest)

-- and the trees are
both_along : (m : ModelView) (earlier others : List (List (Option ℕ))) (one other : List (Option ℕ)) (ps rs : List (List (Option ℕ)))
    (tokens : List Token) → AllAlong m one other ps rs → list_all (is_free other) tokens ≡ true
    → refute_paths m 1 earlier one ps tokens ≡ true → are_eager m 1 earlier one ps tokens ≡ true
    → (refute_paths m 1 others other rs tokens ≡ true) × (are_eager m 1 others other rs tokens ≡ true)
both_along m earlier others one other [] [] [] all free refutes eager = (refl, refl)
both_along m earlier others one other [] [] (token ∷ tokens) all free refutes eager = absurd (false≢true refutes)
both_along m earlier others one other [] (b ∷ rs) tokens all free refutes eager = absurd all
both_along m earlier others one other (a ∷ ps) [] tokens all free refutes eager = absurd all
both_along m earlier others one other (a ∷ ps) (b ∷ rs) [] all free refutes eager = absurd (false≢true refutes)
both_along m earlier others one other (a ∷ ps) (b ∷ rs) (Branch q ∷ tokens) all free refutes eager =
    let out = and_parts (not (is_assigned other q)) (list_all (is_free other) tokens) free in
    let refuted = and_parts (is_branch m a q) _ refutes in
    let eagerly = and_parts (length (leaves m 1 earlier one a) == 0) _ eager in
    let branch = branch_along m one other a b q (not-true (is_assigned other q) out.0) all.0 refuted.0 in
    let below = both_along m earlier others one other (branches m a q ++ ps) (branches m b q ++ rs) tokens
    (all_branches m one other a b q (value_numbers m q) ps rs branch.0 (not-true (is_assigned other q) out.0) all.0 all.1)
    out.1 refuted.1 eagerly.1 in (
      and_from (is_branch m b q) _ branch.1 below.0,
      and_from (length (leaves m 1 others other b) == 0) _
          (ap (λ found. length found == 0) (sym (leaves_along m earlier others one other a b all.0)) ∙ eagerly.0) below.1,
    )
both_along m earlier others one other (a ∷ ps) (b ∷ rs) (ByRule k ∷ tokens) all free refutes eager =
    let refuted = and_parts (is_rule_leaf m a k) _ refutes in
    let eagerly = and_parts (is_first_leaf (leaves m 1 earlier one a) (ByRule k)) _ eager in
    let below = both_along m earlier others one other ps rs tokens all.1 free refuted.1 eagerly.1 in (
      and_from (is_rule_leaf m b k) _ (sym (rule_along m m.rules a b k all.0.agree.named) ∙ refuted.0) below.0,
      and_from (is_first_leaf (leaves m 1 others other b) (ByRule k)) _
          (ap (λ found. is_first_leaf found (ByRule k)) (sym (leaves_along m earlier others one other a b all.0)) ∙ eagerly.0) below.1,
    )
both_along m earlier others one other (a ∷ ps) (b ∷ rs) (ByNegative ∷ tokens) all free refutes eager =
    let refuted = and_parts (is_negative_leaf m one a) _ refutes in
    let eagerly = and_parts (is_first_leaf (leaves m 1 earlier one a) ByNegative) _ eager in
    let below = both_along m earlier others one other ps rs tokens all.1 free refuted.1 eagerly.1 in (
      and_from (is_negative_leaf m other b) _ (sym (negative_along m one other a b all.0) ∙ refuted.0) below.0,
      and_from (is_first_leaf (leaves m 1 others other b) ByNegative) _
          (ap (λ found. is_first_leaf found ByNegative) (sym (leaves_along m earlier others one other a b all.0)) ∙ eagerly.0) below.1,
    )
both_along m earlier others one other (a ∷ ps) (b ∷ rs) (ByOmission n ∷ tokens) all free refutes eager = absurd (false≢true refutes)

-- so an eager tree for one tuple is one for the other
pub eager_again : (m : ModelView) (earlier others : List (List (Option ℕ))) (one other : List (Option ℕ)) (tokens : List Token)
    → AgreeOnNamed m one other → list_all (is_free other) tokens ≡ true → is_eager m 1 earlier one tokens ≡ true
    → is_eager m 1 others other tokens ≡ true
eager_again m earlier others one other tokens agree free eager =
    let parts = and_parts (refute_paths m 1 earlier one (one ∷ []) tokens) _ eager in
    let both = both_along m earlier others one other (one ∷ []) (other ∷ []) tokens (along_start m one other agree, tt) free parts.0 parts.1 in
    and_from (refute_paths m 1 others other (other ∷ []) tokens) _ both.0 both.1
