-- The visit of a node: what it answers, and what is left of the budget.
use Rattle.std.proofs.Common.{◌≡◌, ℕ, suc, ◌+◌, ◌-◌, ◌<◌, ◌≤◌, Bool, true, false, not, if◌then◌else◌, nat_lt, List, [], ◌∷◌, length}
use Rattle.std.proofs.Common.{drop, get_or, Option, None, is_some, ◌∙◌, sym, ap, subst, refl, arith, inl, inr}
use Rattle.std.proofs.lemmas.Bool.{cases_lt, le-ltb, lt-ltb}
use Rattle.std.proofs.lemmas.List.{drop_all, drop_more}
use Rattle.cov_model.specs.believed.Sound.{ModelView}
use Rattle.cov_model.specs.believed.Rows.{is_assigned, with_value}
use Rattle.definitions.specs.believed.Search.{Outcome, constrained_params, is_failing, try_values, visit}
use Rattle.feasibility.specs.declared.answer.Answer.{Answer}
use Rattle.feasibility.specs.declared.answer.Answer.TheVariants.{Yes, No, Spent}
use Rattle.feasibility.specs.Answers.{Told, answer_of}
use Rattle.feasibility.specs.declared.constrained.Constrained.{Constrained}
use Rattle.feasibility.specs.Path.{reached, reached_by}
use Rattle.feasibility.specs.Tree.{undecided_by}
use Rattle.feasibility.proofs.Naming.{constrained_exists}

yes_no : Yes ≡ No → ⊥
yes_no e = cc

yes_spent : Yes ≡ Spent → ⊥
yes_spent e = cc

no_spent : No ≡ Spent → ⊥
no_spent e = cc

-- the answer where the budget is enough, and where it isn't
pub answer_enough : (found : Bool) (cost budget : ℕ) → cost ≤ budget → answer_of found cost budget ≡ (if found then Yes else No)
answer_enough found cost budget enough = ap (λ (k : Bool). if k then Spent else if found then Yes else No) (le-ltb budget cost enough)

pub answer_spent : (found : Bool) (cost budget : ℕ) → budget < cost → answer_of found cost budget ≡ Spent
answer_spent found cost budget over = ap (λ (k : Bool). if k then Spent else if found then Yes else No) (lt-ltb budget cost over)

-- what an answer tells of the outcome
pub record Ended (found wanted : Bool) (cost budget : ℕ) : Type 0 where
  pub is : found ≡ wanted
  pub enough : cost ≤ budget

pub told_yes : (found : Bool) (cost budget : ℕ) → Yes ≡ answer_of found cost budget → Ended found true cost budget
told_yes found cost budget told =
    elim (cases_lt budget cost) [
      | inl over ↦ absurd (yes_spent (told ∙ answer_spent found cost budget over))
      | inr enough ↦ record { is = by_found found (told ∙ answer_enough found cost budget enough); enough = enough }
    ]
  where
    by_found : (found : Bool) → Yes ≡ (if found then Yes else No) → found ≡ true
    by_found true e = refl
    by_found false e = absurd (yes_no e)

pub told_no : (found : Bool) (cost budget : ℕ) → No ≡ answer_of found cost budget → Ended found false cost budget
told_no found cost budget told =
    elim (cases_lt budget cost) [
      | inl over ↦ absurd (no_spent (told ∙ answer_spent found cost budget over))
      | inr enough ↦ record { is = by_found found (told ∙ answer_enough found cost budget enough); enough = enough }
    ]
  where
    by_found : (found : Bool) → No ≡ (if found then Yes else No) → found ≡ false
    by_found true e = absurd (yes_no (sym e))
    by_found false e = refl

pub told_spent : (found : Bool) (cost budget : ℕ) → Spent ≡ answer_of found cost budget → budget < cost
told_spent found cost budget told =
    elim (cases_lt budget cost) [
      | inl over ↦ over
      | inr enough ↦ absurd (by_found found (told ∙ answer_enough found cost budget enough))
    ]
  where
    by_found : (found : Bool) → Spent ≡ (if found then Yes else No) → ⊥
    by_found true e = yes_spent (sym e)
    by_found false e = no_spent (sym e)

-- a visit costs a node at least
cost_some : (m : ModelView) (lists : List (List ℕ)) (params : List ℕ) (cells : List (Option ℕ)) → 0 < (visit m lists params cells).cost
cost_some m lists [] cells = omega arith
cost_some m lists (p ∷ params) cells = by_case (is_assigned cells p) (is_failing m lists cells) (cost_some m lists params cells)
  where
    by_case : (assigned failing : Bool) → 0 < (visit m lists params cells).cost
        → 0 < (if assigned then visit m lists params cells
        else if failing then record { found = false; cost = 1 }
        else record {
          found = (try_values (visit m lists params) cells p (get_or lists p [])).found;
          cost =
              suc (try_values (visit m lists params) cells p (get_or lists p [])).cost;
        }).cost
    by_case true failing some = some
    by_case false true some = omega arith
    by_case false false some = omega arith

-- a node that the budget doesn't reach
pub told_over : (m : ModelView) (lists : List (List ℕ)) (params : List ℕ) (cells path : List (Option ℕ)) (budget : ℕ) → budget ≡ 0
    → Told (visit m lists params cells) path cells cells budget budget Spent
told_over m lists params cells path budget none =
    let some = cost_some m lists params cells in
    record {
      answer = sym (answer_spent (visit m lists params cells).found (visit m lists params cells).cost budget (omega (arith, none, some)));
      left = omega (arith, none);
      yes = λ e. absurd (yes_spent (sym e));
      other = λ e. absurd (no_spent (sym e));
      long = refl;
    }

-- a node that fails costs one, whichever parameters are left
pub failing_outcome : (m : ModelView) (lists : List (List ℕ)) (params : List ℕ) (cells : List (Option ℕ)) → is_failing m lists cells ≡ true
    → visit m lists params cells ≡ record { found = false; cost = 1 }
failing_outcome m lists [] cells fails = ap (λ (b : Bool). record { found = not b; cost = 1 }) fails
failing_outcome m lists (p ∷ params) cells fails = by_case (is_assigned cells p) (failing_outcome m lists params cells fails)
  where
    by_case : (b : Bool) → visit m lists params cells ≡ record { found = false; cost = 1 } → (if b then visit m lists params cells
        else if is_failing m lists cells then record { found = false; cost = 1 }
        else record {
          found = (try_values (visit m lists params) cells p (get_or lists p [])).found;
          cost =
              suc (try_values (visit m lists params) cells p (get_or lists p [])).cost;
        })
        ≡ record { found = false; cost = 1 }
    by_case true skip = skip
    by_case false skip =
        ap (λ (b : Bool). if b then record { found = false; cost = 1 }
        else record {
          found = (try_values (visit m lists params) cells p (get_or lists p [])).found;
          cost =
              suc (try_values (visit m lists params) cells p (get_or lists p [])).cost;
        }) fails

pub told_fails : (m : ModelView) (lists : List (List ℕ)) (params : List ℕ) (row path before after : List (Option ℕ)) (budget left : ℕ) (given : Answer)
    → is_failing m lists row ≡ true
    → given ≡ answer_of false 1 budget → left ≡ budget - 1 → after ≡ before → Told (visit m lists params row) path before after budget left given
told_fails m lists params row path before after budget left given fails answer rest same =
    subst (λ (outcome : Outcome). Told outcome path before after budget left given) (sym (failing_outcome m lists params row fails)) (record {
      answer = answer;
      left = rest;
      yes = λ e. absurd (by_spent (nat_lt budget 1) (sym answer ∙ e));
      other = λ e. same;
      long = ap length same;
    })
  where
    by_spent : (b : Bool) → (if b then Spent else No) ≡ Yes → ⊥
    by_spent true e = yes_spent (sym e)
    by_spent false e = yes_no (sym e)

-- past the last parameter a node that doesn't fail succeeds
pub told_leaf : (m : ModelView) (lists : List (List ℕ)) (params : List ℕ) (i : ℕ) (cells : List (Option ℕ)) (budget left : ℕ) (given : Answer)
    → length params ≤ i
    → is_failing m lists cells ≡ false → given ≡ answer_of true 1 budget → left ≡ budget - 1
    → Told (visit m lists (drop i params) cells) (reached m lists (drop i params) cells) cells cells budget left given
told_leaf m lists params i cells budget left given whole node answer rest =
    subst (λ (list : List ℕ). Told (visit m lists list cells) (reached m lists list cells) cells cells budget left given) (sym (drop_all i params whole))
    (record {
      answer = answer ∙ ap (λ (b : Bool). answer_of (not b) 1 budget) (sym node);
      left = rest;
      yes = λ e. refl;
      other = λ e. refl;
      long = refl;
    })

-- the outcome of a node whose values are tried
abbrev pub node_outcome : (List (Option ℕ) → Outcome) → List (Option ℕ) → ℕ → List ℕ → Outcome
node_outcome visited cells p values = record { found = (try_values visited cells p values).found; cost = suc (try_values visited cells p values).cost }

-- a parameter that has a value is skipped
pub told_skip : (m : ModelView) (lists : List (List ℕ)) (params : List ℕ) (i : ℕ) (cells after : List (Option ℕ)) (budget left : ℕ) (given : Answer)
    → i < length params
    → is_assigned cells (get_or params i 0) ≡ true → Told (visit m lists (drop (i + 1) params) cells) (reached m lists (drop (i + 1) params) cells) cells
    after budget left given
    → Told (visit m lists (drop i params) cells) (reached m lists (drop i params) cells) cells after budget left given
told_skip m lists params i cells after budget left given within assigned told =
    subst (λ (list : List ℕ). Told (visit m lists list cells) (reached m lists list cells) cells after budget left given) (sym (drop_more params i 0 within))
    (subst (λ (b : Bool). Told (if b then visit m lists (drop (i + 1) params) cells
    else if is_failing m lists cells then record { found = false; cost = 1 }
    else node_outcome (visit m lists (drop (i + 1) params)) cells (get_or params i 0) (get_or lists (get_or params i 0) []))
    (if b then reached m lists (drop (i + 1) params) cells
    else reached_by (visit m lists (drop (i + 1) params)) (reached m lists (drop (i + 1) params)) cells (get_or params i 0)
    (get_or lists (get_or params i 0) []))
    cells after budget left given) (sym assigned) told)

-- a node whose values are tried
pub told_node : (m : ModelView) (lists : List (List ℕ)) (params : List ℕ) (i : ℕ) (cells after : List (Option ℕ)) (values : List ℕ) (start budget left : ℕ)
    (given : Answer) → i < length params
    → is_assigned cells (get_or params i 0) ≡ false → is_failing m lists cells ≡ false → values ≡ get_or lists (get_or params i 0) [] → start + 1 ≡ budget
    → Told (node_outcome (visit m lists (drop (i + 1) params)) cells (get_or params i 0) values)
    (reached_by (visit m lists (drop (i + 1) params)) (reached m lists (drop (i + 1) params)) cells (get_or params i 0) values) cells after (start + 1) left
    given
    → Told (visit m lists (drop i params) cells) (reached m lists (drop i params) cells) cells after budget left given
told_node m lists params i cells after values start budget left given within free node listed whole told =
    let visited = visit m lists (drop (i + 1) params) in
    let reach = reached m lists (drop (i + 1) params) in
    let p = get_or params i 0 in
    subst (λ (list : List ℕ). Told (visit m lists list cells) (reached m lists list cells) cells after budget left given) (sym (drop_more params i 0 within))
    (subst (λ (b : Bool). Told (if b then visited cells else if is_failing m lists cells then record { found = false; cost = 1 } else node_outcome visited
    cells p (get_or lists p []))
    (if b then reach cells else reached_by visited reach cells p (get_or lists p [])) cells after budget left given) (sym free)
    (subst (λ (b : Bool). Told (if b then record { found = false; cost = 1 } else node_outcome visited cells p (get_or lists p []))
    (reached_by visited reach cells p (get_or lists p [])) cells after budget left given) (sym node)
    (subst (λ (list : List ℕ). Told (node_outcome visited cells p list) (reached_by visited reach cells p list) cells after budget left given) listed
    (subst (λ (n : ℕ). Told (node_outcome visited cells p values) (reached_by visited reach cells p values) cells after n left given) whole told))))

-- the values from a place on decide what the search through all of them finds and costs
pub record Going (visited : List (Option ℕ) → Outcome) (reach : List (Option ℕ) → List (Option ℕ)) (cells : List (Option ℕ)) (p : ℕ) (values rest : List ℕ)
    (start left : ℕ) : Type 0 where
  pub enough : left ≤ start
  pub found : (try_values visited cells p values).found ≡ (try_values visited cells p rest).found
  pub cost : (try_values visited cells p values).cost + left ≡ start + (try_values visited cells p rest).cost
  pub path : reached_by visited reach cells p values ≡ reached_by visited reach cells p rest

-- what the search through the rest tells, by its first value
pub record First (visited : List (Option ℕ) → Outcome) (reach : List (Option ℕ) → List (Option ℕ)) (cells : List (Option ℕ)) (p v : ℕ) (rest : List ℕ)
    (held : Bool) : Type 0 where
  pub found : (try_values visited cells p (v ∷ rest)).found ≡ (if held then true else (try_values visited cells p rest).found)
  pub cost : (try_values visited cells p (v ∷ rest)).cost ≡ (if held then (visited (with_value cells p v)).cost else (visited (with_value cells p v)).cost
      + (try_values visited cells p rest).cost)
  pub path : reached_by visited reach cells p (v ∷ rest) ≡ (if held then reach (with_value cells p v) else reached_by visited reach cells p rest)

pub first : (visited : List (Option ℕ) → Outcome) (reach : List (Option ℕ) → List (Option ℕ)) (cells : List (Option ℕ)) (p v : ℕ) (rest : List ℕ) (found : Bool)
    → (visited (with_value cells p v)).found ≡ found → First visited reach cells p v rest found
first visited reach cells p v rest true is = record {
  found = ap (λ (b : Bool). (if b then visited (with_value cells p v) else record {
    found = (try_values visited cells p rest).found;
    cost =
        (visited (with_value cells p v)).cost + (try_values visited cells p rest).cost;
  }).found) is ∙ is;
  cost = ap (λ (b : Bool). (if b then visited (with_value cells p v) else record {
    found = (try_values visited cells p rest).found;
    cost =
        (visited (with_value cells p v)).cost + (try_values visited cells p rest).cost;
  }).cost) is;
  path = ap (λ (b : Bool). if b then reach (with_value cells p v) else reached_by visited reach cells p rest) is;
}
first visited reach cells p v rest false is = record {
  found = ap (λ (b : Bool). (if b then visited (with_value cells p v) else record {
    found = (try_values visited cells p rest).found;
    cost =
        (visited (with_value cells p v)).cost + (try_values visited cells p rest).cost;
  }).found) is;
  cost = ap (λ (b : Bool). (if b then visited (with_value cells p v) else record {
    found = (try_values visited cells p rest).found;
    cost =
        (visited (with_value cells p v)).cost + (try_values visited cells p rest).cost;
  }).cost) is;
  path = ap (λ (b : Bool). if b then reach (with_value cells p v) else reached_by visited reach cells p rest) is;
}

-- a value without a completion
pub going_more : (visited : List (Option ℕ) → Outcome) (reach : List (Option ℕ) → List (Option ℕ)) (cells after : List (Option ℕ)) (p i : ℕ) (values : List ℕ)
    (start left finish : ℕ)
    → i < length values → Going visited reach cells p values (drop i values) start left
    → Told (visited (with_value cells p (get_or values i 0))) (reach (with_value cells p (get_or values i 0))) cells after left finish No
    → Going visited reach cells p values (drop (i + 1) values) start finish
going_more visited reach cells after p i values start left finish within going told =
    let ended = told_no _ _ left told.answer in
    let one = first visited reach cells p (get_or values i 0) (drop (i + 1) values) false ended.is in
    let here = drop_more values i 0 within in
    record {
      enough = omega (arith, going.enough, told.left);
      found = going.found ∙ ap (λ (rest : List ℕ). (try_values visited cells p rest).found) here ∙ one.found;
      cost =
          let cost = ap (λ (rest : List ℕ). (try_values visited cells p rest).cost) here ∙ one.cost in
          omega (arith, going.cost, told.left, ended.enough, cost);
      path = going.path ∙ ap (reached_by visited reach cells p) here ∙ one.path;
    }

-- a value with a completion
pub going_yes : (visited : List (Option ℕ) → Outcome) (reach : List (Option ℕ) → List (Option ℕ)) (cells after : List (Option ℕ)) (p i : ℕ) (values : List ℕ)
    (start left finish : ℕ)
    → i < length values → Going visited reach cells p values (drop i values) start left
    → Told (visited (with_value cells p (get_or values i 0))) (reach (with_value cells p (get_or values i 0))) cells after left finish Yes
    → Told (node_outcome visited cells p values) (reached_by visited reach cells p values) cells after (start + 1) finish Yes
going_yes visited reach cells after p i values start left finish within going told =
    let ended = told_yes _ _ left told.answer in
    let one = first visited reach cells p (get_or values i 0) (drop (i + 1) values) true ended.is in
    let here = drop_more values i 0 within in
    let cost = ap (λ (rest : List ℕ). (try_values visited cells p rest).cost) here ∙ one.cost in
    let found = going.found ∙ ap (λ (rest : List ℕ). (try_values visited cells p rest).found) here ∙ one.found in
    record {
      answer = sym (answer_enough (try_values visited cells p values).found (suc (try_values visited cells p values).cost) (start + 1)
          (omega (arith, going.cost, going.enough, ended.enough, cost))
          ∙ ap (λ (b : Bool). if b then Yes else No) found);
      left = omega (arith, going.cost, going.enough, told.left, ended.enough, cost);
      yes = λ e. told.yes refl ∙ sym (going.path ∙ ap (reached_by visited reach cells p) here ∙ one.path);
      other = λ e. absurd (yes_no e);
      long = told.long;
    }

least_cost : (visited : List (Option ℕ) → Outcome) (cells : List (Option ℕ)) (p v : ℕ) (rest : List ℕ)
    → (visited (with_value cells p v)).cost ≤ (try_values visited cells p (v ∷ rest)).cost
least_cost visited cells p v rest = by_case (visited (with_value cells p v)).found
  where
    by_case : (b : Bool) → (visited (with_value cells p v)).cost
        ≤ (if b then visited (with_value cells p v) else record {
          found = (try_values visited cells p rest).found;
          cost =
              (visited (with_value cells p v)).cost + (try_values visited cells p rest).cost;
        }).cost
    by_case true = omega arith
    by_case false = omega arith

-- a value on which the budget is spent
pub going_spent : (visited : List (Option ℕ) → Outcome) (reach : List (Option ℕ) → List (Option ℕ)) (cells after : List (Option ℕ)) (p i : ℕ)
    (values : List ℕ) (start left finish : ℕ)
    → i < length values → Going visited reach cells p values (drop i values) start left
    → Told (visited (with_value cells p (get_or values i 0))) (reach (with_value cells p (get_or values i 0))) cells after left finish Spent
    → Told (node_outcome visited cells p values) (reached_by visited reach cells p values) cells after (start + 1) finish Spent
going_spent visited reach cells after p i values start left finish within going told =
    let over = told_spent _ _ left told.answer in
    let here = drop_more values i 0 within in
    let least = subst (λ (rest : List ℕ). (visited (with_value cells p (get_or values i 0))).cost ≤ (try_values visited cells p rest).cost) (sym here)
    (least_cost visited cells p (get_or values i 0) (drop (i + 1) values)) in
    record {
      answer = sym (answer_spent (try_values visited cells p values).found (suc (try_values visited cells p values).cost) (start + 1)
          (omega (arith, going.cost, over, least)));
      left = omega (arith, going.cost, told.left, over, least, going.enough);
      yes = λ e. absurd (yes_spent (sym e));
      other = λ e. absurd (no_spent (sym e));
      long = told.long;
    }

-- no value has a completion
pub going_no : (visited : List (Option ℕ) → Outcome) (reach : List (Option ℕ) → List (Option ℕ)) (cells : List (Option ℕ)) (p i : ℕ) (values : List ℕ)
    (start left : ℕ)
    → length values ≤ i → Going visited reach cells p values (drop i values) start left
    → Told (node_outcome visited cells p values) (reached_by visited reach cells p values) cells cells (start + 1) left No
going_no visited reach cells p i values start left past going =
    let none = drop_all i values past in
    let cost = ap (λ (rest : List ℕ). (try_values visited cells p rest).cost) none in
    record {
      answer = sym (answer_enough (try_values visited cells p values).found (suc (try_values visited cells p values).cost) (start + 1)
          (omega (arith, going.cost, going.enough, cost))
          ∙ ap (λ (b : Bool). if b then Yes else No) (going.found ∙ ap (λ (rest : List ℕ). (try_values visited cells p rest).found) none));
      left = omega (arith, going.cost, going.enough, cost);
      yes = λ e. absurd (yes_no (sym e));
      other = λ e. refl;
      long = refl;
    }

-- what is told of a value on the cells is told of it on equal ones
pub told_on : (visited : List (Option ℕ) → Outcome) (reach : List (Option ℕ) → List (Option ℕ)) (p v : ℕ) (held cells after : List (Option ℕ))
    (budget left : ℕ) (given wanted : Answer)
    → held ≡ cells → given ≡ wanted → Told (visited (with_value held p v)) (reach (with_value held p v)) held after budget left given
    → Told (visited (with_value cells p v)) (reach (with_value cells p v)) cells after budget left wanted
told_on visited reach p v held cells after budget left given wanted same is told =
    subst (λ (row : List (Option ℕ)). Told (visited (with_value row p v)) (reach (with_value row p v)) row after budget left wanted) same
    (subst (λ (answer : Answer). Told (visited (with_value held p v)) (reach (with_value held p v)) held after budget left answer) is told)

-- and after No the cells before may be put back
pub told_back : (outcome : Outcome) (path row cells after cleared : List (Option ℕ)) (budget left : ℕ) (given : Answer) → given ≡ No → cleared ≡ cells
    → Told outcome path row after budget left given → Told outcome path cells cleared budget left given
told_back outcome path row cells after cleared budget left given is same told = record {
  answer = told.answer;
  left = told.left;
  yes = λ e. absurd (yes_no (sym e ∙ is));
  other = λ e. same;
  long = ap length same;
}

pub told_kept : (outcome : Outcome) (path row cells after : List (Option ℕ)) (budget left : ℕ) (given : Answer) → (given ≡ No → ⊥) → length row ≡ length cells
    → Told outcome path row after budget left given → Told outcome path cells after budget left given
told_kept outcome path row cells after budget left given differs long told = record {
  answer = told.answer;
  left = told.left;
  yes = told.yes;
  other = λ e. absurd (differs e);
  long = told.long ∙ long;
}

-- a node whose values are tried
pub record AtNode (m : ModelView) (lists : List (List ℕ)) (i : ℕ) (cells : List (Option ℕ)) (p : ℕ) (values : List ℕ) : Type 0 where
  pub within : i < length (constrained_params m)
  pub is : p ≡ get_or (constrained_params m) i 0
  pub exists : p < length m.params
  pub free : is_assigned cells (get_or (constrained_params m) i 0) ≡ false
  pub listed : values ≡ get_or lists (get_or (constrained_params m) i 0) []

pub at_node : (m : ModelView) (lists : List (List ℕ)) (i : ℕ) (cells : List (Option ℕ)) (entry : Constrained) (cell : Option ℕ) (values : List ℕ)
    → i < length (constrained_params m)
    → entry ≡ undecided_by m (get_or (constrained_params m) i 0) → cell ≡ get_or cells entry.param None → is_some cell ≡ false
    → values ≡ get_or lists entry.param []
    → AtNode m lists i cells entry.param values
at_node m lists i cells entry cell values within is read none listed =
    let same = ap (λ (e : Constrained). e.param) is in
    record {
      within = within;
      is = same;
      exists = subst (λ (p : ℕ). p < length m.params) (sym same) (constrained_exists m i within);
      free = ap (λ (p : ℕ). is_assigned cells p) (sym same) ∙ ap is_some (sym read) ∙ none;
      listed = listed ∙ ap (λ (p : ℕ). get_or lists p []) same;
    }
