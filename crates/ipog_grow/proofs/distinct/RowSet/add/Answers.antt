use Rattle.std.proofs.Common.{◌≡◌, ℕ, [], ◌∷◌, ◌++◌, List, Option, All, length, map, not, Bool, true, false, cond, ◌∙◌, sym, ap, subst}
use Rattle.std.specs.List.{list_any}
use Rattle.std.proofs.lemmas.List.{map-append}
use Rattle.ipog_grow.specs.Rows.{is_known_row}
use Rattle.ipog_grow.specs.declared.distinct.RowKey.{RowKey}
use Rattle.definitions.proofs.SameRows.{equal_cells, known_by_places}
use Rattle.ipog_grow.proofs.distinct.RowSet.add.Goals as goal

abbrev cells : RowKey → List (Option ℕ)
cells key = key.places.items

-- the set knows the rows that are the same
known : (key : RowKey) (keys : List RowKey) (rows : List (List (Option ℕ))) (row : List (Option ℕ)) → map cells keys ≡ rows → cells key ≡ row
    → All (λ r. length r ≡ length row) rows → list_any (λ other. equal_cells (cells key) (cells other)) keys ≡ is_known_row rows row
known key keys rows row views is long =
    known_by_places cells keys (cells key)
    (subst (λ (r : List (Option ℕ)). All (λ k. length k ≡ length r) (map cells keys)) (sym is) (subst (All (λ r. length r ≡ length row)) (sym views) long))
    ∙ ap (is_known_row (map cells keys)) is ∙ ap (λ rs. is_known_row rs row) views

pub returns-clause-added : goal.returns-clause-added
returns-clause-added c =
    c.in_ok-added.ensures.added
    ∙ ap not (known (record { places = c.in_ok-places.places }) c.self.inside.keys.keys c.args.self.now c.args.row.now c.self.view_is c.in_ok-places.ensures.ok
    c.requires)

pub returns-clause-rows : goal.returns-clause-rows
returns-clause-rows c =
    let keys : List RowKey = c.self.inside.keys.keys in
    let key : RowKey = record { places = c.in_ok-places.places } in
    ap (map cells) (c.in_ok-added.ensures.keys
    ∙ ap (λ (b : Bool). cond b keys (keys ++ key ∷ [])) (known key keys c.args.self.now c.args.row.now c.self.view_is c.in_ok-places.ensures.ok c.requires))
    ∙ pushed (is_known_row c.args.self.now c.args.row.now) key keys c.args.self.now c.args.row.now c.self.view_is c.in_ok-places.ensures.ok
  where
    pushed : (b : Bool) (key : RowKey) (keys : List RowKey) (rows : List (List (Option ℕ))) (row : List (Option ℕ)) → map cells keys ≡ rows → cells key ≡ row
        → map cells (cond b keys (keys ++ key ∷ [])) ≡ cond b rows (rows ++ row ∷ [])
    pushed true key keys rows row views is = views
    pushed false key keys rows row views is = map-append cells keys (key ∷ []) ∙ ap (λ rs. rs ++ cells key ∷ []) views ∙ ap (λ r. rows ++ r ∷ []) is
