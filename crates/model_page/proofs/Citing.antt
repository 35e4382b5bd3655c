-- The omissions of a proof, by what they mean.
use Rattle.std.proofs.Common.{◌≡◌, ℕ, ◌-◌, Bor, List, [], ◌∷◌, length, get_or, map, take, refl, sym, ap, subst, ◌∙◌}
use Rattle.std.specs.Prelude.{Option, Some, None, IfSome, is_some, nat_lt, option_map, slice_get}
use Rattle.std.proofs.lemmas.Bool.{ltb-false, ltb-true}
use Rattle.std.proofs.lemmas.List.{take-map}
use Rattle.std.proofs.lemmas.Option.{slice_get-map, slice_get_past, slice_get_read}
use Rattle.cov_model.specs.believed.Sound.{ModelView}
use Rattle.definitions.specs.believed.ProofText as proofs
use Rattle.refutation.specs.Proofs.{omission_meant}
use Rattle.refutation.specs.declared.omissions.Omission.{Omission}
use Rattle.model_page.specs.believed.Omitted.{cited_words}

-- the words for an omission that is cited, or for none
pub cited_found : (m : ModelView) (omissions : List Omission) (i number : ℕ) (found : Option Omission) → slice_get omissions i ≡ found → i ≡ number - 1
    → cited_words m (slice_get (map omission_meant omissions) (number - 1)) ≡ cited_words m (option_map omission_meant found)
cited_found m omissions i number found is place =
    ap (cited_words m) (slice_get-map omission_meant omissions (number - 1) ∙ ap (option_map omission_meant) (ap (slice_get omissions) (sym place) ∙ is))

-- what stands at a place, and that nothing does
pub there : {X : Type 0} (xs : List X) (i : ℕ) (got : Option (Bor X)) (x : Bor X) → is_some got ≡ nat_lt i (length xs)
    → IfSome got (λ y. y.now ≡ get_or xs i y.now) → got ≡ Some x → slice_get xs i ≡ Some x.now
there xs i got x exists shown is =
    slice_get_read xs (length xs) i x.now refl (ltb-true i (length xs) (sym exists ∙ ap is_some is)) (subst (λ g. IfSome g (λ y. y.now ≡ get_or xs i y.now)) is shown)

pub not_there : {X : Type 0} (xs : List X) (i : ℕ) (got : Option (Bor X)) → is_some got ≡ nat_lt i (length xs) → got ≡ None → slice_get xs i ≡ None
not_there xs i got exists is = slice_get_past xs i (ltb-false i (length xs) (sym exists ∙ ap is_some is))

module _ {Y : Type 0} (one : proofs.Omission → Y) where
  of_meant : (omissions : List Omission) → map (λ omission. one (omission_meant omission)) omissions ≡ map one (map omission_meant omissions)
  of_meant [] = refl
  of_meant (omission ∷ omissions) = ap (λ rest. one (omission_meant omission) ∷ rest) (of_meant omissions)

  -- the first so many
  pub first_omitted : (n : ℕ) (omissions : List Omission)
      → map (λ omission. one (omission_meant omission)) (take n omissions) ≡ map one (take n (map omission_meant omissions))
  first_omitted n omissions = of_meant (take n omissions) ∙ ap (map one) (sym (take-map omission_meant n omissions))
