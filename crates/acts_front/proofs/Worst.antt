-- The worst of what is found of parts.
use Rattle.std.proofs.Common.{◌≡◌, ℕ, ◌+◌, List, [], ◌∷◌, length, map, Option, Some, None, Bor, refl, sym, ap, ◌∙◌}
use Rattle.std.proofs.lemmas.Simd.{map-map}
use Rattle.std.specs.Prelude.{option_map}
use Rattle.acts_front.specs.believed.ParameterLines.{Scope}
use Rattle.acts_front.specs.believed.Tokens.{Token}
use Rattle.acts_front.specs.believed.Constraints.{Pred, Preds, End, More, disj_of, each_of, either_of, is_and, is_or, more_preds, parts, preds_of, unit_of}
use Rattle.acts_front.specs.Constraints.{conj_of}
use Rattle.acts_front.specs.Findings.{finding_in, pred_finding, preds_finding, worse}
use Rattle.acts_front.specs.Reading.{part_before}
use Rattle.acts_front.specs.declared.constraint.Finding.{Finding}
use Rattle.acts_front.specs.declared.constraint.Finding.TheVariants.{Fits, TypesDiffer, UnknownName, Broken}

worse_fits : (found : Finding) → worse found Fits ≡ found
worse_fits Fits = refl
worse_fits TypesDiffer = refl
worse_fits UnknownName = refl
worse_fits Broken = refl

pub worse_broken : (found : Finding) → worse found Broken ≡ Broken
worse_broken Fits = refl
worse_broken TypesDiffer = refl
worse_broken UnknownName = refl
worse_broken Broken = refl

worse_three : (a b c : Finding) → worse (worse a b) c ≡ worse a (worse b c)
worse_three Fits b c = refl
worse_three Broken b c = refl
worse_three TypesDiffer Fits c = refl
worse_three TypesDiffer Broken c = refl
worse_three TypesDiffer TypesDiffer Fits = refl
worse_three TypesDiffer TypesDiffer TypesDiffer = refl
worse_three TypesDiffer TypesDiffer UnknownName = refl
worse_three TypesDiffer TypesDiffer Broken = refl
worse_three TypesDiffer UnknownName Fits = refl
worse_three TypesDiffer UnknownName TypesDiffer = refl
worse_three TypesDiffer UnknownName UnknownName = refl
worse_three TypesDiffer UnknownName Broken = refl
worse_three UnknownName Fits c = refl
worse_three UnknownName Broken c = refl
worse_three UnknownName TypesDiffer Fits = refl
worse_three UnknownName TypesDiffer TypesDiffer = refl
worse_three UnknownName TypesDiffer UnknownName = refl
worse_three UnknownName TypesDiffer Broken = refl
worse_three UnknownName UnknownName Fits = refl
worse_three UnknownName UnknownName TypesDiffer = refl
worse_three UnknownName UnknownName UnknownName = refl
worse_three UnknownName UnknownName Broken = refl

abbrev pub worst_of : List Finding → Finding
worst_of [] = Fits
worst_of (found ∷ rest) = worse found (worst_of rest)

module _ (scope : Scope) where
  found_of : Option Preds → Finding
  found_of (Some preds) = preds_finding scope preds
  found_of None = Broken

  more_found : (pred : Option Pred) (preds : Option Preds) → found_of (more_preds pred preds) ≡ worse (finding_in scope pred) (found_of preds)
  unfolding found_of
  more_found (Some pred) (Some preds) = refl
  more_found (Some pred) None = sym (worse_broken (pred_finding scope pred))
  more_found None preds = refl

  all_found : (preds : List (Option Pred)) → found_of (preds_of preds) ≡ worst_of (map (finding_in scope) preds)
  unfolding found_of
  all_found [] = refl
  all_found (pred ∷ preds) = more_found pred (preds_of preds) ∙ ap (worse (finding_in scope pred)) (all_found preds)

  each_found : (preds : Option Preds) → finding_in scope (option_map each_of preds) ≡ found_of preds
  unfolding found_of
  each_found None = refl
  each_found (Some End) = refl
  each_found (Some (More pred End)) = sym (worse_fits (pred_finding scope pred))
  each_found (Some (More pred (More next preds))) = refl

  either_found : (preds : Option Preds) → finding_in scope (option_map either_of preds) ≡ found_of preds
  unfolding found_of
  either_found None = refl
  either_found (Some End) = refl
  either_found (Some (More pred End)) = sym (worse_fits (pred_finding scope pred))
  either_found (Some (More pred (More next preds))) = refl

  -- what is found of a conjunction and of a disjunction, by their parts
  pub conj_found : (room : ℕ) (tokens : List Token) → finding_in scope (conj_of room tokens) ≡ worst_of (map (λ part. finding_in scope (unit_of room part)) (parts is_and tokens))
  conj_found room tokens =
      each_found (preds_of (map (unit_of room) (parts is_and tokens)))
      ∙ (all_found (map (unit_of room) (parts is_and tokens)) ∙ ap worst_of (map-map (finding_in scope) (unit_of room) (parts is_and tokens)))

  pub disj_found : (room : ℕ) (tokens : List Token) → finding_in scope (disj_of room tokens) ≡ worst_of (map (λ part. finding_in scope (conj_of room part)) (parts is_or tokens))
  disj_found room tokens =
      either_found (preds_of (map (conj_of room) (parts is_or tokens)))
      ∙ (all_found (map (conj_of room) (parts is_or tokens)) ∙ ap worst_of (map-map (finding_in scope) (conj_of room) (parts is_or tokens)))

-- parts that are ahead
abbrev pub worst_ahead : (List Token → Finding) → Option (List (List Token)) → Finding
worst_ahead found (Some parts) = worst_of (map found parts)
worst_ahead found None = Fits

-- the worst of all parts is the worse of those behind and those ahead
pub record IsWorst (found : List Token → Finding) (all : List (List Token)) (worst : Finding) (ahead : Option (List (List Token))) : Type 0 where
  pub is : worst_of (map found all) ≡ worse worst (worst_ahead found ahead)

pub worst_first : (found : List Token → Finding) (all : List (List Token)) → IsWorst found all Fits (Some all)
worst_first found all = record { is = refl }

before_found : (found : List Token → Finding) (part : List Token) (behind : Option (List (List Token)))
    → worst_of (map found (part_before part behind)) ≡ worse (found part) (worst_ahead found behind)
before_found found part (Some parts) = refl
before_found found part None = refl

pub worst_more : (found : List Token → Finding) (all : List (List Token)) (worst more : Finding) (rest : List (List Token)) (part : List Token) (behind : Option (List (List Token)))
    → IsWorst found all worst (Some rest) → rest ≡ part_before part behind → more ≡ worse worst (found part) → IsWorst found all more behind
worst_more found all worst more rest part behind so_far cut is = record {
  is = so_far.is ∙ (ap (λ parts. worse worst (worst_of (map found parts))) cut
      ∙ (ap (worse worst) (before_found found part behind)
      ∙ (sym (worse_three worst (found part) (worst_ahead found behind)) ∙ ap (λ w. worse w (worst_ahead found behind)) (sym is))));
}

pub worst_last : (found : List Token → Finding) (all : List (List Token)) (worst : Finding) → IsWorst found all worst None → worst ≡ worst_of (map found all)
worst_last found all worst so_far = sym (so_far.is ∙ worse_fits worst)

-- how many tokens are ahead, and one more
abbrev pub ahead_len : {T : Type 0} → Option (Bor (List T)) → ℕ
ahead_len (Some rest) = 1 + length rest.now
ahead_len None = 0
