-- Remarks with the constraints that explain them.
use Rattle.std.proofs.Common.{◌≡◌, ◌∙◌, ◌++◌, ◌∷◌, ◌+◌, ◌<◌, [], ℕ, List, All, Bool, true, ap, get_or, length, map, subst, sym, take}
use Rattle.std.specs.List.{AllZip}
use Rattle.std.proofs.lemmas.List.{map-append, take_more}
use Rattle.cov_model.specs.believed.Sound.{ModelView}
use Rattle.model_findings.specs.Findings.{fact_of}
use Rattle.model_findings.specs.believed.Findings.{Fact, facts}
use Rattle.model_findings.specs.declared.finding.Finding.{Finding}
use Rattle.jeldroft_lint.specs.believed.Kinds.{is_hint}
use Rattle.jeldroft_lint.specs.believed.Remarks.{Explains, Gist, IsInOrder, Tells, fact_gist, gist_of}
use Rattle.jeldroft_lint.specs.declared.remark.Remark.{Remark}

zip_push : {X Y : Type 0} (R : X → Y → Type 0) (xs : List X) (ys : List Y) (x : X) (y : Y) → AllZip R xs ys → R x y → AllZip R (xs ++ x ∷ []) (ys ++ y ∷ [])
zip_push R [] [] x y all one = (one, tt)
zip_push R [] (b ∷ ys) x y all one = absurd all
zip_push R (a ∷ xs) [] x y all one = absurd all
zip_push R (a ∷ xs) (b ∷ ys) x y all one = (all.0, zip_push R xs ys x y all.1 one)

-- one finding more is told
facts_more : (found : List Finding) (i : ℕ) (finding : Finding) → i < length found → get_or found i finding ≡ finding
    → map fact_of (take (i + 1) found) ≡ map fact_of (take i found) ++ fact_of finding ∷ []
facts_more found i finding within is =
    ap (map fact_of) (take_more found i finding within) ∙ map-append fact_of (take i found) (get_or found i finding ∷ [])
    ∙ ap (λ (f : Finding). map fact_of (take i found) ++ fact_of f ∷ []) is

gists_more : (m : ModelView) (found : List Finding) (i : ℕ) (finding : Finding) (remarks : List Remark) (remark : Remark) → i < length found
    → get_or found i finding ≡ finding → map gist_of remarks ≡ map (fact_gist m) (map fact_of (take i found)) → gist_of remark ≡ fact_gist m (fact_of finding)
    → map gist_of (remarks ++ remark ∷ []) ≡ map (fact_gist m) (map fact_of (take (i + 1) found))
gists_more m found i finding remarks remark within is so_far one =
    map-append gist_of remarks (remark ∷ []) ∙ ap (λ (gists : List Gist). gists ++ gist_of remark ∷ []) so_far
    ∙ ap (λ (gist : Gist). map (fact_gist m) (map fact_of (take i found)) ++ gist ∷ []) one
    ∙ sym (ap (map (fact_gist m)) (facts_more found i finding within is) ∙ map-append (fact_gist m) (map fact_of (take i found)) (fact_of finding ∷ []))

pub told_more : (m : ModelView) (found items : List Finding) (i : ℕ) (finding : Finding) (remarks : List Remark) (remark : Remark) → items ≡ found
    → i < length items → get_or items i finding ≡ finding
    → (map gist_of remarks ≡ map (fact_gist m) (map fact_of (take i found))) × AllZip (Explains m) (map fact_of (take i found)) remarks
    → gist_of remark ≡ fact_gist m (fact_of finding) → Explains m (fact_of finding) remark
    → (map gist_of (remarks ++ remark ∷ []) ≡ map (fact_gist m) (map fact_of (take (i + 1) found)))
    × AllZip (Explains m) (map fact_of (take (i + 1) found)) (remarks ++ remark ∷ [])
told_more m found items i finding remarks remark same inside here so_far gist explained =
    let within : i < length found = subst (λ (fs : List Finding). i < length fs) same inside in
    let is : get_or found i finding ≡ finding = subst (λ (fs : List Finding). get_or fs i finding ≡ finding) same here in (
      gists_more m found i finding remarks remark within is so_far.0 gist,
      subst (λ fs. AllZip (Explains m) fs (remarks ++ remark ∷ [])) (sym (facts_more found i finding within is))
          (zip_push (Explains m) (map fact_of (take i found)) remarks (fact_of finding) remark so_far.1 explained),
    )

-- remarks for the facts of a model, and hints, are what is told of it
pub tells_of : (m : ModelView) (all : Bool) (found : List Fact) (remarks hints told : List Remark) → found ≡ facts m all
    → map gist_of remarks ≡ map (fact_gist m) found → AllZip (Explains m) found remarks → All (λ remark. is_hint remark.kind ≡ true) hints
    → IsInOrder (remarks ++ hints) told → Tells m all told
tells_of m all found remarks hints told are gists explained are_hints order = record {
  found = remarks;
  hints = hints;
  findings = gists ∙ ap (map (fact_gist m)) are;
  explained = subst (λ fs. AllZip (Explains m) fs remarks) are explained;
  are_hints = are_hints;
  order = order;
}
