-- The page of a suite, from what is said of it, and where a page is what is asked for.
use Rattle.std.proofs.Common.{◌≡◌, ℕ, Bool, true, false, cond, List, [], ◌∷◌, Option, is_some, ap, sym, ◌∙◌}
use Rattle.cov_model.specs.believed.Sound.{ModelView}
use Rattle.definitions.specs.believed.ProofText.{Omission}
use Rattle.html_page.specs.believed.Trees.{page_text}
use Rattle.model_page.specs.believed.Pages.{page_of}
use Rattle.proof_check.specs.declared.verdict.Verdict.{Verdict}
use Rattle.jeldroft_args.specs.declared.show.Show.{Show}
use Rattle.jeldroft_show.specs.believed.Due.{is_page, text_shown}
use Rattle.jeldroft_show.specs.believed.Pages.{suite_page}
use Rattle.jeldroft_show.specs.believed.Words.{suite_words}

module _ (m : ModelView) (rows : List (List (Option ℕ))) (omissions : List Omission) where
  abbrev pub page_with : List ℕ → Bool → List ℕ → List ℕ → List ℕ → List ℕ → List ℕ
  page_with name accepted verdict remark size least =
      page_text (page_of m rows omissions (record { name = name; accepted = accepted; verdict = verdict; remark = remark; numbers = size ∷ least ∷ [] }))

  pub same_page : {name name' verdict verdict' remark remark' size size' least least' : List ℕ} {accepted accepted' : Bool}
      → name ≡ name' → accepted ≡ accepted' → verdict ≡ verdict' → remark ≡ remark' → size ≡ size' → least ≡ least'
      → page_with name accepted verdict remark size least ≡ page_with name' accepted' verdict' remark' size' least'
  same_page {name} {name'} {verdict} {verdict'} {remark} {remark'} {size} {size'} {least} {least'} {accepted} {accepted'} n a v r s l =
      ap (λ x. page_with x accepted verdict remark size least) n
      ∙ ap (λ x. page_with name' x verdict remark size least) a
      ∙ ap (λ x. page_with name' accepted' x remark size least) v
      ∙ ap (λ x. page_with name' accepted' verdict' x size least) r
      ∙ ap (λ x. page_with name' accepted' verdict' remark' x least) s
      ∙ ap (λ x. page_with name' accepted' verdict' remark' size' x) l

-- the text that is shown where a page is asked for, and where it isn't
module _ (args : Show) (m : ModelView) (rows : List (List (Option ℕ))) (omissions : List Omission) (given : Verdict) where
  abbrev page : List ℕ
  page = suite_page args.model.name m rows (is_some args.proof) omissions given

  abbrev words : List ℕ
  words = suite_words m rows (is_some args.proof) omissions given

  pub shown_as_page : is_page args.format ≡ true → page ≡ text_shown args m rows omissions given
  shown_as_page asked = sym (ap (λ b. cond b page words) asked)

  pub shown_in_words : is_page args.format ≡ false → words ≡ text_shown args m rows omissions given
  shown_in_words asked = sym (ap (λ b. cond b page words) asked)
