-- Words that name a suite name no proof file.
use Rattle.std.proofs.Common.{◌≡◌, ℕ, Some, Bool, true, false, ◌&&◌, ◌||◌, List, [], ◌∷◌, Option, None, inl, inr, refl, sym, ap, ◌∙◌}
use Rattle.std.specs.Prelude.{fold}
use Rattle.std.specs.List.{list_any}
use Rattle.std.proofs.lemmas.Bool.{cases_Bool, false≢true, or_parts}
use Rattle.value_text.proofs.ListLemmas.{or_or}
use Rattle.definitions.specs.believed.Settings.{Setting, Order, Separator, Alias, Prefix, SeedFile, ShuffleValues, CaseCounts, Statistics, Workers}
use Rattle.definitions.specs.believed.Settings.{Budget, ProofFile, ProofFormat, MeasureFile, Make, SuspectFile, Settings, defaults, set, settings_of}
use Rattle.definitions.specs.believed.Words.{is_generating, is_measuring}
use Rattle.pict_cli.specs.declared.kinds.Kinds.{Kinds}
use Rattle.pict_cli.specs.believed.Modes.{Mode, mode_beside, mode_in, mode_of, output_of}
use Rattle.pict_cli.specs.Modes.{makes_suite}
use Rattle.pict_cli.specs.Options.{excludes_by_kinds, is_suspecting, joined_kinds, kind_of, kinds_of}
use Rattle.pict_cli.proofs.KindLemmas.{clash}

-- settings are about a suite that is given, and about one that is generated too
abbrev pub is_torn : Kinds → Bool
is_torn k = (k.measuring || k.suspecting) && k.generating

pub one_whole : (x : Setting) → is_torn (kind_of x) ≡ false
one_whole (Order order) = refl
one_whole (Separator c) = refl
one_whole (Alias c) = refl
one_whole (Prefix c) = refl
one_whole (SeedFile name) = refl
one_whole (ShuffleValues _) = refl
one_whole CaseCounts = refl
one_whole Statistics = refl
one_whole (Workers n) = refl
one_whole (Budget effort) = refl
one_whole (ProofFile name) = refl
one_whole (ProofFormat n) = refl
one_whole (MeasureFile name) = refl
one_whole (Make n) = refl
one_whole (SuspectFile name) = refl

-- kinds that exclude no others aren't torn by them
given_apart : (measuring suspecting generating other : Bool) → (measuring && generating) ≡ false → (suspecting && (generating || other)) ≡ false
    → ((measuring || suspecting) && generating) ≡ false
given_apart true suspecting generating other h k = h
given_apart false true generating other h k = (or_parts generating other k).0
given_apart false false generating other h k = refl

unexcluded : (a b : Kinds) → excludes_by_kinds a b ≡ false → ((a.measuring || a.suspecting) && b.generating) ≡ false
unexcluded a b h =
    let first = (or_parts (a.measuring && b.generating || a.suspecting && (b.generating || b.measuring)) (a.making && b.of_a_file) h).0 in
    let both = or_parts (a.measuring && b.generating) (a.suspecting && (b.generating || b.measuring)) first in
    given_apart a.measuring a.suspecting b.generating b.measuring both.0 both.1

together : (x y p q : Bool) → (x && p) ≡ false → (y && q) ≡ false → (x && q) ≡ false → (y && p) ≡ false → ((x || y) && (p || q)) ≡ false
together true y p q xp yq xq yp = ap (λ b. b || q) xp ∙ xq
together false true p q xp yq xq yp = ap (λ b. b || q) yp ∙ yq
together false false p q xp yq xq yp = refl

pub joined_whole : (a b : Kinds) → is_torn a ≡ false → is_torn b ≡ false → clash b a ≡ false → is_torn (joined_kinds a b) ≡ false
joined_whole a b whole_a whole_b apart =
    let parts = or_parts (excludes_by_kinds b a) (excludes_by_kinds a b) apart in
    ap (λ given. given && (a.generating || b.generating)) (or_or a.measuring b.measuring a.suspecting b.suspecting)
    ∙ together (a.measuring || a.suspecting) (b.measuring || b.suspecting) a.generating b.generating whole_a whole_b (unexcluded a b parts.1) (unexcluded b a parts.0)

-- settings that name no suite, no results, and no proof file
same_suite : (s : Settings) (x : Setting) → is_measuring x ≡ false → (set s x).measure ≡ s.measure
same_suite s (Order order) h = refl
same_suite s (Separator c) h = refl
same_suite s (Alias c) h = refl
same_suite s (Prefix c) h = refl
same_suite s (SeedFile name) h = refl
same_suite s (ShuffleValues _) h = refl
same_suite s CaseCounts h = refl
same_suite s Statistics h = refl
same_suite s (Workers n) h = refl
same_suite s (Budget effort) h = refl
same_suite s (ProofFile name) h = refl
same_suite s (ProofFormat n) h = refl
same_suite s (MeasureFile name) h = absurd (false≢true (sym h))
same_suite s (Make n) h = refl
same_suite s (SuspectFile name) h = refl

same_results : (s : Settings) (x : Setting) → is_suspecting x ≡ false → (set s x).suspect ≡ s.suspect
same_results s (Order order) h = refl
same_results s (Separator c) h = refl
same_results s (Alias c) h = refl
same_results s (Prefix c) h = refl
same_results s (SeedFile name) h = refl
same_results s (ShuffleValues _) h = refl
same_results s CaseCounts h = refl
same_results s Statistics h = refl
same_results s (Workers n) h = refl
same_results s (Budget effort) h = refl
same_results s (ProofFile name) h = refl
same_results s (ProofFormat n) h = refl
same_results s (MeasureFile name) h = refl
same_results s (Make n) h = refl
same_results s (SuspectFile name) h = absurd (false≢true (sym h))

same_proof : (s : Settings) (x : Setting) → is_generating x ≡ false → (set s x).proof ≡ s.proof
same_proof s (Order order) h = refl
same_proof s (Separator c) h = refl
same_proof s (Alias c) h = refl
same_proof s (Prefix c) h = refl
same_proof s (SeedFile name) h = refl
same_proof s (ShuffleValues _) h = refl
same_proof s CaseCounts h = refl
same_proof s Statistics h = refl
same_proof s (Workers n) h = refl
same_proof s (Budget effort) h = refl
same_proof s (ProofFile name) h = absurd (false≢true (sym h))
same_proof s (ProofFormat n) h = refl
same_proof s (MeasureFile name) h = refl
same_proof s (Make n) h = refl
same_proof s (SuspectFile name) h = refl

no_suite : (settings : List Setting) (s : Settings) → list_any is_measuring settings ≡ false → (fold set s settings).measure ≡ s.measure
no_suite [] s none = refl
no_suite (x ∷ settings) s none =
    let parts = or_parts (is_measuring x) (list_any is_measuring settings) none in
    no_suite settings (set s x) parts.1 ∙ same_suite s x parts.0

no_results : (settings : List Setting) (s : Settings) → list_any is_suspecting settings ≡ false → (fold set s settings).suspect ≡ s.suspect
no_results [] s none = refl
no_results (x ∷ settings) s none =
    let parts = or_parts (is_suspecting x) (list_any is_suspecting settings) none in
    no_results settings (set s x) parts.1 ∙ same_results s x parts.0

no_proof : (settings : List Setting) (s : Settings) → list_any is_generating settings ≡ false → (fold set s settings).proof ≡ s.proof
no_proof [] s none = refl
no_proof (x ∷ settings) s none =
    let parts = or_parts (is_generating x) (list_any is_generating settings) none in
    no_proof settings (set s x) parts.1 ∙ same_proof s x parts.0

-- a run that generates no suite makes no model
not_beside : (make : Option ℕ) (mode : Mode) → makes_suite (mode_beside make mode) ≡ false → makes_suite mode ≡ false
not_beside None mode h = h
not_beside (Some n) mode h = absurd (false≢true (sym h))

-- settings that aren't torn, for a run that generates no suite, name no proof file
pub whole_unproved : (settings : List Setting) → is_torn (kinds_of settings) ≡ false → makes_suite (mode_of (settings_of settings)) ≡ false
    → (settings_of settings).proof ≡ None
whole_unproved settings whole other =
    let about = kinds_of settings in
    let s = settings_of settings in
    elim (cases_Bool (about.measuring || about.suspecting)) [
      | inl some ↦ no_proof settings defaults (ap (λ b. b && about.generating) (sym some) ∙ whole)
      | inr none ↦
          let parts = or_parts about.measuring about.suspecting none in
          absurd (false≢true (sym (not_beside s.make (mode_in s.suspect s.measure (output_of s)) other)
          ∙ ap (λ results. makes_suite (mode_in results s.measure (output_of s))) (no_results settings defaults parts.1)
          ∙ ap (λ suite. makes_suite (mode_in None suite (output_of s))) (no_suite settings defaults parts.0)))
    ]
