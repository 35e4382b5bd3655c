-- Texts that are the same as earlier ones.
use Rattle.std.proofs.Common.{◌≡◌, ℕ, ◌+◌, ◌<◌, Bool, true, false, ◌||◌, List, [], ◌∷◌, ◌++◌, length}
use Rattle.std.proofs.Common.{map, take, drop, get_or, refl, sym, ap, ◌∙◌, drop-cons, add-one}
use Rattle.std.proofs.lemmas.List.{map-append, take_more}
use Rattle.std.specs.List.{list_any}
use Rattle.std.specs.Str.{bytes_eq}
use Rattle.value_text.specs.believed.Texts.{folded, is_same_text}
use Rattle.value_text.proofs.ListLemmas.{list_any-map}
use Rattle.model_parse.specs.ValueSteps.{is_known}
use Rattle.acts_front.specs.believed.ParameterLines.{has_repeated}

module _ {T : Type 0} (text : T → List ℕ) (fold : Bool) (texts : List T) where
  -- none is repeated before a place, and names are those before it as the case rule compares them
  pub record NoneRepeated (names : List (List ℕ)) (place : ℕ) : Type 0 where
    pub kept : names ≡ map (folded fold) (map text (take place texts))
    pub rest : has_repeated fold [] (map text texts) ≡ has_repeated fold (map text (take place texts)) (map text (drop place texts))

  pub none_yet : NoneRepeated [] 0
  none_yet = record { kept = refl; rest = refl }

  module _ (names : List (List ℕ)) (place : ℕ) (d : T) (none : NoneRepeated names place) (within : place < length texts) where
    here : drop place texts ≡ get_or texts place d ∷ drop (place + 1) texts
    here = rw (drop-cons texts place d, add-one) refl

    known : is_known fold names (text (get_or texts place d)) ≡ list_any (is_same_text fold (text (get_or texts place d))) (map text (take place texts))
    known = ap (list_any (bytes_eq (folded fold (text (get_or texts place d))))) none.kept
        ∙ list_any-map (bytes_eq (folded fold (text (get_or texts place d)))) (folded fold) (map text (take place texts))

    pub repeated_here : is_known fold names (text (get_or texts place d)) ≡ true → has_repeated fold [] (map text texts) ≡ true
    repeated_here is =
        none.rest ∙ (ap (λ left. has_repeated fold (map text (take place texts)) (map text left)) here
        ∙ ap (λ b. b || has_repeated fold (map text (take place texts) ++ text (get_or texts place d) ∷ []) (map text (drop (place + 1) texts))) (sym known ∙ is))

    pub none_here : (more : List (List ℕ)) → more ≡ names ++ folded fold (text (get_or texts place d)) ∷ []
        → is_known fold names (text (get_or texts place d)) ≡ false → NoneRepeated more (place + 1)
    none_here more grown is =
        let front : map text (take (place + 1) texts) ≡ map text (take place texts) ++ text (get_or texts place d) ∷ [] =
        ap (map text) (take_more texts place d within) ∙ map-append text (take place texts) (get_or texts place d ∷ []) in
        record {
          kept = grown ∙ (ap (λ list. list ++ folded fold (text (get_or texts place d)) ∷ []) none.kept
              ∙ (sym (map-append (folded fold) (map text (take place texts)) (text (get_or texts place d) ∷ [])) ∙ ap (map (folded fold)) (sym front)));
          rest = none.rest ∙ (ap (λ left. has_repeated fold (map text (take place texts)) (map text left)) here
              ∙ (ap (λ b. b || has_repeated fold (map text (take place texts) ++ text (get_or texts place d) ∷ []) (map text (drop (place + 1) texts))) (sym known ∙ is)
              ∙ ap (λ list. has_repeated fold list (map text (drop (place + 1) texts))) (sym front)));
        }
