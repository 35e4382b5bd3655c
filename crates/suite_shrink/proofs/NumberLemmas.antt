-- The numbers of given rows, by way of the first ones.
use Rattle.std.proofs.Common.{◌≡◌, ℕ, ◌<◌, List, map, length, get_or, Option, ◌∙◌, sym, subst, arith}
use Rattle.std.proofs.lemmas.List.{get_or-map, length-map}
use Rattle.std.proofs.lemmas.List.Elements.{All-get_or, All-map, All-weaker}
use Rattle.cov_model.specs.believed.Sound.{ModelView}
use Rattle.shrink_search.specs.Fewer.{AreFewer}

-- rows that stand for some of the first ones stand for given ones
pub fewer_given : (m : ModelView) (given first rows : List (List (Option ℕ))) (places numbers : List ℕ) → AreFewer m given places first
    → AreFewer m first numbers rows → AreFewer m given (map (λ number. get_or places number 0) numbers) rows
fewer_given m given first rows places numbers firsts fewer =
    let number : ℕ → ℕ = λ n. get_or places n 0 in
    let long : length (map number numbers) ≡ length numbers = length-map numbers number in
    record {
      as_many = long ∙ fewer.as_many;
      exist = All-map (λ n. n < length given) number numbers
          (All-weaker (λ n. n < length first) (λ n. number n < length given) (λ n below. firsts.exist n 0 (omega (arith, below, firsts.as_many))) numbers
          fewer.exist);
      rising = λ i j d before within.
          let last : j < length numbers = omega (arith, within, long) in
          let earlier : i < length numbers = omega (arith, before, last) in
          let below : get_or numbers j 0 < length first = All-get_or (λ n. n < length first) numbers j 0 last fewer.exist in
          subst (λ k. k < get_or (map number numbers) j d) (sym (get_or-map number numbers i 0 d earlier))
          (subst (λ k. number (get_or numbers i 0) < k) (sym (get_or-map number numbers j 0 d last))
          (firsts.rising (get_or numbers i 0) (get_or numbers j 0) 0 (fewer.rising i j 0 before last) (omega (arith, below, firsts.as_many))));
      fit = fewer.fit;
    }
