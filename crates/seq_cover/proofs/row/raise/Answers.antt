use Rattle.std.proofs.Common.{◌≡◌, ◌<◌, ◌∷◌, ◌++◌, [], ◌∙◌, inl, inr, length, ap, arith}
use Rattle.std.proofs.lemmas.Bool.{cases_eq}
use Rattle.seq_cover.specs.Building.{open_gain}
use Rattle.seq_cover.proofs.BuildLemmas.{raised_here, raised_there}
use Rattle.seq_cover.proofs.row.raise.Goals as goal

pub overflow_add-gains : goal.overflow_add-gains
overflow_add-gains c =
    let few = c.requires.few c.loop-last.last 0 c.loop-last-test.true in
    let still = c.loop-last.invariant.still c.loop-last.last (omega arith) in
    let more = c.raised.ensures.few in
    omega (arith, few, still, more)

pub loop-last-preserved : goal.loop-last-preserved
loop-last-preserved c =
    let before = c.loop-last.invariant in
    let gains = c.loop-last.gains in
    let at = c.loop-last.last in
    let by = c.raised.result in
    let o = c.args.opened.now in
    let within : at < length gains = let long = c.loop-last.auto.gains in let test = c.loop-last-test.true in omega (arith, long, test) in
    let still = before.still at (omega arith) in
    let more = c.raised.ensures.few in record {
      still = λ last above. raised_there gains at by within last (λ same. omega (arith, same, above)) ∙ before.still last (omega (arith, above));
      few = λ last below. elim (cases_eq last at) [
        | inl same ↦
            let now = raised_here gains at by within last same in
            let was = before.still last (omega (arith, same)) in
            omega (arith, now, was, more)
        | inr apart ↦ let now = raised_there gains at by within last apart in let was = before.few last below in omega (arith, now, was)
      ];
      value = λ row last are once below was. elim (cases_eq last at) [
        | inl same ↦
            let now = raised_here gains at by within last same in
            let kept = before.still last (omega (arith, same)) in
            let here : open_gain o row last ≡ open_gain o row at = ap (open_gain o row) same in
            let there : open_gain o (row ++ c.args.event ∷ []) last ≡ open_gain o (row ++ c.args.event ∷ []) at = ap (open_gain o (row ++ c.args.event ∷ [])) same in
            let rises = c.raised.ensures.value row are once in
            omega (arith, now, kept, was, here, there, rises)
        | inr apart ↦ raised_there gains at by within last apart ∙ before.value row last are once (omega (arith, below, apart)) was
      ];
    }

pub returns-clause-value : goal.returns-clause-value
returns-clause-value c = λ row last are once within was.
    let done = c.loop-last-test.false in
    c.loop-last.invariant.value row last are once (omega (arith, done, within)) was
