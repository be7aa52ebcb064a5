use Rattle.std.proofs.Common.{◌≡◌, ◌-◌, ◌<◌, ◌∙◌, arith, ap, sym, [], List, ℕ, Bor, map, take}
use Rattle.rv_access.specs.Words.{Words}
use Rattle.rv_lists.specs.Kept.{after, next}
use Rattle.rv_lists.specs.declared.kept.Kept.{Kept}
use Rattle.rv_lists.proofs.Reading.{one_on}
use Rattle.rv_lists.proofs.series_reader.+put_together.Goals as goal
use Rattle.rv_lists.proofs.series_reader.+put_together.Goals.{then-not-is_whole+in_ok-put_together, else-not-is_whole}

pub returns-clause-lines : goal.returns-clause-lines
returns-clause-lines t c =
    let now : Bor Words → Words = λ x. x.now in
    let kept : List Kept = c.args.kept.now in
    let last : Kept = c.index-kept-number.result in
    let before : List Words = map now c.as_slice.result.now in
    let some : 0 < c.args.number = omega arith in
    let there : next (after [] (take (c.args.number - 1) kept)) last ≡ after [] (take c.args.number kept) =
    one_on kept c.args.number last some c.requires.there c.index-kept-number.is in
    let value : before ≡ map now c.if-not-is_whole.lines.items = ap (map now) c.as_slice.ensures.value in
    c.in_ok-lines.ensures ∙ elim c.if-not-is_whole.branch [
      | then-not-is_whole+in_ok-put_together w ↦
          ap (λ (lines : List Words). next lines last)
          (value ∙ ap (λ v. map now v.items) w.lines-is ∙ w.in_ok-put_together.ensures.lines
          ∙ ap (λ (n : ℕ). after [] (take n kept)) w.in_ok-put_together.ensures.at)
          ∙ there
      | else-not-is_whole w ↦
          c.is_whole.ensures before w.if-not-is_whole.false ∙ sym (c.is_whole.ensures (after [] (take (c.args.number - 1) kept)) w.if-not-is_whole.false) ∙ there
    ]
