use Rattle.std.proofs.Common.{List, ℕ, ◌<◌, subst, ap, arith}
use Rattle.std.specs.Prelude.{option_map, string_bytes}
use Rattle.rv_input.specs.Coming.{ReadsAs, Reading, most_bytes}
use Rattle.rv_input.proofs.Told.{told_as}
use Rattle.rv_input.proofs.FirstLines.{takes_past, takes_text}
use Rattle.rv_input.proofs.input.Input.line.Goals as goal

pub returns-clause-comes : goal.returns-clause-comes
returns-clause-comes g c =
    let text = option_map string_bytes c.in_ok-text.text in
    let reads : ReadsAs c.in_ok-raw.raw.items text = subst (λ (l : List ℕ). ReadsAs l text) c.as_slice.ensures.value c.in_ok-text.ensures in
    told_as _ _ _ _ (λ x y t. takes_text _ c.in_ok-raw.raw.items x y text reads t) c.in_ok-raw.ensures.comes

pub returns-then-self-gt-MOST_BYTES-clause-comes : goal.returns-then-self-gt-MOST_BYTES-clause-comes
returns-then-self-gt-MOST_BYTES-clause-comes g c =
    let given = ap (λ (v : Reading). v.given) c.self.view_is in
    let past : most_bytes < c.raw_line.new.self.given = omega (arith, given) in
    told_as _ _ _ _ (λ x y t. takes_past c.raw_line.new.self.given c.in_ok-raw.raw.items x y past t) c.in_ok-raw.ensures.comes
