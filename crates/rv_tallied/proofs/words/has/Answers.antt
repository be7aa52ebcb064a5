use Rattle.std.proofs.Common.{◌≡◌, true, sym, ap, ◌∙◌, arith}
use Rattle.std.specs.Prelude.{string_bytes}
use Rattle.std.specs.Str.{bytes_eq}
use Rattle.rv_tallied.proofs.Rowing.{any_at}
use Rattle.rv_tallied.proofs.words.has.Goals as goal

pub returns-then-eq : goal.returns-then-eq
returns-then-eq c =
    let e = c.eq.ensures in
    let f = c.if-eq.ensures in
    let g = c.if-eq.true in
    let is : bytes_eq c.args.words.now (string_bytes c.other-item.result) ≡ true = grind arith in
    sym (any_at string_bytes (bytes_eq c.args.words.now) c.args.seen.now c.loop-other.other-index c.other-item.result (omega arith) (ap (λ (x : _). bytes_eq c.args.words.now (string_bytes x)) (sym c.other-item.is) ∙ is))
