use Rattle.std.proofs.Common.{◌∙◌, ap, arith, length, Option, ℕ}
use Rattle.std.specs.Prelude.{is_some}
use Rattle.rv_event.specs.Past.{closed}
use Rattle.rv_present.specs.Unsettled.{counted}
use Rattle.rv_present.proofs.Leaving.{counted_left}
use Rattle.rv_present.proofs.unsettled.Unsettled.has.Goals as goal

pub returns-in-Some : goal.returns-in-Some
returns-in-Some c = λ left objects k.
    omega (
      arith,
      counted_left left c.args.self.now objects c.in-Some.actor k,
      ap (λ (q : Option ℕ). length (closed q left)) c.in-Some.is,
      ap counted (c.is_some.ensures ∙ ap is_some c.of.ensures),
    )

pub returns-in-None : goal.returns-in-None
returns-in-None c = λ left objects k. omega (arith, k.count, ap (λ (q : Option ℕ). length (closed q left)) c.in-None.is)
