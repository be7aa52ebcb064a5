use Rattle.std.proofs.Common.{◌∙◌, ap, arith, length, List, Option, ℕ}
use Rattle.std.specs.Prelude.{is_some, slice_get}
use Rattle.rv_event.specs.Past.{closed}
use Rattle.rv_prio.specs.declared.held.Held.{Held}
use Rattle.rv_present.specs.Unsettled.{counted}
use Rattle.rv_present.proofs.UnderWay.{counted_bodies}
use Rattle.rv_present.proofs.bodies.Bodies.has.Goals as goal

pub returns-in-Some : goal.returns-in-Some
returns-in-Some c = λ shapes bodies k.
    omega (
      arith,
      counted_bodies shapes bodies c.args.self.now c.in-Some.actor k,
      ap (λ (q : Option ℕ). length (closed q bodies)) c.in-Some.is,
      ap counted (c.is_some.ensures ∙ ap is_some (c.innermost.ensures ∙ ap (λ (hs : List Held). slice_get hs 0) c.of.ensures)),
    )

pub returns-in-None : goal.returns-in-None
returns-in-None c = λ shapes bodies k. omega (arith, k.count, ap (λ (q : Option ℕ). length (closed q bodies)) c.in-None.is)
