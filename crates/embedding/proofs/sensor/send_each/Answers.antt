use Rattle.std.proofs.Common.{◌≡◌, ◌∷◌, ◌∙◌, true, rules, tests, to_z, of_z, w64}
use Rattle.rv_crew.specs.Tasks.{goes_on}
use Rattle.embedding.proofs.sensor.send_each.Goals as goal

pub returns-then-not-goes_on-clause-samples : goal.returns-then-not-goes_on-clause-samples
returns-then-not-goes_on-clause-samples g c = let was = c.loop-line.invariant in
    (record { number = to_z w64 (of_z w64 c.in-Some-number_of.number); reached = c.send-reached.result } ∷ was.0.0, (c.loop-line.port, was.0.1, was.0.2, c.send-reached.ensures.sample))

pub loop-line-preserved : goal.loop-line-preserved
loop-line-preserved g c = let was = c.loop-line.invariant in
    let more : goes_on c.send-reached.result ≡ true = search (rules, tests) in (
      (
        record { number = to_z w64 (of_z w64 c.in-Some-number_of.number); reached = c.send-reached.result } ∷ was.0.0,
        (c.loop-line.port, was.0.1, was.0.2, c.send-reached.ensures.sample),
        (more, was.0.2),
      ),
      c.send-reached.ensures.stays.0 ∙ was.1,
      c.send-reached.ensures.stays.1 ∙ was.2,
    )
