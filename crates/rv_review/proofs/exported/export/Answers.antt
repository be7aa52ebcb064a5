use Rattle.rv_review.proofs.exported.export.Goals as goal

pub returns : goal.returns
returns g c = c.review.ensures (λ limits units. c.new-observer.ensures limits)
