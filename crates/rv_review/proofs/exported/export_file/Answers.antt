use Rattle.rv_review.proofs.exported.export_file.Goals as goal

pub returns : goal.returns
returns g c = c.review_file.ensures (λ limits units. c.new-observer.ensures limits)
