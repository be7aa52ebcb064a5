use Rattle.std.proofs.Common.{[], refl, ap, ◌∙◌, List}
use Rattle.rv_history.specs.Legal.{empty}
use Rattle.rv_tallied.specs.Tallies.{kept_for}
use Rattle.rv_hits.specs.Counts.{joined}
use Rattle.rv_hits.specs.declared.counts.Counted.{Counted}
use Rattle.rv_hits.proofs.hits.Hits.new.Goals as goal

pub returns-clause-begins : goal.returns-clause-begins
returns-clause-begins c = λ limits. record {
  gathers = record {
    taken = refl;
    holding = c.new.ensures [];
    words = rw c.new-3.ensures.items refl;
    counts = rw c.new-4.ensures.items tt;
    tallies = λ words. ap (λ (counts : List Counted). joined counts words (kept_for c.new-5.result words)) c.new-4.ensures.items ∙ c.new-5.ensures words;
    unmatched = refl;
  };
  tabled = c.new-2.ensures (empty limits);
}
