use Rattle.std.proofs.Common.{[], refl}
use Rattle.rv_whatif.proofs.whatif.WhatIf.new.Goals as goal

pub returns-clause-begins : goal.returns-clause-begins
returns-clause-begins c = λ limits. record {
  taken = refl;
  list = refl;
  holding = c.new.ensures [];
  text = c.new-2.ensures.bytes;
  calls = rw c.new-3.ensures.items refl;
  tallies = c.new-4.ensures;
}
