-- The ends that a port recorded are what their texts mean (own).
use Rattle.std.specs.Prelude.{◌≡◌, Bool, false}
use Rattle.rv_accounts.specs.Explained.{Explained}
use Rattle.rv_port.specs.Traces.{Passing, limits_in}

-- each end of the actor, in what was seen, is explained by its text
abbrev pub EndsExplained : Passing → Type 0
EndsExplained v = Explained (limits_in v.about) v.seen v.actor

-- so it is unless bodies that were wanted couldn't be had, which is marked
abbrev pub ExplainedUnless : Bool → Passing → Type 0
ExplainedUnless mark v = mark ≡ false → EndsExplained v
