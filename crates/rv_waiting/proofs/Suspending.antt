-- The suspension objects, at first and as an entry is added.
use Rattle.std.proofs.Common.{◌≡◌, [], length, replicate, ap}
use Rattle.std.proofs.lemmas.List.{length-replicate}
use Rattle.rv_suspend.specs.Suspension.{Suspension, initially}
use Rattle.rv_waiting.specs.Limits.{most_places}
use Rattle.rv_waiting.specs.Suspensions.{AreCollected, AreSuspensions}
use Rattle.rv_waiting.proofs.Arrays.{all_alike}

-- at first

pub fresh_long : length (replicate most_places initially) ≡ most_places
fresh_long = length-replicate most_places initially

pub fresh_are : AreSuspensions [] (replicate most_places initially)
fresh_are o = all_alike most_places initially o

pub fresh_collected : AreCollected (replicate most_places initially)
fresh_collected o = ap (λ (s : Suspension). s.released) (fresh_are o)

-- an entry that is no call of the object leaves it

-- and one that is a call of it does what it does
