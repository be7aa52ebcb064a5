use Rattle.std.proofs.Common.{◌≡◌, ◌++◌, drop, map}
use Rattle.rv_choice.specs.Actors.{actor_of, said_by}
use Rattle.rv_choice.proofs.actors.actors_in.Given as goal

-- those so far, and behind them what the words say that are left, is what all say
abbrev pub invariant-loop-word : goal.invariant-loop-word
invariant-loop-word l = said_by l.actors.items ++ map (λ w. actor_of w.now) (drop l.word-index l.words) ≡ map (λ w. actor_of w.now) l.words
