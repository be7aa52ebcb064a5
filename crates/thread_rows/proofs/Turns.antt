-- A control stays that of its turn.
use Rattle.std.proofs.Common.{◌≡◌, ap}
use Rattle.std.specs.Prelude.{Result, Ok, Err, MatchResult}
use Rattle.rv_event.specs.declared.entry.Answer.{Answer}
use Rattle.rv_turn.specs.Passes.{IsWorn}
use Rattle.rv_turn.specs.declared.pass.Worn.{Worn}
use Rattle.rv_port.specs.Controls.{Told}
use Rattle.rv_port.specs.Traces.{Passing}
use Rattle.rv_behind.specs.declared.event.Ask.{Ask}

pub told_turn : (v w : Passing) (ask : Ask) (answer : Result Answer Worn) → MatchResult answer (λ r. Told v ask r w) (λ _. IsWorn v w) → w.turn ≡ v.turn
told_turn v w ask (Ok r) t = ap (λ (z : Passing). z.turn) t.2.same
told_turn v w ask (Err e) t = ap (λ (z : Passing). z.turn) t.1
