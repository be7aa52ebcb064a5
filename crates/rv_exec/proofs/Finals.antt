-- Answers that stop bodies are recorded nowhere.
use Rattle.std.proofs.Common.{◌≡◌, true, None, refl}
use Rattle.rv_event.specs.Recorded.{recorded}
use Rattle.rv_event.specs.declared.entry.Answer.{Answer}
use Rattle.rv_event.specs.declared.entry.Answer.TheVariants as answer
use Rattle.rv_exec.specs.Stops.{is_final, stops_bodies}

pub stop_none : (r : Answer) → stops_bodies r ≡ true → recorded r ≡ None
stop_none answer.Halted e = refl
stop_none answer.Full e = refl
stop_none answer.Misuse e = refl
stop_none r e = absurd (cc e)

pub final_none : (r : Answer) → is_final r ≡ true → recorded r ≡ None
final_none answer.Halted e = refl
final_none answer.Full e = refl
final_none r e = absurd (cc e)
