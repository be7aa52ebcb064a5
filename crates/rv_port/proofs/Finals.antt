-- What a body is told that goes on no more.
use Rattle.std.proofs.Common.{◌≡◌, refl}
use Rattle.rv_event.specs.declared.entry.Answer.{Answer}
use Rattle.rv_event.specs.declared.entry.Answer.TheVariants as Answers
use Rattle.rv_exec.specs.Stops.{is_final, stops_bodies}
use Rattle.rv_port.specs.Traces.{told}

pub final_is : (d : Answer) → is_final (told d) ≡ stops_bodies d
final_is Answers.Halted = refl
final_is d = refl
