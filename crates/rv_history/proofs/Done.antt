-- Nothing but an end or a settle is answered Done.
use Rattle.std.proofs.Common.{◌≡◌, ℕ, Some, true, ap}
use Rattle.rv_event.specs.Recorded.{recorded}
use Rattle.rv_event.specs.declared.entry.Answer.TheVariants as Answers
use Rattle.rv_event.specs.declared.entry.Next.{Next}
use Rattle.rv_event.specs.declared.entry.Recorded.TheVariants as Words
use Rattle.rv_event.specs.declared.entry.Request.{Request}
use Rattle.rv_history.specs.Due.{out}
use Rattle.rv_history.specs.HandOver.{serves}
use Rattle.rv_history.specs.History.{History}
use Rattle.rv_history.proofs.Tells.{word_tells}

pub done_serves : (h : History) (a : ℕ) (r : Request) (next : Next) → recorded (out h a r) ≡ Some (Words.Done next) → serves r ≡ true
done_serves h a r next e = word_tells h a r (Words.Done next) e

pub only_serving : (h : History) (a : ℕ) (r : Request) (next : Next) → out h a r ≡ Answers.Done next → serves r ≡ true
only_serving h a r next e = done_serves h a r next (ap recorded e)
