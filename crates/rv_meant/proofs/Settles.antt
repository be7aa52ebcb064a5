-- Which asks are settles.
use Rattle.std.proofs.Common.{◌≡◌, [], ◌∷◌, true, false, refl}
use Rattle.rv_event.specs.declared.entry.Answer.{Answer}
use Rattle.rv_event.specs.declared.entry.Request.{Request}
use Rattle.rv_event.specs.declared.entry.Request.TheVariants.{Call, Complete, Settle, Resume, DelayUntil, Clock, Fire, Quit, Tick, Halt}
use Rattle.rv_meant.specs.Histories.{ask_of}
use Rattle.rv_meant.specs.Settles.{is_settle}

pub settle_is : (q : Request) → is_settle q ≡ true → q ≡ Settle
settle_is Settle e = refl
settle_is q e = absurd (cc e)

-- each other one is an ask of a text
pub ask_is : (q : Request) (r : Answer) → is_settle q ≡ false → ask_of q r ≡ (q, r) ∷ []
ask_is Settle r e = absurd (cc e)
ask_is q r e = refl

pub none_asked : (q : Request) (r : Answer) → is_settle q ≡ true → ask_of q r ≡ []
none_asked Settle r e = refl
none_asked q r e = absurd (cc e)
