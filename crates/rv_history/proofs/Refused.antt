-- A refused call or fired line leaves everything as it was.
use Rattle.std.proofs.Common.{◌≡◌, ℕ, false, sym, refl}
use Rattle.rv_event.specs.declared.entry.Request.{Request}
use Rattle.rv_event.specs.declared.entry.Request.TheVariants.{Call, Complete, Settle, Resume, Quit}
use Rattle.rv_event.specs.declared.entry.Rule.{Rule}
use Rattle.rv_event.specs.declared.entry.Answer.TheVariants.{Refused}
use Rattle.rv_history.specs.History.{History}
use Rattle.rv_history.specs.Due.{goes_on}
use Rattle.rv_history.specs.Legal.{after}
use Rattle.rv_history.specs.Untouched.{Untouched}
use Rattle.rv_history.proofs.Answered.{off}

pub refused_leaves : (h : History) (a : ℕ) (r : Request) (rule : Rule) (line version : ℕ) → goes_on r ≡ false → Untouched h (after h a r (Refused rule line version))
refused_leaves h a (Call o p vs) rule l v e = record { scalars_stay = λ o. refl; queues_stay = λ o. refl; barriers_stay = λ o. refl; held_stays = λ o. refl; exclusion_stays = λ o f. refl }
refused_leaves h a (Complete vs x) rule l v e = absurd (off (sym e))
refused_leaves h a Settle rule l v e = absurd (off (sym e))
refused_leaves h a Resume rule l v e = absurd (off (sym e))
refused_leaves h a Quit rule l v e = absurd (off (sym e))
refused_leaves h a r rule l v e = record { scalars_stay = λ o. refl; queues_stay = λ o. refl; barriers_stay = λ o. refl; held_stays = λ o. refl; exclusion_stays = λ o f. refl }
