-- A run goes on behind an answer.
use Rattle.std.proofs.Common.{◌≡◌, [], ◌∷◌, ◌++◌, sym, ap, subst, ◌∙◌}
use Rattle.rv_event.specs.declared.entry.Answer.{Answer}
use Rattle.rv_event.specs.declared.entry.Request.{Request}
use Rattle.rv_exec.proofs.Runs.{ran_end, ran_ask_then}
use Rattle.rv_exec.specs.Asking.{Trace, Asking, Ran}
use Rattle.rv_frames.specs.Frames.{Now}
use Rattle.rv_machine.specs.declared.next.Final.{Final}
use Rattle.rv_machine.specs.Machines.{answered, final_of, AsksNow, EndsNow}

pub goes_on : {S : Type 0} (went : S → Trace → S → Type 0) → ((s t u : S) (a b : Trace) → went s a t → went t b u → went s (a ++ b) u)
    → (s t u : S) (first before after : Asking Now) (q : Request) (r : Answer) (now : Now)
    → before ≡ first → AsksNow before q → after ≡ answered before r → went s ((q, r) ∷ []) t → Ran went t after u now → Ran went s first u now
goes_on went both s t u first before after q r now same asks leads step ran =
    let behind : after ≡ asks.0 r = leads ∙ ap (λ (w : Asking Now). answered w r) asks.1 in
    subst (λ (w : Asking Now). Ran went s w u now) (sym asks.1 ∙ same)
    (ran_ask_then went both s t u q r asks.0 now step (subst (λ (w : Asking Now). Ran went t w u now) behind ran))

pub comes_to_end : {S : Type 0} (went : S → Trace → S → Type 0) → ((s : S) → went s [] s)
    → (s t : S) (first begun last : Asking Now) (how : Final)
    → last ≡ begun → EndsNow last how → ((now : Now) (after : S) → Ran went t begun after now → Ran went s first after now)
    → (now : Now) × Ran went s first t now × (how ≡ final_of now)
comes_to_end went none s t first begun last how same ends ahead =
    (ends.0, ahead ends.0 t (ran_end went none t begun ends.0 (sym same ∙ ends.1)), ends.2)
