-- A text that is followed stays so.
use Rattle.std.proofs.Common.{◌≡◌, ⊎_elim, inl, inr, ℕ, List, ◌∙◌, sym}
use Rattle.rv_event.specs.declared.entry.Answer.{Answer}
use Rattle.rv_event.specs.declared.entry.Request.{Request}
use Rattle.rv_exec.specs.Asking.{Trace}
use Rattle.rv_history.specs.declared.limits.Limits.{Limits}
use Rattle.rv_turn.specs.Histories.{StartsWith, mine}
use Rattle.rv_turn.specs.Prefixes.{starts_both}
use Rattle.rv_meant.proofs.Nesting.{place_of}
use Rattle.rv_behind.specs.Events.{by}
use Rattle.rv_behind.specs.declared.event.Event.{Event}
use Rattle.rv_behind.specs.declared.event.Event.TheVariants.{Asks}
use Rattle.rv_accounts.specs.Followed.{IsAccounted, FollowedStays}
use Rattle.rv_accounts.specs.Seen.{OwnAreDue}
use Rattle.rv_accounts.proofs.Growing.{others_stay}
use Rattle.rv_accounts.proofs.Staying.{none_behind}

accounted : (limits : Limits) (actor acts fewer : ℕ) (began seen later : List Event) (before : Trace) (request : Request) (answer : Answer) (behind : Trace) → (acts ≡ 0 → fewer ≡ 0) → StartsWith later seen
    → IsAccounted limits actor acts began seen before request answer behind → IsAccounted limits actor fewer began later before request answer behind
accounted limits actor acts fewer began seen later before request answer behind few w (inl r) = inl r
accounted limits actor acts fewer began seen later before request answer behind few w (inr (inl d)) =
    inr (inl (d.0, record { front = d.1.front; later = d.1.later; seen_then = starts_both d.1.front seen later d.1.seen_then w; legal = d.1.legal; had_asked = d.1.had_asked; due = d.1.due }))
accounted limits actor acts fewer began seen later before request answer behind few w (inr (inr n)) = inr (inr (n.0, few n.1, n.2))

-- what others add is none of the actor's
due_stays : (limits : Limits) (actor : ℕ) (seen later : List Event) → StartsWith later seen → mine by actor later ≡ mine by actor seen → OwnAreDue limits actor seen → OwnAreDue limits actor later
due_stays limits actor seen later w same old before after request word e =
    ⊎_elim (λ h. old before h.0 request word h.1)
    (λ h. absurd (none_behind actor seen later w same before after request word (h.0, h.1) e))
    (place_of (Asks actor request word) seen w.0 before after (sym w.1 ∙ e))

pub stays : FollowedStays
stays limits actor budget acts fewer since seen later few w same f = record {
  began = f.began;
  later = f.later;
  from = starts_both f.began seen later f.from w;
  fit = f.fit;
  task = f.task;
  trace = f.trace;
  exit = f.exit;
  along = f.along;
  entries = others_stay limits actor seen later w same ∙ f.entries;
  due = due_stays limits actor seen later w same f.due;
  each = λ before request answer behind e. accounted limits actor acts fewer f.began seen later before request answer behind few w (f.each before request answer behind e);
}
