-- A call, or a fired line, starts exactly when it is allowed.
use Rattle.std.proofs.Common.{◌≡◌, ℕ, ◌-◌, List, ◌∷◌, Some, None, Option, Bool, true, false, ap, sym, ◌∙◌, refl}
use Rattle.std.specs.Prelude.{ℤ, not, ◌&&◌, ◌↔◌, if◌then◌else◌}
use Rattle.rv_event.specs.Recorded.{recorded}
use Rattle.rv_shape.specs.Catalogue.{OperationNumber, Site, Target, Nowhere, OnProtected, handler}
use Rattle.rv_event.specs.Past.{halted, scalars}
use Rattle.rv_event.specs.declared.entry.Entry.TheVariants.{Asked}
use Rattle.rv_event.specs.declared.entry.Request.{Request}
use Rattle.rv_event.specs.declared.entry.Request.TheVariants.{Call, Fire}
use Rattle.rv_event.specs.declared.entry.Rule.{Rule}
use Rattle.rv_event.specs.declared.entry.Recorded.TheVariants.{Started}
use Rattle.rv_event.specs.declared.entry.Answer.{Answer}
use Rattle.rv_event.specs.declared.entry.Answer.TheVariants as Answers
use Rattle.rv_history.specs.History.{History, version}
use Rattle.rv_history.specs.Allowance.{may_spend}
use Rattle.rv_history.specs.Owed.{has_room}
use Rattle.rv_history.specs.Subject.{subject}
use Rattle.rv_history.specs.Rules.{Aim, aim, aim_at, is_protected, breaks, decided, first_at, rules}
use Rattle.rv_history.specs.Due.{out, due, within, enough, gate, table, goes_on, due_call, due_fire, unless_refused}
use Rattle.rv_history.specs.Headline.{IsAllowed}
use Rattle.rv_history.proofs.Answered.{off, and_none, answered}
use Rattle.rv_history.proofs.Tells.{word_tells}
use Rattle.rv_history.proofs.Violations.{none_violated}

pub not_halted : (b c : Bool) → c ≡ false → (b && not c) ≡ false → b ≡ false
not_halted true true h e = absurd (off (sym h))
not_halted true false h e = absurd (off (sym e))
not_halted false c h e = refl

pub started_allowed : (h : History) (a : ℕ) (r : Request) → recorded (out h a r) ≡ Some Started → IsAllowed h a r
started_allowed h a r e =
    let g = answered h a r Started e in
    let t = (word_tells h a r Started e).1 in
    record {
      object = t.object;
      site = t.site;
      wanted = t.aimed;
      fitting = g.fitting;
      going = not_halted (halted h.past) (goes_on r) t.outward g.unshut;
      lawful = λ rule. ap (λ (w : Aim). breaks h rule a r w.0 w.1) t.aimed ∙ t.passed.lawful rule;
      free = t.passed.free;
      open_to = t.passed.opened;
    }

-- what is due where it is allowed
allowed_call : (h : History) (a : ℕ) (r : Request) (w : IsAllowed h a r) → due_call h a r (aim h.shapes a r).0 (aim h.shapes a r).1 ≡ Answers.Started (scalars h.shapes w.object h.past)
allowed_call h a r w =
    let at = w.wanted in
    let kept : (rule : Rule) → breaks h rule a r w.object (OnProtected w.site) ≡ false = λ rule. sym (ap (λ (v : ℕ × Target). breaks h rule a r v.0 v.1) at) ∙ w.lawful rule in
    let none : first_at h a r w.object (OnProtected w.site) ≡ None = none_violated (λ rule. breaks h rule a r w.object (OnProtected w.site)) rules kept in
    ap (λ (v : ℕ × Target). due_call h a r v.0 v.1) at
    ∙ (λ i. unless_refused (version h) (decided h (subject h a) (OnProtected w.site)) (none i) (if w.free i then Answers.Busy else (if w.open_to i then Answers.Queued else Answers.Started (scalars h.shapes w.object h.past))))

pub nowhere_else : (o : ℕ) (s : Site) → (let aim : Aim = (0, Nowhere) in aim ≡ (o, OnProtected s)) → ⊥
nowhere_else o s at = off (ap (λ (w : Aim). is_protected w.1) at)

pub allowed_due : (h : History) (a : ℕ) (r : Request) (w : IsAllowed h a r) → table h a r ≡ Answers.Started (scalars h.shapes w.object h.past)
allowed_due h a (Call o p vs) w = allowed_call h a (Call o p vs) w
allowed_due h a Fire w = by_handler (handler h.shapes (a - 1)) refl
  where
    by_handler : (s : Option OperationNumber) → handler h.shapes (a - 1) ≡ s → due_fire h a s ≡ Answers.Started (scalars h.shapes w.object h.past)
    by_handler None is = absurd (nowhere_else w.object w.site (sym (ap (aim_at h.shapes) is) ∙ w.wanted))
    by_handler (Some s) is = sym (ap (λ (v : ℕ × Target). due_call h a Fire v.0 v.1) (ap (aim_at h.shapes) is)) ∙ allowed_call h a Fire w
allowed_due h a r w = absurd (nowhere_else w.object w.site w.wanted)

open_gate : (h : History) (a : ℕ) (r : Request) (w : IsAllowed h a r) → due h a r ≡ Answers.Started (scalars h.shapes w.object h.past)
open_gate h a r w =
    let shut : (halted h.past && not (goes_on r)) ≡ false = and_none _ (not (goes_on r)) w.going in
    λ i. gate (w.fitting i) (shut i) (allowed_due h a r w i)

pub allowed_starts : (h : History) (a : ℕ) (r : Request) (w : IsAllowed h a r) → may_spend h a r ≡ true → has_room h.limits.capacity h.shapes (Asked a r Started ∷ h.past) ≡ true → out h a r ≡ Answers.Started (scalars h.shapes w.object h.past)
allowed_starts h a r w free room =
    let values : List ℤ = scalars h.shapes w.object h.past in
    ap (λ (x : Answer). within (enough h a r (recorded x)) x) (open_gate h a r w) ∙ (λ i. within (free i && room i) (Answers.Started values))

pub allowed_recorded : (h : History) (a : ℕ) (r : Request) → may_spend h a r ≡ true → has_room h.limits.capacity h.shapes (Asked a r Started ∷ h.past) ≡ true → IsAllowed h a r → recorded (out h a r) ≡ Some Started
allowed_recorded h a r free room w = ap recorded (allowed_starts h a r w free room)
