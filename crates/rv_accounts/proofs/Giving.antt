-- What a start gives.
use Rattle.std.proofs.Common.{◌≡◌, ℤ, Some, ap, sym, ◌∙◌}
use Rattle.rv_event.specs.Past.{scalars}
use Rattle.rv_event.specs.declared.entry.Answer.TheVariants as Answers
use Rattle.rv_event.specs.declared.entry.Request.TheVariants.{Call, Fire, Resume}
use Rattle.rv_history.specs.Rules.{Aim, aim_at}
use Rattle.rv_history.proofs.Tells.{out_tells}
use Rattle.rv_accounts.specs.Given.{CallsGiveScalars, FiresGiveScalars, ResumesGiveScalars}

pub calls_give : CallsGiveScalars
calls_give h a o p vs s e =
    let t = out_tells h a (Call o p vs) (Answers.Started s) e (λ f. cc f) in
    t.given ∙ sym (ap (λ (m : Aim). scalars h.shapes m.0 h.past) t.aimed)

pub fires_give : FiresGiveScalars
fires_give h a o p s handles e =
    let t = out_tells h a Fire (Answers.Started s) e (λ f. cc f) in
    t.given ∙ sym (ap (λ (m : Aim). scalars h.shapes m.0 h.past) (sym (ap (aim_at h.shapes) handles) ∙ t.aimed))

pub resumes_give : ResumesGiveScalars
resumes_give h a s e = (out_tells h a Resume (Answers.Woken (Some s)) e (λ f. cc f)).1.1
