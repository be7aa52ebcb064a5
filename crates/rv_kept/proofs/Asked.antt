-- What a text asks, from what the machines leave as it was.
use Rattle.std.proofs.Common.{◌≡◌, ℕ, true, Option, Some, None, ap, ◌∙◌, subst, inl, inr}
use Rattle.std.specs.Prelude.{Bool}
use Rattle.rv_event.specs.declared.entry.Answer.{Answer}
use Rattle.rv_event.specs.declared.entry.Answer.TheVariants.{OutOfMemory}
use Rattle.rv_event.specs.declared.entry.Request.{Request}
use Rattle.rv_go.specs.Goes.{asks}
use Rattle.rv_go.specs.Texts.{TextsView, texts_view, behind}
use Rattle.rv_history.specs.Due.{out}
use Rattle.rv_history.specs.History.{History}
use Rattle.rv_history.specs.Legal.{after}
use Rattle.rv_kept.specs.Keeping.{AsksNext, FiresBy, Fires, Goes, Same, has_text}
use Rattle.rv_kept.specs.declared.kept.Kept.{Kept}

both_same : (old mid new : Kept) → mid.host ≡ old.host → texts_view mid.texts ≡ texts_view old.texts → Same mid new → Same old new
both_same old mid new h t same = record { host = same.host ∙ h; texts = same.texts ∙ t }

same_before : (actor : ℕ) (request : Option Request) (old mid new : Kept) (answer : Answer) → mid.host ≡ old.host → texts_view mid.texts ≡ texts_view old.texts
    → AsksNext actor request mid new answer → AsksNext actor request old new answer
same_before actor None old mid new answer h t (same, is) = (both_same old mid new h t same, is)
same_before actor (Some request) old mid new answer h t (inl a) = inl (record {
  due = a.due ∙ ap (λ (x : History). out x actor request) h;
  history = a.history ∙ ap (λ (x : History). after x actor request answer) h;
  texts = a.texts ∙ (λ i. behind (h i).shapes (t i) actor true request answer);
})
same_before actor (Some request) old mid new answer h t (inr (same, is)) = inr (both_same old mid new h t same, is)

-- what was asked is what the text asks next
pub gone : (actor : ℕ) (request : Option Request) (old mid new : Kept) (answer : Answer) → mid.host ≡ old.host → texts_view mid.texts ≡ texts_view old.texts
    → request ≡ asks (texts_view old.texts) old.host actor → AsksNext actor request mid new answer → Goes actor old new answer
gone actor request old mid new answer h t is asked =
    inl (subst (λ (x : Option Request). AsksNext actor x old new answer) is (same_before actor request old mid new answer h t asked))

-- there was no memory to ask it
pub lacking : (actor : ℕ) (old new : Kept) (answer : Answer) → new.host ≡ old.host → texts_view new.texts ≡ texts_view old.texts → answer ≡ OutOfMemory
    → Goes actor old new answer
lacking actor old new answer h t is = inr (record { host = h; texts = t }, is)

-- an interrupt, by whether its handler has a text
pub fired : (b : Bool) (line : ℕ) (old new : Kept) (answer : Answer) → b ≡ has_text old line → FiresBy b line old new answer → Fires line old new answer
fired b line old new answer is fires = subst (λ (x : Bool). FiresBy x line old new answer) is fires
