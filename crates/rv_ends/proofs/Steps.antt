-- One ask, and where it leads.
use Rattle.std.proofs.Common.{◌≡◌, ◌⊎◌, [], ◌∷◌, true, false, None, inl, inr, refl, sym, ap, ◌∙◌, subst}
use Rattle.rv_event.specs.declared.entry.Answer.{Answer}
use Rattle.rv_event.specs.declared.entry.Answer.TheVariants.{Full}
use Rattle.rv_event.specs.declared.entry.Request.{Request}
use Rattle.rv_exec.specs.Asking.{Trace, stands}
use Rattle.rv_ends.specs.Explained.{is_unasked, unasked}
use Rattle.rv_ends.specs.Following.{IsOther, Place, Plays, gone_on, may_follow, missed}

pub one_passed : (p : Place) (request : Request) → p.other ≡ None → is_unasked p.shapes p.held request ≡ true → Plays p ((request, unasked) ∷ []) p
one_passed p request none is = (p, inl (none, is, refl, refl), refl)

pub one_recorded : (p q : Place) (request : Request) (answer : Answer) (rest : Trace) → (p.other ≡ None → is_unasked p.shapes p.held request ≡ false) → may_follow p.other request ≡ true → p.asked ≡ (request, answer) ∷ rest → q ≡ gone_on p rest answer →
    Plays p ((request, answer) ∷ []) q
one_recorded p q request answer rest asks may at is = (q, inr (inl (asks, may, rest, at, is)), refl)

-- where nothing is left, any ask is another
pub none_left : (p : Place) (request : Request) → p.asked ≡ [] → IsOther p request
none_left p request empty = λ answer rest at. absurd (no_ask (request, answer) rest (sym empty ∙ at))
  where
    no_ask : (x : Request × Answer) (xs : Trace) → [] ≡ x ∷ xs → ⊥
    no_ask x xs e = cc

-- where the next one is another, or may not follow
pub not_next : (p : Place) (request : Request) (first : Request × Answer) (left : Trace) → p.asked ≡ first ∷ left
    → (first.0 ≡ request → (stands first.1 ≡ true) ⊎ (may_follow p.other request ≡ false)) → IsOther p request
not_next p request first left is other = λ answer rest at.
    let same = head_is first (request, answer) left rest (sym is ∙ at) in
    subst (λ (a : Answer). (stands a ≡ true) ⊎ (may_follow p.other request ≡ false)) (ap (λ (x : Request × Answer). x.1) same)
    (other (ap (λ (x : Request × Answer). x.0) same))
  where
    head_is : (a b : Request × Answer) (xs ys : Trace) → a ∷ xs ≡ b ∷ ys → a ≡ b
    head_is a b xs ys e = cc

pub one_missed : (p q : Place) (request : Request) → (p.other ≡ None → is_unasked p.shapes p.held request ≡ false) → IsOther p request → q ≡ missed p request → Plays p ((request, Full) ∷ []) q
one_missed p q request asks other is = (q, inr (inr (refl, asks, other, is)), refl)
