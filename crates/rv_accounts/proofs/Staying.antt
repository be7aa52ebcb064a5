-- What is explained stays explained.
use Rattle.std.proofs.Common.{◌≡◌, ⊎_elim, ℕ, List, [], ◌∷◌, ◌++◌, Bool, true, false, cond, eqb, eq-eqb, refl, sym, ap, ◌∙◌, subst, append_assoc}
use Rattle.rv_event.specs.declared.entry.Recorded.{Recorded}
use Rattle.rv_event.specs.declared.entry.Recorded.TheVariants.{Done}
use Rattle.rv_event.specs.declared.entry.Request.{Request}
use Rattle.rv_event.specs.declared.entry.Request.TheVariants.{Complete}
use Rattle.rv_turn.specs.Histories.{StartsWith, mine}
use Rattle.rv_meant.proofs.Nesting.{place_of}
use Rattle.rv_behind.specs.Events.{by}
use Rattle.rv_behind.specs.declared.event.Event.{Event}
use Rattle.rv_behind.specs.declared.event.Event.TheVariants.{Asks}
use Rattle.rv_accounts.specs.Explained.{NothingToExplain, ExplainedStays, OthersExplainNothing}
use Rattle.rv_accounts.proofs.Growing.{mine_rest}

pub stays : ExplainedStays
stays limits seen later actor w old new before after scalars exit next e =
    ⊎_elim (λ h. old before h.0 scalars exit next h.1)
    (λ h. new before after scalars exit next (h.0, h.1) e)
    (place_of (Asks actor (Complete scalars exit) (Done next)) seen w.0 before after (sym w.1 ∙ e))

own_first : (actor : ℕ) (request : Request) (word : Recorded) (after : List Event) (k : Bool) → eqb actor actor ≡ k → cond k (Asks actor request word ∷ mine by actor after) (mine by actor after) ≡ [] → ⊥
own_first actor request word after true is e = cc e
own_first actor request word after false is e = cc (eq-eqb actor actor refl, is)

pub not_mine : (actor : ℕ) (request : Request) (word : Recorded) (before after : List Event) → mine by actor (before ++ Asks actor request word ∷ after) ≡ [] → ⊥
not_mine actor request word [] after e = own_first actor request word after (eqb actor actor) refl e
not_mine actor request word (x ∷ before) after e = by_test (eqb (by x) actor) (not_mine actor request word before after) e where
  by_test : (k : Bool) → (mine by actor (before ++ Asks actor request word ∷ after) ≡ [] → ⊥) → cond k (x ∷ mine by actor (before ++ Asks actor request word ∷ after)) (mine by actor (before ++ Asks actor request word ∷ after)) ≡ [] → ⊥
  by_test true f m = cc m
  by_test false f m = f m

-- an event of the actor, in what others added to, stands in what was seen before
pub none_behind : (actor : ℕ) (seen later : List Event) → StartsWith later seen → mine by actor later ≡ mine by actor seen → (before after : List Event) (request : Request) (word : Recorded) (p : StartsWith before seen)
    → later ≡ before ++ Asks actor request word ∷ after → ⊥
none_behind actor seen later w same before after request word p e =
    not_mine actor request word p.0 after
    (mine_rest actor seen later (p.0 ++ Asks actor request word ∷ after, e ∙ (ap (λ (l : List Event). l ++ Asks actor request word ∷ after) p.1 ∙ append_assoc seen p.0 (Asks actor request word ∷ after))) same)

pub nothing : NothingToExplain
nothing limits seen actor none before after scalars exit next e =
    absurd (not_mine actor (Complete scalars exit) (Done next) before after (subst (λ (l : List Event). mine by actor l ≡ []) e none))

pub others : OthersExplainNothing
others limits seen later actor w same old =
    stays limits seen later actor w old (λ before after scalars exit next p e. absurd (none_behind actor seen later w same before after (Complete scalars exit) (Done next) p e))
