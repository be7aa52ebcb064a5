-- The bodies that last are those that are under way.
use Rattle.std.proofs.Common.{◌≡◌, ℕ, Bool, true, false, List, [], ◌∷◌, Some, None, Option, map, refl, sym, ap, ◌∙◌, if◌then◌else◌}
use Rattle.std.specs.Prelude.{◌==◌, max}
use Rattle.std.specs.List.{filter}
use Rattle.rv_access.specs.Words.{Words}
use Rattle.rv_prio.specs.Priority.{greatest}
use Rattle.rv_shape.specs.Catalogue.{ceiling, who}
use Rattle.rv_shape.specs.Shape.{Shape}
use Rattle.rv_event.specs.Past as past
use Rattle.rv_event.specs.declared.entry.Body.{Body}
use Rattle.rv_event.specs.declared.entry.Entry.{Entry}
use Rattle.rv_event.specs.declared.entry.Entry.TheVariants.{Asked, Load, ListChange}
use Rattle.rv_history.specs.History.{History}
use Rattle.rv_history.specs.Journal.{shapes_before}
use Rattle.rv_history.specs.Legal.{IsLegal, Legal}
use Rattle.rv_history.specs.Subject.{active, base_of}
use Rattle.rv_history.specs.declared.limits.Limits.{Limits}
use Rattle.rv_history.proofs.Growing.{front_is}
use Rattle.rv_history.proofs.Loaded.{way_stays}
use Rattle.rv_lasting.specs.Tracks as Tracks
use Rattle.rv_lasting.specs.declared.track.Begun.{Begun}
use Rattle.rv_waits.specs.Lasting.{Bodies, begun_at, lasting}
use Rattle.rv_explained.specs.Explanations.{priority_by}

abbrev pub calls_in : List Begun → List Body
calls_in begun = map (λ it. it.call) begun

opened_is : (call : Option Body) (before : List Entry) (begun : List Begun) → calls_in (Tracks.opened (begun_at before call) begun) ≡ past.begun call (calls_in begun)
opened_is None before begun = refl
opened_is (Some call) before begun = refl

without_one : (actor : ℕ) (b : Bool) (it : Begun) (rest : List Begun) → calls_in (Tracks.without actor rest) ≡ past.without actor (calls_in rest) →
    calls_in (if b then rest else it ∷ Tracks.without actor rest) ≡ (if b then calls_in rest else it.call ∷ past.without actor (calls_in rest))
without_one actor true it rest e = refl
without_one actor false it rest e = ap (λ (bodies : List Body). it.call ∷ bodies) e

without_is : (actor : ℕ) (begun : List Begun) → calls_in (Tracks.without actor begun) ≡ past.without actor (calls_in begun)
without_is actor [] = refl
without_is actor (it ∷ rest) = without_one actor (it.call.actor == actor) it rest (without_is actor rest)

closed_is : (actor : Option ℕ) (begun : List Begun) → calls_in (Tracks.closed actor begun) ≡ past.closed actor (calls_in begun)
closed_is None begun = refl
closed_is (Some actor) begun = without_is actor begun

after_one : (shapes : List Shape) (before : List Entry) (e : Entry) (begun : List Begun) → calls_in begun ≡ past.under_way shapes before →
    calls_in (Tracks.opened (begun_at before (past.started shapes before e)) (Tracks.closed (past.ended e) begun)) ≡ past.under_way shapes (e ∷ before)
after_one shapes before e begun same =
    opened_is (past.started shapes before e) before (Tracks.closed (past.ended e) begun)
    ∙ ap (λ (bodies : List Body). past.begun (past.started shapes before e) bodies) (closed_is (past.ended e) begun ∙ ap (λ (bodies : List Body). past.closed (past.ended e) bodies) same)

under_way_in : (limits : Limits) (before : List Entry) (shapes : List Shape) (lists : List (List Words)) → IsLegal limits before shapes lists → calls_in (lasting Bodies shapes before) ≡ past.under_way shapes before
under_way_in limits [] shapes lists legal = refl
under_way_in limits (Asked a r w ∷ before) shapes lists legal =
    after_one shapes before (Asked a r w) (lasting Bodies shapes before) (under_way_in limits before shapes lists legal.0)
under_way_in limits (Load ∷ before) shapes lists legal =
    ap (λ (ss : List Shape). calls_in (lasting Bodies (shapes_before Load ss) before)) legal.2
    ∙ ap (λ (ss : List Shape). calls_in (lasting Bodies ss before)) (front_is legal.0 legal.1)
    ∙ under_way_in limits before legal.0 lists legal.3
    ∙ sym (way_stays limits before legal.0 (legal.1 ∷ []) lists legal.3)
    ∙ ap (λ (ss : List Shape). past.under_way ss before) (sym legal.2)
under_way_in limits (ListChange ∷ before) shapes lists legal = under_way_in limits before shapes legal.0 legal.3

pub are_under_way : (h : History) → Legal h → calls_in (lasting Bodies h.shapes h.past) ≡ past.under_way h.shapes h.past
are_under_way h legal = under_way_in h.limits h.past h.shapes h.lists legal

-- the active priority by the calls of bodies
abbrev greatest_of : List Shape → ℕ → ℕ → List Body → ℕ
greatest_of shapes base actor bodies = greatest base (map (λ body. ceiling shapes body.object) (filter (λ body. body.actor == actor) bodies))

one_more : (shapes : List Shape) (base actor rest : ℕ) (call : Body) (bodies : List Body) (b : Bool) → rest ≡ greatest_of shapes base actor bodies →
    (if b then max (ceiling shapes call.object) rest else rest) ≡ greatest base (map (λ body. ceiling shapes body.object) (if b then call ∷ filter (λ body. body.actor == actor) bodies else filter (λ body. body.actor == actor) bodies))
one_more shapes base actor rest call bodies true e = ap (λ (n : ℕ). max (ceiling shapes call.object) n) e
one_more shapes base actor rest call bodies false e = e

by_calls : (shapes : List Shape) (base actor : ℕ) (begun : List Begun) → priority_by shapes base actor begun ≡ greatest_of shapes base actor (calls_in begun)
by_calls shapes base actor [] = refl
by_calls shapes base actor (it ∷ begun) =
    one_more shapes base actor (priority_by shapes base actor begun) it.call (calls_in begun) (it.call.actor == actor) (by_calls shapes base actor begun)

pub active_is : (h : History) (shapes : List Shape) (actor base : ℕ) (bodies : List Begun) → Legal h → shapes ≡ h.shapes → base ≡ base_of (who shapes actor) → bodies ≡ lasting Bodies h.shapes h.past →
    priority_by shapes base actor bodies ≡ active h actor
active_is h shapes actor base bodies legal names base_is bodies_are =
    by_calls shapes base actor bodies
    ∙ ap (λ (ss : List Shape). greatest_of ss base actor (calls_in bodies)) names
    ∙ ap (λ (n : ℕ). greatest_of h.shapes n actor (calls_in bodies)) (base_is ∙ ap (λ (ss : List Shape). base_of (who ss actor)) names)
    ∙ ap (λ (bs : List Body). greatest_of h.shapes (base_of (who h.shapes actor)) actor bs) (ap calls_in bodies_are ∙ are_under_way h legal)
