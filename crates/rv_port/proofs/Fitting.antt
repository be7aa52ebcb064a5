-- The calls of the bodies that a control or a port has seen fit the units.
use Rattle.std.proofs.Common.{◌≡◌, ⊎_elim, true, false, eqb, List, [], ◌∷◌, reverse, map, Some, sym, ap, ◌∙◌, subst}
use Rattle.std.specs.Prelude.{Result, Ok, Err, MatchResult}
use Rattle.rv_code.specs.Bodies as Code
use Rattle.rv_code.specs.BodyView.{unit_view}
use Rattle.rv_exec.specs.Bodies.{all_of}
use Rattle.rv_ranged.specs.Ranged.{catalogue_ranged}
use Rattle.rv_fits.specs.Fits.{calls_fit}
use Rattle.rv_turn.specs.Histories.{mine}
use Rattle.rv_turn.specs.Passes.{Acted, IsWorn, Meets}
use Rattle.rv_turn.specs.declared.pass.Worn.{Worn}
use Rattle.rv_behind.specs.Acting.{all_numbered, BodiesFit, Does, IsLent}
use Rattle.rv_behind.specs.Events.{by, catalogue_of, units_in}
use Rattle.rv_behind.specs.declared.event.Ask.{Ask}
use Rattle.rv_behind.specs.declared.event.Event.{Event}
use Rattle.rv_behind.specs.declared.event.Event.TheVariants.{Loads}
use Rattle.rv_behind.specs.declared.event.Reply.{Reply}
use Rattle.rv_behind.proofs.Fitting.{stay_fit}
use Rattle.rv_port.specs.Traces.{Passing}
use Rattle.rv_port.proofs.Bodies.{units-append}
use Rattle.rv_port.proofs.Catalogues.{same_catalogue, read_mine}

-- The units' bodies are those of the operator's own events

no_units : (e : Event) → eqb (by e) 0 ≡ false → units_in (e ∷ []) ≡ []
no_units (Loads s u) h = absurd (cc h)
no_units e h = λ i. []

units_mine : (log : List Event) → units_in (reverse (mine by 0 log)) ≡ units_in (reverse log)
units_mine log = read_mine units_in units-append no_units log

-- two histories with the same events of the operator have the same bodies
pub same_fit : (one two : List Event) → mine by 0 one ≡ mine by 0 two → BodiesFit one → BodiesFit two
same_fit one two e f =
    let units : units_in (reverse two) ≡ units_in (reverse one) = sym (units_mine two) ∙ (ap (λ (l : List Event). units_in (reverse l)) (sym e) ∙ units_mine one) in
    record {
      numbered = (λ i. all_numbered (same_catalogue two one (sym e) i) (map unit_view (units i))) ∙ f.numbered;
      calls = (λ i. calls_fit (same_catalogue two one (sym e) i) (all_of (map unit_view (units i)))) ∙ f.calls;
      ranges = (λ i. catalogue_ranged (same_catalogue two one (sym e) i) (all_of (map unit_view (units i)))) ∙ f.ranges;
    }

-- Bodies that were lent

pub lent_calls : (log : List Event) (bodies : Code.UnitBodies) → IsLent log (Some bodies) → calls_fit (catalogue_of log) bodies ≡ true
lent_calls log bodies lent = subst (λ (z : Code.UnitBodies). calls_fit (catalogue_of log) z ≡ true) (sym lent.0) lent.1.calls

-- After an act, and after a note was met

pub act_fits : {T : Type 0} (v w : Passing) (ask : Ask) (says : T → Reply) (answer : Result T Worn) → BodiesFit v.seen
    → MatchResult answer (λ r. Acted by Does v ask (says r) w) (λ _. IsWorn v w) → BodiesFit w.seen
act_fits v w ask says (Ok r) f a = stay_fit a.about a.at v.actor ask (says r) w.seen a.answer
act_fits v w ask says (Err e) f t = subst (λ (z : Passing). BodiesFit z.seen) (sym t.1) f

pub meet_fits : (v w : Passing) (note : List Event) → BodiesFit v.seen → BodiesFit note → Meets by v note w → BodiesFit w.seen
meet_fits v w note f g m = ⊎_elim (λ e. subst BodiesFit (sym e) f) (λ e. subst BodiesFit (sym e) g) m.no_more
