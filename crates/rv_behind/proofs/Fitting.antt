-- Behind an act all bodies fit the units still.
use Rattle.std.proofs.Common.{◌≡◌, ⊎_elim, Bool, true, List, [], ◌∷◌, ◌++◌, reverse, map, Some, None, sym, ap, ◌∙◌, subst}
use Rattle.std.proofs.lemmas.List.{reverse-append}
use Rattle.rv_shape.specs.Shape.{Shape}
use Rattle.rv_code.specs.BodyView.{unit_view}
use Rattle.rv_code.specs.declared.body.UnitBodies.{UnitBodies}
use Rattle.rv_exec.specs.Bodies.{all_of}
use Rattle.rv_fits.proofs.Found.{numbered_found, calls_found, ranges_found}
use Rattle.rv_ranged.specs.Ranged.{catalogue_ranged}
use Rattle.rv_fits.specs.Fits.{calls_fit}
use Rattle.rv_behind.specs.Acting.{all_numbered, BodiesFit, BodiesStayFit, fits_behind}
use Rattle.rv_behind.specs.Adding.{MayAdd, due_adds}
use Rattle.rv_behind.specs.Events.{catalogue_of, shapes_of, units_at, units_in}
use Rattle.rv_behind.specs.declared.event.Ask.{Ask}
use Rattle.rv_behind.specs.declared.event.Ask.TheVariants as Wants
use Rattle.rv_behind.specs.declared.event.Event.{Event}
use Rattle.rv_behind.specs.declared.event.Event.TheVariants.{Asks, Loads, Lists}
use Rattle.rv_behind.proofs.Doing.{one_more_fits, one_more_numbered, one_more_ranged}

-- the same of events, the newest first
abbrev back_fits : List Event → Bool
back_fits es = calls_fit (shapes_of es) (all_of (map unit_view (units_in es)))

abbrev back_ranged : List Event → Bool
back_ranged es = catalogue_ranged (shapes_of es) (all_of (map unit_view (units_in es)))

abbrev back_numbered : List Event → Bool
back_numbered es = all_numbered (shapes_of es) (map unit_view (units_in es))

-- what is read of the events newest first, after one more
pub newest_first : {X : Type 0} (p : List Event → X) (log : List Event) (e : Event) → p (reverse (log ++ e ∷ [])) ≡ p (e ∷ reverse log)
newest_first p log e = ap p (reverse-append log (e ∷ []))

load_fits : (log : List Event) (shape : Shape) (unit : UnitBodies) → fits_behind log shape unit ≡ true → BodiesFit log → BodiesFit (log ++ Loads shape (Some unit) ∷ [])
load_fits log shape unit new f = record {
  numbered = newest_first back_numbered log (Loads shape (Some unit)) ∙ one_more_numbered (catalogue_of log) shape (units_at log) unit f.numbered (numbered_found (catalogue_of log) shape (unit_view unit) new);
  calls = newest_first back_fits log (Loads shape (Some unit)) ∙ one_more_fits (catalogue_of log) shape (units_at log) unit f.numbered f.calls (calls_found (catalogue_of log) shape (unit_view unit) new);
  ranges = newest_first back_ranged log (Loads shape (Some unit)) ∙ one_more_ranged (catalogue_of log) shape (units_at log) unit f.numbered f.ranges (ranges_found (catalogue_of log) shape (unit_view unit) new);
}

event_fits : (log : List Event) (e : Event) (ask : Ask) → MayAdd log e ask → BodiesFit log → BodiesFit (log ++ e ∷ [])
event_fits log (Asks a q word) ask may f = record { numbered = newest_first back_numbered log (Asks a q word) ∙ f.numbered; calls = newest_first back_fits log (Asks a q word) ∙ f.calls; ranges = newest_first back_ranged log (Asks a q word) ∙ f.ranges }
event_fits log (Lists list) ask may f = record { numbered = newest_first back_numbered log (Lists list) ∙ f.numbered; calls = newest_first back_fits log (Lists list) ∙ f.calls; ranges = newest_first back_ranged log (Lists list) ∙ f.ranges }
event_fits log (Loads shape None) ask may f = absurd may
event_fits log (Loads shape (Some unit)) (Wants.Load wanted bodies) may f = load_fits log shape unit may f
event_fits log (Loads shape (Some unit)) ask may f = absurd may

pub stay_fit : BodiesStayFit
stay_fit limits log a ask reply after d =
    ⊎_elim (λ same. subst BodiesFit (sym same) d.1) (λ x. subst BodiesFit (sym x.1) (event_fits log x.0 ask x.3 d.1)) (due_adds limits log a ask reply after d.2)
