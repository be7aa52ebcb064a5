-- What the calls of a control leave.
use Rattle.std.proofs.Common.{◌≡◌, ℕ, Bool, true, false, eqb, List, [], ◌∷◌, ◌++◌, if◌then◌else◌, ap, sym, refl, ◌∙◌, ⊎_elim, inl, inr, map, length, arith, subst}
use Rattle.std.specs.Prelude.{◌-◌, is_some, IfErr, IfOk, Option, Some, Result, Ok, Err, MatchResult}
use Rattle.rv_turn.specs.declared.pass.Worn.{Worn}
use Rattle.atomic_table.specs.Seated.{TableId}
use Rattle.rv_access.specs.Words.{Words}
use Rattle.rv_access.specs.declared.change.Change.{Change}
use Rattle.rv_lists.specs.Kept.{with_changed}
use Rattle.rv_shape.specs.Shape.{Shape}
use Rattle.rv_history.specs.declared.limits.Limits.{Limits}
use Rattle.rv_history.specs.Legal.{Legal}
use Rattle.rv_history.specs.History.{History}
use Rattle.rv_turn.specs.Histories.{mine}
use Rattle.rv_turn.specs.Passes.{opening_of, Acted, IsWorn, Parted}
use Rattle.rv_event.specs.Recorded.{recorded}
use Rattle.rv_event.specs.declared.entry.Answer.{Answer}
use Rattle.rv_code.specs.BodyView.{unit_view}
use Rattle.rv_code.specs.declared.body.UnitBodies.{UnitBodies}
use Rattle.rv_exec.specs.Bodies.{held, units_of}
use Rattle.rv_exec.specs.declared.bodies.SharedUnit.{SharedUnit}
use Rattle.rv_exec.specs.declared.bodies.Bodies.{Bodies}
use Rattle.rv_behind.specs.Events.{by, log_of, log_in, rest_of, catalogue_of}
use Rattle.rv_behind.specs.Acting.{AreBrought, BodiesFit, Does, Due, LoadedIf, fits_behind, IfOperator}
use Rattle.rv_behind.proofs.Doing.{none_fit, none_numbered, none_ranged}
use Rattle.rv_behind.proofs.Fitting.{stay_fit}
use Rattle.rv_port.specs.Traces.{Passing}
use Rattle.rv_fits.specs.Fits.{are_of}
use Rattle.rv_port.specs.Controls.{AreKept, IsControl, IsLoadFault, ListsNothing, Told, LoadTold, BeginsWith, BringsIf, Brings, no_bodies_of, answer_in, answer_or_worn, lists_at, LoadsNothing}
use Rattle.rv_behind.specs.declared.event.Ask.{Ask}
use Rattle.rv_behind.specs.declared.event.Ask.TheVariants as Wants
use Rattle.rv_behind.specs.declared.event.Reply.{Reply}
use Rattle.rv_behind.specs.declared.event.Reply.TheVariants as Gives
use Rattle.rv_behind.specs.declared.event.Event.{Event}
use Rattle.rv_behind.specs.declared.event.Event.TheVariants.{Loads}
use Rattle.rv_port.specs.Actors.{is_performer, HasHandler}
use Rattle.rv_port.proofs.Actors.{performer_handles}
use Rattle.rv_port.proofs.Fitting.{same_fit}
use Rattle.rv_port.proofs.Catalogues.{same_catalogue, with_event, due_catalogue}
use Rattle.rv_port.proofs.Listing.{change_made, change_unmade, due_lists, kept_along, opened, same_lists}

-- the catalogue of the history that an ask of the operator was answered on
pub at_catalogue : (turn : TableId) (v : Passing) (given : List ℕ) (catalogue : List Shape) (lists : Option (List (List Words))) (log : List Event) → IsControl turn v given catalogue lists → mine by v.actor log ≡ v.base ++ v.own → catalogue ≡ catalogue_of log
at_catalogue turn v given catalogue lists log k owned =
    k.catalogue_is ∙ same_catalogue v.seen log (k.owns ∙ sym (subst (λ (n : ℕ). mine by n log ≡ v.base ++ v.own) k.operator owned))

-- and the lists
pub at_lists : (turn : TableId) (v : Passing) (given : List ℕ) (catalogue : List Shape) (lists : Option (List (List Words))) (log : List Event) → IsControl turn v given catalogue lists
    → mine by v.actor log ≡ v.base ++ v.own → AreKept lists (lists_at log)
at_lists turn v given catalogue lists log k owned =
    kept_along lists (lists_at v.seen) (lists_at log) (same_lists v.seen log (k.owns ∙ sym (subst (λ (n : ℕ). mine by n log ≡ v.base ++ v.own) k.operator owned))) k.lists_are

-- after an act
acted_control : (turn : TableId) (v w : Passing) (given : List ℕ) (catalogue more : List Shape) (lists newer : Option (List (List Words))) → IsControl turn v given catalogue lists
    → w ≡ record v { seen = w.seen; own = w.own; left = v.left - 1 } → mine by w.actor w.seen ≡ w.base ++ w.own → more ≡ catalogue_of w.seen → AreKept newer (lists_at w.seen) → BodiesFit w.seen → IsControl turn w given more newer
acted_control turn v w given catalogue more lists newer k same owns is are fit =
    let actor : w.actor ≡ 0 = ap (λ (z : Passing). z.actor) same ∙ k.operator in record {
      here = ap (λ (z : Passing). z.turn) same ∙ k.here;
      first = ap (λ (z : Passing). z.first) same ∙ k.first;
      operator = actor;
      given_is = ap (λ (z : Passing). z.given) same ∙ k.given_is;
      owns = subst (λ (n : ℕ). mine by n w.seen ≡ w.base ++ w.own) actor owns;
      limited = ap (λ (z : Passing). is_some z.about) same ∙ k.limited;
      catalogue_is = is;
      lists_are = are;
      fit = fit;
    }

-- one that changes no list
acted_lists : (turn : TableId) (v w : Passing) (given : List ℕ) (catalogue : List Shape) (lists : Option (List (List Words))) (ask : Ask) (reply : Reply) → IsControl turn v given catalogue lists → ListsNothing ask
    → Acted by Does v ask reply w → AreKept lists (lists_at w.seen)
acted_lists turn v w given catalogue lists ask reply k n a =
    kept_along lists (lists_at a.at) (lists_at w.seen) (sym (due_lists a.about a.at v.actor ask reply w.seen n a.answer.2)) (at_lists turn v given catalogue lists a.at k a.owned)

pub act_kept : (turn : TableId) (v w : Passing) (given : List ℕ) (catalogue : List Shape) (lists : Option (List (List Words))) (ask : Ask) (reply : Reply) → IsControl turn v given catalogue lists → LoadsNothing ask → ListsNothing ask → Acted by Does v ask reply w → IsControl turn w given catalogue lists
act_kept turn v w given catalogue lists ask reply k n m a =
    acted_control turn v w given catalogue catalogue lists lists k a.same a.owns
    (at_catalogue turn v given catalogue lists a.at k a.owned ∙ sym (due_catalogue a.about a.at v.actor ask reply w.seen n a.answer.2))
    (acted_lists turn v w given catalogue lists ask reply k m a)
    (stay_fit a.about a.at v.actor ask reply w.seen a.answer)

pub worn_kept : (turn : TableId) (v w : Passing) (given : List ℕ) (catalogue : List Shape) (lists : Option (List (List Words))) → IsControl turn v given catalogue lists → IsWorn v w → IsControl turn w given catalogue lists
worn_kept turn v w given catalogue lists k t = subst (λ (z : Passing). IsControl turn z given catalogue lists) (sym t.1) k

-- a load
loaded_catalogue : (b : Bool) (log after : List Event) (shape : Shape) (unit : UnitBodies) → after ≡ (if b then log ++ Loads shape (Some unit) ∷ [] else log)
    → catalogue_of after ≡ (if b then catalogue_of log ++ shape ∷ [] else catalogue_of log)
loaded_catalogue true log after shape unit e = ap catalogue_of e ∙ with_event log (Loads shape (Some unit))
loaded_catalogue false log after shape unit e = ap catalogue_of e

abbrev pub with_loaded : Bool → List Shape → Shape → List Shape
with_loaded b catalogue shape = if b then catalogue ++ shape ∷ [] else catalogue

unkept : (b : Bool) (catalogue : List Shape) (shape : Shape) → b ≡ false → catalogue ≡ with_loaded b catalogue shape
unkept true catalogue shape e = absurd (cc e)
unkept false catalogue shape e = refl

if_catalogue : (fits : Bool) (c : Limits) (log after : List Event) (shape : Shape) (unit : UnitBodies) (r : Answer) → LoadedIf fits c log shape unit r after → catalogue_of after ≡ with_loaded (is_some (recorded r)) (catalogue_of log) shape
if_catalogue true c log after shape unit r d = loaded_catalogue (is_some (recorded r)) log after shape unit d.1
if_catalogue false c log after shape unit r d = ap catalogue_of d.2 ∙ unkept (is_some (recorded r)) (catalogue_of log) shape (ap is_some d.1)

load_due : (c : Limits) (log : List Event) (a : ℕ) (shape : Shape) (unit : SharedUnit) (reply : Reply) (after : List Event) → a ≡ 0 → Due c log a (Wants.Load shape unit) reply after
    → catalogue_of after ≡ with_loaded (is_some (recorded (answer_in reply))) (catalogue_of log) shape
load_due c log a shape unit (Gives.Answered r b lent) after none d =
    if_catalogue (fits_behind log shape (held unit)) c log after shape (held unit) r (subst (λ (n : ℕ). IfOperator (eqb n 0) (LoadedIf (fits_behind log shape (held unit)) c log shape (held unit) r after) r log after) none d)
load_due c log a shape unit reply after none d = absurd d

pub load_told : (turn : TableId) (v w : Passing) (given : List ℕ) (catalogue : List Shape) (lists : Option (List (List Words))) (shape : Shape) (unit : SharedUnit) (r : Answer) → IsControl turn v given catalogue lists → Told v (Wants.Load shape unit) r w
    → IsControl turn w given (with_loaded (is_some (recorded r)) catalogue shape) lists
load_told turn v w given catalogue lists shape unit r k t = let a = t.2 in
    acted_control turn v w given catalogue (with_loaded (is_some (recorded r)) catalogue shape) lists lists k a.same a.owns
    ((λ i. with_loaded (is_some (recorded (t.1 i))) (at_catalogue turn v given catalogue lists a.at k a.owned i) shape)
    ∙ sym (load_due a.about a.at v.actor shape unit t.0 w.seen k.operator a.answer.2))
    (acted_lists turn v w given catalogue lists (Wants.Load shape unit) t.0 k tt a)
    (stay_fit a.about a.at v.actor (Wants.Load shape unit) t.0 w.seen a.answer)

-- a change of the list, which was accepted, and one that wasn't
pub change_more : (turn : TableId) (v w : Passing) (given : List ℕ) (catalogue : List Shape) (lists newer : Option (List (List Words))) (change : Change) (r : Answer) → IsControl turn v given catalogue lists
    → Told v (Wants.Change change) r w → is_some (recorded r) ≡ true → ((before : List (List Words)) → AreKept lists before → AreKept newer (with_changed before change)) → IsControl turn w given catalogue newer
change_more turn v w given catalogue lists newer change r k t e keeps = let a = t.2 in
    acted_control turn v w given catalogue catalogue lists newer k a.same a.owns
    (at_catalogue turn v given catalogue lists a.at k a.owned ∙ sym (due_catalogue a.about a.at v.actor (Wants.Change change) t.0 w.seen tt a.answer.2))
    (kept_along newer (with_changed (lists_at a.at) change) (lists_at w.seen)
    (sym (change_made a.about a.at v.actor change t.0 w.seen k.operator (ap (λ (z : Answer). is_some (recorded z)) (sym t.1) ∙ e) a.answer.2))
    (keeps (lists_at a.at) (at_lists turn v given catalogue lists a.at k a.owned)))
    (stay_fit a.about a.at v.actor (Wants.Change change) t.0 w.seen a.answer)

pub change_same : (turn : TableId) (v w : Passing) (given : List ℕ) (catalogue : List Shape) (lists : Option (List (List Words))) (change : Change) (r : Answer) → IsControl turn v given catalogue lists
    → Told v (Wants.Change change) r w → is_some (recorded r) ≡ false → IsControl turn w given catalogue lists
change_same turn v w given catalogue lists change r k t e = let a = t.2 in
    acted_control turn v w given catalogue catalogue lists lists k a.same a.owns
    (at_catalogue turn v given catalogue lists a.at k a.owned ∙ sym (due_catalogue a.about a.at v.actor (Wants.Change change) t.0 w.seen tt a.answer.2))
    (kept_along lists (lists_at a.at) (lists_at w.seen)
    (sym (change_unmade a.about a.at v.actor change t.0 w.seen k.operator (ap (λ (z : Answer). is_some (recorded z)) (sym t.1) ∙ e) a.answer.2))
    (at_lists turn v given catalogue lists a.at k a.owned))
    (stay_fit a.about a.at v.actor (Wants.Change change) t.0 w.seen a.answer)

-- the bodies of a load, told otherwise
pub load_such : (v w : Passing) (shape : Shape) (P Q : UnitBodies → Type 0) (r : Answer) → ((u : UnitBodies) → P u → Q u) → LoadTold v shape P r w → LoadTold v shape Q r w
load_such v w shape P Q r such t = ⊎_elim (λ x. inl (x.0, such (held x.0) x.1, x.2)) (λ none. inr none) t

pub such_or_worn : (v w : Passing) (shape : Shape) (P Q : UnitBodies → Type 0) (answer : Result Answer Worn) → ((u : UnitBodies) → P u → Q u)
    → MatchResult answer (λ r. LoadTold v shape P r w) (λ _. IsWorn v w) → MatchResult answer (λ r. LoadTold v shape Q r w) (λ _. IsWorn v w)
such_or_worn v w shape P Q (Ok r) such t = load_such v w shape P Q r such t
such_or_worn v w shape P Q (Err e) such t = t

-- the answer to a load of a unit with its own bodies
pub told_ok : (v w : Passing) (shape : Shape) (bodies : UnitBodies) (answer : Result Answer Worn) → MatchResult answer (λ r. LoadTold v shape (λ u. u ≡ bodies) r w) (λ _. IsWorn v w)
    → IfOk (answer_or_worn answer) (λ r. LoadTold v shape (λ u. u ≡ bodies) r w)
told_ok v w shape bodies (Ok r) t = t
told_ok v w shape bodies (Err e) t = tt

pub told_fault : (v w : Passing) (shape : Shape) (bodies : UnitBodies) (answer : Result Answer Worn) → MatchResult answer (λ r. LoadTold v shape (λ u. u ≡ bodies) r w) (λ _. IsWorn v w)
    → IfErr (answer_or_worn answer) (λ fault. IsLoadFault v shape bodies fault w)
told_fault v w shape bodies (Ok r) t = tt
told_fault v w shape bodies (Err e) t = t

-- the bodies that a load brings
pub brings_given : (shapes : List Shape) (shape : Shape) (given unit : UnitBodies) → are_of shapes shape (unit_view given) ≡ true → unit ≡ given → Brings shapes shape given unit
brings_given shapes shape given unit e is = subst (λ (b : Bool). BringsIf b shape given unit) (sym e) is

pub brings_none : (shapes : List Shape) (shape : Shape) (given unit : UnitBodies) → are_of shapes shape (unit_view given) ≡ false → unit_view unit ≡ no_bodies_of shape → Brings shapes shape given unit
brings_none shapes shape given unit e is = subst (λ (b : Bool). BringsIf b shape given unit) (sym e) is

-- a port is given
pub port_kept : (turn : TableId) (v w p : Passing) (given : List ℕ) (catalogue : List Shape) (lists : Option (List (List Words))) (actor acts : ℕ) → IsControl turn v given catalogue lists → Parted by v actor acts w p → IsControl turn w (actor ∷ given) catalogue lists
port_kept turn v w p given catalogue lists actor acts k t =
    let zero : w.actor ≡ 0 = ap (λ (z : Passing). z.actor) t.rest ∙ k.operator in
    let base : w.base ≡ v.base = ap (λ (z : Passing). z.base) t.rest in
    let own : w.own ≡ v.own = ap (λ (z : Passing). z.own) t.rest in
    let owned : mine by 0 w.seen ≡ v.base ++ v.own = subst (λ (n : ℕ). mine by n w.seen ≡ v.base ++ v.own) k.operator t.owns in record {
      here = ap (λ (z : Passing). z.turn) t.rest ∙ k.here;
      first = ap (λ (z : Passing). z.first) t.rest ∙ k.first;
      operator = zero;
      given_is = ap (λ (z : Passing). z.given) t.rest ∙ ap (λ (l : List ℕ). actor ∷ l) k.given_is;
      owns = owned ∙ sym (λ i. base i ++ own i);
      limited = ap (λ (z : Passing). is_some z.about) t.rest ∙ k.limited;
      catalogue_is = k.catalogue_is ∙ same_catalogue v.seen w.seen (k.owns ∙ sym owned);
      lists_are = kept_along lists (lists_at v.seen) (lists_at w.seen) (same_lists v.seen w.seen (k.owns ∙ sym owned)) k.lists_are;
      fit = same_fit v.seen w.seen (k.owns ∙ sym owned) k.fit;
    }

pub act_or_worn : (turn : TableId) (v w : Passing) (given : List ℕ) (catalogue : List Shape) (lists : Option (List (List Words))) (ask : Ask) (answer : Result Reply Worn) → IsControl turn v given catalogue lists → LoadsNothing ask → ListsNothing ask
    → MatchResult answer (λ r. Acted by Does v ask r w) (λ _. IsWorn v w) → IsControl turn w given catalogue lists
act_or_worn turn v w given catalogue lists ask (Ok r) k n m t = act_kept turn v w given catalogue lists ask r k n m t
act_or_worn turn v w given catalogue lists ask (Err e) k n m t = worn_kept turn v w given catalogue lists k t

pub opened_by : (turn : TableId) (pass : Passing) (given : List ℕ) (catalogue : List Shape) (lists : List (List Words)) (h : History) (us : List UnitBodies) → Legal h → BodiesFit (log_of h us) → pass ≡ opening_of turn h.limits by (log_of h us) → given ≡ [] → catalogue ≡ h.shapes → lists ≡ h.lists
    → IsControl turn pass given catalogue (Some lists)
opened_by turn pass given catalogue lists h us l fit is none same kept =
    subst (λ (z : Passing × List ℕ × List Shape × List (List Words)). IsControl turn z.0 z.1 z.2 (Some z.3)) (λ i. (sym is i, sym none i, sym same i, sym kept i)) (opened turn h us l fit)

-- the opening view of this host, behind whatever it stands
pub opens_on : (turn : TableId) (pass : Passing) (h k : History) (b d : Bodies) → h ≡ k → b ≡ d → pass ≡ opening_of turn h.limits by (log_in h b) → pass ≡ opening_of turn k.limits by (log_in k d)
opens_on turn pass h k b d here same is = is ∙ (λ i. opening_of turn (here i).limits by (log_in (here i) (same i)))

-- what a control begins with
pub begins : (turn : TableId) (pass : Passing) (h : History) (us : List UnitBodies) → map unit_view us ≡ map no_bodies_of h.shapes → pass ≡ opening_of turn h.limits by (log_of h us)
    → BeginsWith h pass.seen × (pass ≡ opening_of pass.turn h.limits by pass.seen)
begins turn pass h us none is = let seen : pass.seen ≡ log_of h us = ap (λ (z : Passing). z.seen) is in let here : pass.turn ≡ turn = ap (λ (z : Passing). z.turn) is in
    ((us, none, seen), is ∙ (λ i. opening_of (sym here i) h.limits by (sym seen i)))

-- as many bodies of units as shapes
as_many : (us : List UnitBodies) (shapes : List Shape) → map unit_view us ≡ map no_bodies_of shapes → length us ≡ length shapes
as_many [] [] e = refl
as_many [] (s ∷ ss) e = absurd (omega (arith, ap length e))
as_many (u ∷ us) [] e = absurd (omega (arith, ap length e))
as_many (u ∷ us) (s ∷ ss) e = let more = as_many us ss (ap rest_of e) in omega (arith, more)

pub none_brought : (h : History) (bodies : Bodies) → map unit_view (units_of bodies) ≡ map no_bodies_of h.shapes → AreBrought h bodies
none_brought h bodies none = record { count = as_many (units_of bodies) h.shapes none; numbered = none_numbered h.shapes bodies none; fit = none_fit h.shapes h.shapes bodies none; ranged = none_ranged h.shapes h.shapes bodies none }

pub load_more : (turn : TableId) (v w : Passing) (given : List ℕ) (catalogue more : List Shape) (lists : Option (List (List Words))) (shape : Shape) (unit : SharedUnit) (r : Answer) → IsControl turn v given catalogue lists → Told v (Wants.Load shape unit) r w
    → is_some (recorded r) ≡ true → more ≡ catalogue ++ shape ∷ [] → IsControl turn w given more lists
load_more turn v w given catalogue more lists shape unit r k t e is =
    subst (λ (z : List Shape). IsControl turn w given z lists) (ap (λ (b : Bool). with_loaded b catalogue shape) e ∙ sym is) (load_told turn v w given catalogue lists shape unit r k t)

pub load_same : (turn : TableId) (v w : Passing) (given : List ℕ) (catalogue : List Shape) (lists : Option (List (List Words))) (shape : Shape) (unit : SharedUnit) (r : Answer) → IsControl turn v given catalogue lists → Told v (Wants.Load shape unit) r w
    → is_some (recorded r) ≡ false → IsControl turn w given catalogue lists
load_same turn v w given catalogue lists shape unit r k t e =
    subst (λ (z : List Shape). IsControl turn w given z lists) (ap (λ (b : Bool). with_loaded b catalogue shape) e) (load_told turn v w given catalogue lists shape unit r k t)

pub port_handles : (turn : TableId) (v w p : Passing) (given : List ℕ) (catalogue : List Shape) (lists : Option (List (List Words))) (actor acts : ℕ) → IsControl turn v given catalogue lists → Parted by v actor acts w p → is_performer catalogue actor ≡ true
    → HasHandler (catalogue_of p.seen) p.actor
port_handles turn v w p given catalogue lists actor acts k t e =
    let after : IsControl turn w (actor ∷ given) catalogue lists = port_kept turn v w p given catalogue lists actor acts k t in
    subst (λ (z : List Shape × ℕ). HasHandler z.0 z.1)
    (λ i. ((after.catalogue_is ∙ sym (ap (λ (z : Passing). catalogue_of z.seen) t.new_is)) i, sym (ap (λ (z : Passing). z.actor) t.new_is) i)) (performer_handles catalogue actor e)

-- a port has the control's limits
pub port_limited : (turn : TableId) (v w p : Passing) (given : List ℕ) (catalogue : List Shape) (lists : Option (List (List Words))) (actor acts : ℕ) → IsControl turn v given catalogue lists → Parted by v actor acts w p → is_some p.about ≡ true
port_limited turn v w p given catalogue lists actor acts k t = ap (λ (z : Passing). is_some z.about) t.new_is ∙ k.limited

-- and has seen what the control had
pub port_fits : (turn : TableId) (v w p : Passing) (given : List ℕ) (catalogue : List Shape) (lists : Option (List (List Words))) (actor acts : ℕ) → IsControl turn v given catalogue lists → Parted by v actor acts w p → BodiesFit p.seen
port_fits turn v w p given catalogue lists actor acts k t =
    subst (λ (z : Passing). BodiesFit z.seen) (sym t.new_is) (port_kept turn v w p given catalogue lists actor acts k t).fit
