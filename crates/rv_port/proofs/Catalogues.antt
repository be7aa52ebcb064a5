-- The catalogue is that of the operator's own events.
use Rattle.std.proofs.Common.{◌≡◌, ⊎_elim, ℕ, Bool, true, false, eqb, List, [], ◌∷◌, ◌++◌, reverse, if◌then◌else◌, ap, sym, refl, ◌∙◌}
use Rattle.std.specs.Prelude.{Some, None}
use Rattle.std.proofs.lemmas.List.{reverse-append}
use Rattle.rv_history.specs.declared.limits.Limits.{Limits}
use Rattle.rv_turn.specs.Histories.{mine}
use Rattle.rv_behind.specs.Events.{by, shapes_of, catalogue_of}
use Rattle.rv_behind.specs.Acting.{Due}
use Rattle.rv_behind.specs.Adding.{MayAdd, due_adds}
use Rattle.rv_port.specs.Controls.{LoadsNothing}
use Rattle.rv_behind.specs.declared.event.Ask.{Ask}
use Rattle.rv_behind.specs.declared.event.Ask.TheVariants as Wants
use Rattle.rv_behind.specs.declared.event.Reply.{Reply}
use Rattle.rv_behind.specs.declared.event.Event.{Event}
use Rattle.rv_behind.specs.declared.event.Event.TheVariants.{Loads}
use Rattle.rv_port.proofs.Actors.{shapes-append, catalogue-append}
use Rattle.rv_behind.proofs.Fitting.{newest_first}

-- What is read of a history's events is read of the operator's own, where those of others add nothing to it

module _ {X : Type 0} (read : List Event → List X) (joined : (xs ys : List Event) → read (xs ++ ys) ≡ read ys ++ read xs) (none : (e : Event) → eqb (by e) 0 ≡ false → read (e ∷ []) ≡ []) where
  read_first : (e : Event) (es : List Event) → read (reverse (e ∷ es)) ≡ read (e ∷ []) ++ read (reverse es)
  read_first e es = ap read (reverse-append (e ∷ []) es) ∙ joined (reverse es) (e ∷ [])

  read_if : (b : Bool) (e : Event) (es : List Event) (xs : List X) → (b ≡ false → read (e ∷ []) ≡ []) → read (reverse es) ≡ xs
      → read (reverse (if b then e ∷ es else es)) ≡ read (e ∷ []) ++ xs
  read_if true e es xs is_none same = read_first e es ∙ ap (λ (z : List X). read (e ∷ []) ++ z) same
  read_if false e es xs is_none same = same ∙ ap (λ (z : List X). z ++ xs) (sym (is_none refl))

  pub read_mine : (log : List Event) → read (reverse (mine by 0 log)) ≡ read (reverse log)
  read_mine [] = refl
  read_mine (e ∷ es) = read_if (eqb (by e) 0) e (mine by 0 es) (read (reverse es)) (none e) (read_mine es) ∙ sym (read_first e es)

-- so is the catalogue

no_shapes : (e : Event) → eqb (by e) 0 ≡ false → shapes_of (e ∷ []) ≡ []
no_shapes (Loads s u) h = absurd (cc h)
no_shapes e h = refl

pub catalogue_mine : (log : List Event) → catalogue_of (mine by 0 log) ≡ catalogue_of log
catalogue_mine log = read_mine shapes_of shapes-append no_shapes log

-- two histories with the same events of the operator have one catalogue
pub same_catalogue : (one two : List Event) → mine by 0 one ≡ mine by 0 two → catalogue_of one ≡ catalogue_of two
same_catalogue one two e = sym (catalogue_mine one) ∙ (ap catalogue_of e ∙ catalogue_mine two)

pub with_event : (log : List Event) (e : Event) → catalogue_of (log ++ e ∷ []) ≡ catalogue_of log ++ catalogue_of (e ∷ [])
with_event log e = catalogue-append log (e ∷ [])

-- an ask that loads nothing leaves the catalogue
event_catalogue : (log : List Event) (e : Event) (ask : Ask) → LoadsNothing ask → MayAdd log e ask → catalogue_of (log ++ e ∷ []) ≡ catalogue_of log
event_catalogue log (Loads s None) ask n may = absurd may
event_catalogue log (Loads s (Some u)) (Wants.Load shape unit) n may = absurd n
event_catalogue log (Loads s (Some u)) ask n may = absurd may
event_catalogue log e ask n may = newest_first shapes_of log e

pub due_catalogue : (c : Limits) (log : List Event) (a : ℕ) (ask : Ask) (reply : Reply) (after : List Event) → LoadsNothing ask → Due c log a ask reply after → catalogue_of after ≡ catalogue_of log
due_catalogue c log a ask reply after n d =
    ⊎_elim (λ same. ap catalogue_of same) (λ x. ap catalogue_of x.1 ∙ event_catalogue log x.0 ask n x.3) (due_adds c log a ask reply after d)
