-- On a legal history the units that were loaded keep their limits.
use Rattle.std.proofs.Common.{◌≡◌, List, [], ◌∷◌, ◌++◌, Some, None, Option, Bool, true, false, arith, subst, sym, refl}
use Rattle.std.specs.Prelude.{is_some, not}
use Rattle.rv_access.specs.Words.{Words}
use Rattle.rv_shape.specs.Shape.{Shape}
use Rattle.rv_shape.specs.Fits.{IsWithin, fault, shape_fits}
use Rattle.rv_shape.specs.declared.fault.ShapeFault.{ShapeFault}
use Rattle.rv_shape.proofs.Added.{within_more}
use Rattle.rv_event.specs.Past.{halted}
use Rattle.rv_event.specs.declared.entry.Answer.{Answer}
use Rattle.rv_event.specs.declared.entry.Entry.{Entry}
use Rattle.rv_event.specs.declared.entry.Entry.TheVariants.{Asked, Load, ListChange}
use Rattle.rv_history.specs.declared.limits.Limits.{Limits}
use Rattle.rv_history.specs.Due.{gate, nothing_more, within}
use Rattle.rv_history.specs.History.{History}
use Rattle.rv_history.specs.Limits.{is_queue_limit}
use Rattle.rv_history.specs.Legal.{IsLegal, Legal}
use Rattle.rv_history.specs.Owed.{has_room}

faultless : (f : Option ShapeFault) → not (is_some f) ≡ true → f ≡ None
faultless None e = refl
faultless (Some f) e = absurd (cc)

loaded_fits : (fit shut : Bool) (x : Answer) → gate fit shut x ≡ nothing_more → fit ≡ true
loaded_fits true shut x e = refl
loaded_fits false shut x e = absurd (cc)

legal_within : (c : Limits) (past : List Entry) (shapes : List Shape) (lists : List (List Words)) → IsLegal c past shapes lists → IsWithin shapes
legal_within c [] shapes lists l = subst IsWithin (sym l.0) (record { units = omega arith; objects = omega arith; tasks = omega arith })
legal_within c (Asked a r w ∷ past) shapes lists l = legal_within c past shapes lists l.0
legal_within c (Load ∷ past) shapes lists l =
    let fit : shape_fits l.0 l.1 ≡ true = loaded_fits (shape_fits l.0 l.1) (halted past) (within (has_room c.capacity (l.0 ++ l.1 ∷ []) (Load ∷ past)) nothing_more) l.4 in
    subst IsWithin (sym l.2) (within_more l.0 l.1 (faultless (fault l.0 l.1) fit))
legal_within c (ListChange ∷ past) shapes lists l = legal_within c past shapes l.0 l.3

-- with one more entry
pub entry_within : (h : History) (e : Entry) → Legal (record h { past = e ∷ h.past }) → IsWithin h.shapes
entry_within h e l = legal_within h.limits (e ∷ h.past) h.shapes h.lists l

-- queues are as long as a host may have them
pub legal_limit : (c : Limits) (past : List Entry) (shapes : List Shape) (lists : List (List Words)) → IsLegal c past shapes lists → is_queue_limit c.queue ≡ true
legal_limit c [] shapes lists l = l.2
legal_limit c (Asked a r w ∷ past) shapes lists l = legal_limit c past shapes lists l.0
legal_limit c (Load ∷ past) shapes lists l = legal_limit c past l.0 lists l.3
legal_limit c (ListChange ∷ past) shapes lists l = legal_limit c past shapes l.0 l.3
