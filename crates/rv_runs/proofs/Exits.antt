-- A body, and a task, that a machine runs ends as its text does.
use Rattle.std.proofs.Common.{◌≡◌, refl, sym, ap, ◌∙◌, subst, ℤ, List, [], ◌∷◌}
use Rattle.rv_event.specs.declared.entry.Exit.{Exit}
use Rattle.rv_exec.specs.Asking.{Asking, ended, asking, and_then, Trace, Along}
use Rattle.rv_frames.specs.Frames.{Now, exited, exit, quitted, quit}
use Rattle.rv_machine.specs.declared.next.Final.{Final}
use Rattle.rv_machine.specs.declared.next.Final.TheVariants as final
use Rattle.rv_machine.specs.Machines.{final_of}

-- The body of an operation

made : (w : Asking (Exit × List ℤ)) (trace : Trace) (now : Now) → Along (and_then w (exit ended)) trace now
    → (e : Exit × List ℤ) × Along w trace e × (now ≡ exited e.0 e.1)
made (ended (e, left)) [] now h = ((e, left), refl, sym h)
made (ended (e, left)) (p ∷ trace) now h = absurd h
made (asking q go) [] now h = absurd h
made (asking q go) (p ∷ trace) now h = let r = made (go p.1) trace now h.1 in (r.0, (h.0, r.1), r.2)

pub exits : (w : Asking (Exit × List ℤ)) (begun : Asking Now) (trace : Trace) (now : Now) (how : Final)
    → begun ≡ and_then w (exit ended) → Along begun trace now → how ≡ final_of now
    → (e : Exit × List ℤ) × Along w trace e × (how ≡ final.Exited e.0 e.1)
exits w begun trace now how begins along is =
    let r = made w trace now (subst (λ (x : Asking Now). Along x trace now) begins along) in
    (r.0, r.1, is ∙ ap final_of r.2)

-- so it exits
pub exits_so : (w : Asking (Exit × List ℤ)) (begun : Asking Now) (trace : Trace) (now : Now) (how : Final) (e : Exit) (left : List ℤ)
    → begun ≡ and_then w (exit ended) → Along begun trace now → how ≡ final_of now → how ≡ final.Exited e left → Along w trace (e, left)
exits_so w begun trace now how e left begins along is so =
    let r = exits w begun trace now how begins along is in
    let one : r.0.0 ≡ e = same (sym r.2 ∙ so) in
    let other : r.0.1 ≡ left = same_left (sym r.2 ∙ so) in
    subst (λ (x : Exit). Along w trace (x, left)) one (subst (λ (x : List ℤ). Along w trace (r.0.0, x)) other r.1)
  where
    same : {a b : Exit} {xs ys : List ℤ} → final.Exited a xs ≡ final.Exited b ys → a ≡ b
    same e = cc e

    same_left : {a b : Exit} {xs ys : List ℤ} → final.Exited a xs ≡ final.Exited b ys → xs ≡ ys
    same_left e = cc e

-- A task

over : (w : Asking Exit) (trace : Trace) (now : Now) → Along (and_then w (quit ended)) trace now
    → (e : Exit) × Along w trace e × (now ≡ quitted e)
over (ended e) [] now h = (e, refl, sym h)
over (ended e) (p ∷ trace) now h = absurd h
over (asking q go) [] now h = absurd h
over (asking q go) (p ∷ trace) now h = let r = over (go p.1) trace now h.1 in (r.0, (h.0, r.1), r.2)

pub quits : (w : Asking Exit) (begun : Asking Now) (trace : Trace) (now : Now) (how : Final)
    → begun ≡ and_then w (quit ended) → Along begun trace now → how ≡ final_of now
    → (e : Exit) × Along w trace e × (how ≡ final.Quitted e)
quits w begun trace now how begins along is =
    let r = over w trace now (subst (λ (x : Asking Now). Along x trace now) begins along) in
    (r.0, r.1, is ∙ ap final_of r.2)

-- so it quits
pub quits_so : (w : Asking Exit) (begun : Asking Now) (trace : Trace) (now : Now) (how : Final) (e : Exit)
    → begun ≡ and_then w (quit ended) → Along begun trace now → how ≡ final_of now → how ≡ final.Quitted e → Along w trace e
quits_so w begun trace now how e begins along is so =
    let r = quits w begun trace now how begins along is in
    subst (λ (x : Exit). Along w trace x) (same (sym r.2 ∙ so)) r.1
  where
    same : {a b : Exit} → final.Quitted a ≡ final.Quitted b → a ≡ b
    same e = cc e
