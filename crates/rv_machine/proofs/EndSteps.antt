-- The end of statements or declarations comes to what waits for it.
use Rattle.std.proofs.Common.{◌≡◌, ◌<◌, ◌≤◌, arith, refl, sym, ap, subst, ◌∙◌, ℕ, ℤ, List, ◌∷◌, Bool, true, false, Some, None}
use Rattle.rv_event.specs.declared.entry.Exception.{Exception}
use Rattle.rv_code.specs.Expressions.{Expression}
use Rattle.rv_code.specs.Statements.{Statements}
use Rattle.rv_code.specs.Bodies.{Body, Handler, UnitBodies}
use Rattle.rv_exec.specs.declared.activation.Activation.{Activation}
use Rattle.rv_exec.specs.declared.setting.Setting.{Setting}
use Rattle.rv_exec.specs.declared.end.End.{End}
use Rattle.rv_exec.specs.declared.end.End.TheVariants as ends
use Rattle.rv_exec.specs.Blocks.{outcome_of, raised}
use Rattle.rv_exec.specs.Calls.{Outcome}
use Rattle.rv_exec.specs.Choices.{handler_of}
use Rattle.rv_frames.specs.Frames.{Frame, Now, turning, counting, sequencing, opening, handling, restoring, closing, quitting, runs_all, turns_of, counts, quits_of, comes, done, closes, meant}
use Rattle.rv_frames.specs.Rests.{is_next}
use Rattle.rv_frames.proofs.Arrivals.{statements_arrive, calls_arrive}
use Rattle.rv_frames.proofs.Rests.{loops_rest, statements_rest, calls_rest}
use Rattle.rv_machine.proofs.HeightsLeft.{handler_height}
use Rattle.rv_machine.proofs.MovesLeft.{handler_moves}
use Rattle.rv_machine.specs.Heights.{expression_height, statement_height, statements_height, declarations_height, handlers_height, called_height, highest}
use Rattle.rv_machine.specs.Moves.{expression_moves, statement_moves, statements_moves, declarations_moves, handlers_moves, turns_moves, called_moves, level, moves_left}
use Rattle.rv_machine.specs.Points.{Leads, LeadsAcross, left_by}

as_next : (e : End) → is_next e ≡ true → e ≡ ends.Next
as_next ends.Next is = refl
as_next ends.Exit is = absurd (cc is)
as_next (ends.Return v) is = absurd (cc is)
as_next (ends.Abandoned why) is = absurd (cc is)

pub turn_goes : (n : ℕ) (c : Expression) (ss : Statements) (e : End) (a : Activation) (fs : List Frame)
    → is_next e ≡ true → Leads (comes (done e a)) (turning n c ss ∷ fs) (turns_of n c ss a) fs
unfolding expression_moves statement_moves declarations_moves handlers_moves turns_moves expression_height statement_height declarations_height handlers_height
turn_goes n c ss e a fs is = record {
  same = λ bodies s. ap (λ (x : End). meant bodies (comes (done x a)) (turning n c ss ∷ fs) s) (as_next e is) ∙ (statements_arrive bodies fs s).next_turn n c ss a;
  less = λ bodies s. omega arith;
  low = λ bodies s one. omega arith;
}

turn_left : (n : ℕ) (c : Expression) (ss : Statements) (e : End) (a : Activation) (fs : List Frame)
    → is_next e ≡ false → Leads (comes (done e a)) (turning n c ss ∷ fs) (comes (done (left_by e) a)) fs
unfolding expression_moves statement_moves declarations_moves handlers_moves turns_moves expression_height statement_height declarations_height handlers_height
turn_left n c ss ends.Next a fs is = absurd (cc is)
turn_left n c ss ends.Exit a fs is = record { same = λ bodies s. (statements_arrive bodies fs s).loop_left n c ss a; less = λ bodies s. omega arith; low = λ bodies s one. omega arith }
turn_left n c ss (ends.Return v) a fs is = record { same = λ bodies s. (loops_rest bodies fs s).turn_returns n c ss v a; less = λ bodies s. omega arith; low = λ bodies s one. omega arith }
turn_left n c ss (ends.Abandoned why) a fs is = record { same = λ bodies s. (statements_arrive bodies fs s).loop_abandoned n c ss why a; less = λ bodies s. omega arith; low = λ bodies s one. omega arith }

-- an end that is known by another name
renamed : (from : End) (x e : End) (a : Activation) (before fs : List Frame)
    → x ≡ e → Leads (comes (done from a)) before (comes (done e a)) fs → Leads (comes (done from a)) before (comes (done x a)) fs
renamed from x e a before fs is leads = subst (λ (y : End). Leads (comes (done from a)) before (comes (done y a)) fs) (sym is) leads

pub turn_stops : (n : ℕ) (c : Expression) (ss : Statements) (e x : End) (a : Activation) (fs : List Frame)
    → is_next e ≡ false → x ≡ left_by e → Leads (comes (done e a)) (turning n c ss ∷ fs) (comes (done x a)) fs
turn_stops n c ss e x a fs is left = renamed e x (left_by e) a (turning n c ss ∷ fs) fs left (turn_left n c ss e a fs is)

pub count_goes : (n : ℕ) (is_reverse : Bool) (low high : ℤ) (slot : ℕ) (ss : Statements) (e : End) (a : Activation) (fs : List Frame)
    → is_next e ≡ true → Leads (comes (done e a)) (counting n is_reverse low high slot ss ∷ fs) (counts n is_reverse low high slot ss a) fs
unfolding expression_moves statement_moves declarations_moves handlers_moves turns_moves expression_height statement_height declarations_height handlers_height
count_goes n is_reverse low high slot ss e a fs is = record {
  same = λ bodies s. ap (λ (x : End). meant bodies (comes (done x a)) (counting n is_reverse low high slot ss ∷ fs) s) (as_next e is) ∙ (loops_rest bodies fs s).next_value n is_reverse low high slot ss a;
  less = λ bodies s. omega arith;
  low = λ bodies s one. omega arith;
}

count_left : (n : ℕ) (is_reverse : Bool) (low high : ℤ) (slot : ℕ) (ss : Statements) (e : End) (a : Activation) (fs : List Frame)
    → is_next e ≡ false → Leads (comes (done e a)) (counting n is_reverse low high slot ss ∷ fs) (comes (done (left_by e) a)) fs
unfolding expression_moves statement_moves declarations_moves handlers_moves turns_moves expression_height statement_height declarations_height handlers_height
count_left n is_reverse low high slot ss ends.Next a fs is = absurd (cc is)
count_left n is_reverse low high slot ss ends.Exit a fs is = record { same = λ bodies s. (loops_rest bodies fs s).values_left n is_reverse low high slot ss a; less = λ bodies s. omega arith; low = λ bodies s one. omega arith }
count_left n is_reverse low high slot ss (ends.Return v) a fs is = record { same = λ bodies s. (loops_rest bodies fs s).value_returns n is_reverse low high slot ss v a; less = λ bodies s. omega arith; low = λ bodies s one. omega arith }
count_left n is_reverse low high slot ss (ends.Abandoned why) a fs is = record { same = λ bodies s. (loops_rest bodies fs s).value_abandoned n is_reverse low high slot ss why a; less = λ bodies s. omega arith; low = λ bodies s one. omega arith }

pub count_stops : (n : ℕ) (is_reverse : Bool) (low high : ℤ) (slot : ℕ) (ss : Statements) (e x : End) (a : Activation) (fs : List Frame)
    → is_next e ≡ false → x ≡ left_by e → Leads (comes (done e a)) (counting n is_reverse low high slot ss ∷ fs) (comes (done x a)) fs
count_stops n is_reverse low high slot ss e x a fs is left = renamed e x (left_by e) a (counting n is_reverse low high slot ss ∷ fs) fs left (count_left n is_reverse low high slot ss e a fs is)

pub sequence_goes : (ss : Statements) (e : End) (a : Activation) (fs : List Frame)
    → is_next e ≡ true → Leads (comes (done e a)) (sequencing ss ∷ fs) (runs_all ss a) fs
unfolding expression_moves statement_moves declarations_moves handlers_moves turns_moves expression_height statement_height declarations_height handlers_height
sequence_goes ss e a fs is = record {
  same = λ bodies s. ap (λ (x : End). meant bodies (comes (done x a)) (sequencing ss ∷ fs) s) (as_next e is) ∙ (statements_arrive bodies fs s).statement_done ss a;
  less = λ bodies s. omega arith;
  low = λ bodies s one. omega arith;
}

pub sequence_stops : (ss : Statements) (e : End) (a : Activation) (fs : List Frame)
    → is_next e ≡ false → Leads (comes (done e a)) (sequencing ss ∷ fs) (comes (done e a)) fs
unfolding expression_moves statement_moves declarations_moves handlers_moves turns_moves expression_height statement_height declarations_height handlers_height
sequence_stops ss e a fs is = record { same = λ bodies s. (statements_rest bodies fs s).statement_ends ss e a is; less = λ bodies s. omega arith; low = λ bodies s one. omega arith }

pub body_opens : (ss : Statements) (hs : List Handler) (e : End) (a : Activation) (before after : List Frame)
    → is_next e ≡ true → after ≡ handling hs ∷ before → Leads (comes (done e a)) (opening ss hs ∷ before) (runs_all ss a) after
unfolding expression_moves statement_moves declarations_moves handlers_moves turns_moves expression_height statement_height declarations_height handlers_height
body_opens ss hs e a before after is put = record {
  same = λ bodies s. ap (λ (x : End). meant bodies (comes (done x a)) (opening ss hs ∷ before) s) (as_next e is)
      ∙ ((statements_arrive bodies before s).declared ss hs a ∙ ap (λ (fs : List Frame). meant bodies (runs_all ss a) fs s) (sym put));
  less = λ bodies s. subst (λ (fs : List Frame). moves_left bodies (runs_all ss a) fs s < moves_left bodies (comes (done e a)) (opening ss hs ∷ before) s) (sym put) (omega arith);
  low = λ bodies s one. subst (λ (fs : List Frame). highest one bodies (runs_all ss a) fs s ≤ highest one bodies (comes (done e a)) (opening ss hs ∷ before) s) (sym put) (omega arith);
}

pub body_stops : (ss : Statements) (hs : List Handler) (e : End) (a : Activation) (fs : List Frame)
    → is_next e ≡ false → Leads (comes (done e a)) (opening ss hs ∷ fs) (comes (done e a)) fs
unfolding expression_moves statement_moves declarations_moves handlers_moves turns_moves expression_height statement_height declarations_height handlers_height
body_stops ss hs e a fs is = record { same = λ bodies s. (statements_rest bodies fs s).not_opened ss hs e a is; less = λ bodies s. omega arith; low = λ bodies s one. omega arith }

pub body_closes : (body : Body) (e : End) (a : Activation) (outcome : Outcome) (fs : List Frame)
    → outcome ≡ outcome_of body e a → Leads (comes (done e a)) (closing body ∷ fs) (comes (closes outcome a.components a.steps)) fs
unfolding expression_moves statement_moves declarations_moves handlers_moves turns_moves expression_height statement_height declarations_height handlers_height
body_closes body e a outcome fs is = record {
  same = λ bodies s. (calls_arrive bodies fs s).body body e a ∙ ap (λ (o : Outcome). meant bodies (comes (closes o a.components a.steps)) fs s) (sym is);
  less = λ bodies s. omega arith;
  low = λ bodies s one. omega arith;
}

pub task_quits : (body : Body) (e : End) (a : Activation) (outcome : Outcome) (fs : List Frame)
    → outcome ≡ outcome_of body e a → Leads (comes (done e a)) (quitting body ∷ fs) (quits_of outcome) fs
unfolding expression_moves statement_moves declarations_moves handlers_moves turns_moves expression_height statement_height declarations_height handlers_height
task_quits body e a outcome fs is = record {
  same = λ bodies s. (calls_rest bodies fs s).task body e a ∙ ap (λ (o : Outcome). meant bodies (quits_of o) fs s) (sym is);
  less = λ bodies s. omega arith;
  low = λ bodies s one. omega arith;
}

pub not_raised : (hs : List Handler) (e : End) (a : Activation) (fs : List Frame) (s : Setting)
    → raised e ≡ None → LeadsAcross s (comes (done e a)) (handling hs ∷ fs) s (comes (done e a)) fs
unfolding expression_moves statement_moves declarations_moves handlers_moves turns_moves expression_height statement_height declarations_height handlers_height
not_raised hs e a fs s is = record { same = λ bodies. (statements_rest bodies fs s).not_raised hs e a is; less = λ bodies. omega arith; low = λ bodies one. omega arith }

pub unhandled : (hs : List Handler) (e : End) (exception : Exception) (a : Activation) (fs : List Frame) (s : Setting)
    → raised e ≡ Some exception → handler_of hs exception ≡ None → LeadsAcross s (comes (done e a)) (handling hs ∷ fs) s (comes (done e a)) fs
unfolding expression_moves statement_moves declarations_moves handlers_moves turns_moves expression_height statement_height declarations_height handlers_height
unhandled hs e exception a fs s is none = record { same = λ bodies. (statements_rest bodies fs s).unhandled hs e exception a is none; less = λ bodies. omega arith; low = λ bodies one. omega arith }

handled_less : (bodies : UnitBodies) (hs : List Handler) (exception : Exception) (ss : Statements) (a : Activation) (before after : List Frame) (s t : Setting) (from : Now)
    → handler_of hs exception ≡ Some ss → after ≡ restoring s.handling ∷ before → t ≡ record s { handling = Some exception }
    → moves_left bodies (runs_all ss a) after t < moves_left bodies (comes from) (handling hs ∷ before) s
handled_less bodies hs exception ss a before after s t from found put set =
    let found_less : statements_moves (called_moves bodies (level s)) ss < handlers_moves (called_moves bodies (level s)) hs = handler_moves (called_moves bodies (level s)) hs exception ss found in
    let base : moves_left bodies (runs_all ss a) (restoring s.handling ∷ before) (record s { handling = Some exception }) < moves_left bodies (comes from) (handling hs ∷ before) s = omega (arith, found_less) in
    subst (λ (x : Setting). moves_left bodies (runs_all ss a) after x < moves_left bodies (comes from) (handling hs ∷ before) s) (sym set)
    (subst (λ (fs : List Frame). moves_left bodies (runs_all ss a) fs (record s { handling = Some exception }) < moves_left bodies (comes from) (handling hs ∷ before) s) (sym put) base)

handled_low : (bodies : UnitBodies) (hs : List Handler) (exception : Exception) (ss : Statements) (a : Activation) (before after : List Frame) (s t : Setting) (from : Now) (one : ℕ)
    → handler_of hs exception ≡ Some ss → after ≡ restoring s.handling ∷ before → t ≡ record s { handling = Some exception }
    → highest one bodies (runs_all ss a) after t ≤ highest one bodies (comes from) (handling hs ∷ before) s
handled_low bodies hs exception ss a before after s t from one found put set =
    let found_low : statements_height one (called_height one bodies (level s)) ss ≤ handlers_height one (called_height one bodies (level s)) hs = handler_height one (called_height one bodies (level s)) hs exception ss found in
    let base : highest one bodies (runs_all ss a) (restoring s.handling ∷ before) (record s { handling = Some exception }) ≤ highest one bodies (comes from) (handling hs ∷ before) s = omega (arith, found_low) in
    subst (λ (x : Setting). highest one bodies (runs_all ss a) after x ≤ highest one bodies (comes from) (handling hs ∷ before) s) (sym set)
    (subst (λ (fs : List Frame). highest one bodies (runs_all ss a) fs (record s { handling = Some exception }) ≤ highest one bodies (comes from) (handling hs ∷ before) s) (sym put) base)

pub handled : (hs : List Handler) (e : End) (exception : Exception) (ss : Statements) (a : Activation) (before after : List Frame) (s t : Setting)
    → raised e ≡ Some exception → handler_of hs exception ≡ Some ss → after ≡ restoring s.handling ∷ before → t ≡ record s { handling = Some exception }
    → LeadsAcross s (comes (done e a)) (handling hs ∷ before) t (runs_all ss a) after
unfolding expression_moves statement_moves declarations_moves handlers_moves turns_moves expression_height statement_height declarations_height handlers_height
handled hs e exception ss a before after s t is found put set = record {
  same = λ bodies. (statements_rest bodies before s).handled hs e exception ss a is found
      ∙ (ap (λ (fs : List Frame). meant bodies (runs_all ss a) fs (record s { handling = Some exception })) (sym put)
      ∙ ap (λ (x : Setting). meant bodies (runs_all ss a) after x) (sym set));
  less = λ bodies. handled_less bodies hs exception ss a before after s t (done e a) found put set;
  low = λ bodies one. handled_low bodies hs exception ss a before after s t (done e a) one found put set;
}
