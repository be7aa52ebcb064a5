-- What expressions ask.
use Rattle.std.proofs.Common.{◌≡◌, ℕ, zero, suc, ℤ, pos, negsuc, List, [], Bool, true, false, cond, Option, Some, None, Result, Ok, Err, refl, ap, ◌∙◌, subst}
use Rattle.std.specs.Prelude.{◌&&◌, int_le, neg_ℤ, unsigned_abs, ◌+ℤ◌, ◌-ℤ◌, ◌*ℤ◌, slice_index_or}
use Rattle.std.specs.Int.RustNames.{int_div, int_rem}
use Rattle.rv_value.specs.declared.arithmetic.Arith.{Arith}
use Rattle.rv_value.specs.Arithmetic.{whole, divided, modulus}
use Rattle.rv_event.specs.declared.entry.Exception.TheVariants.{ConstraintError}
use Rattle.rv_shape.specs.declared.kind.Component.{Component}
use Rattle.rv_shape.specs.declared.kind.Parameter.{Parameter}
use Rattle.rv_shape.specs.declared.kind.Range.{Range}
use Rattle.rv_shape.specs.Catalogue.{OperationNumber, numbered, target}
use Rattle.rv_shape.specs.Kinds.{holds}
use Rattle.rv_shape.specs.Objects.{OperationShape}
use Rattle.rv_shape.specs.Shape.{Shape}
use Rattle.rv_code.specs.Callees.{of_object}
use Rattle.rv_code.specs.declared.expression.Callee.{Callee}
use Rattle.rv_code.specs.declared.expression.Callee.TheVariants as callee
use Rattle.rv_code.specs.declared.expression.Operator.{Operator}
use Rattle.rv_code.specs.declared.expression.Operator.TheVariants as operator
use Rattle.rv_code.specs.declared.expression.Prefix.{Prefix}
use Rattle.rv_code.specs.declared.expression.Prefix.TheVariants as prefix
use Rattle.rv_code.specs.Expressions.{Expression, literal, variable, component, prefixed, chain, call, Expressions, no_expressions, and_expression, Links, no_links, and_link}
use Rattle.rv_code.specs.Expressions as code
use Rattle.rv_fits.specs.Calls.{such_in}
use Rattle.rv_fits.specs.Fits.{callee_fits}
use Rattle.rv_history.specs.Fitting.{all_fit, results}
use Rattle.rv_ranged.specs.Ranged.{Stand, of_operation, of_target}
use Rattle.rv_exec.specs.declared.activation.Activation.{Activation}
use Rattle.rv_exec.specs.declared.end.Cause.TheVariants as cause
use Rattle.rv_exec.specs.Asking.{Asking, ended, and_then}
use Rattle.rv_exec.specs.Operators.{checked, in_bounds, within, prefix_of, decides, result_of}
use Rattle.rv_exec.specs.Activations.{joined, request_less, spent, refilled}
use Rattle.rv_exec.specs.Calls.{Outcome, internal}
use Rattle.rv_exec.specs.Expressions.{on_value, fails, returned, answered, asked_by, called_by, called, passing, given, value, linked, arguments}
use Rattle.rv_exec.specs.World.{World, GotAll}
use Rattle.rv_asks.specs.Asks.{Asks, Standing}
use Rattle.rv_asks.proofs.Values.{covered, within_cases, component_ranges}
use Rattle.rv_asks.proofs.Trees.{Left, IsKept, GotLeft, GotEnds, Any, asks_then, asks_more, asks_if, value_goes, asks_value}
use Rattle.rv_asks.proofs.Suited.{ExpressionSuits, ExpressionsSuit, LinksSuit}
use Rattle.rv_asks.proofs.Passed.{GivesSo, Passed, SuitsValues, passed_none, passed_more, suits_passed, wanted}

-- What is kept of calls

abbrev pub OutcomeLeft : Standing → Standing → Outcome → Type 0
OutcomeLeft here now (Ok values) = now ≡ here
OutcomeLeft here now (Err why) = Left here now why

-- the values of a return are of these ranges
abbrev pub ValuesIn : List Range → Outcome → Type 0
ValuesIn ranges (Ok values) = all_fit ranges values ≡ true
ValuesIn ranges (Err why) = Unit {0}

abbrev pub OutcomeIn : Option OperationShape → Outcome → Type 0
OutcomeIn None outcome = Unit {0}
OutcomeIn (Some operation) outcome = ValuesIn (results operation.kind operation.parameters) outcome

-- how a body of an object of these components ends
abbrev pub InnerEnds : List Component → Option OperationShape → Standing → Standing → Outcome × (List ℤ × ℕ) → Type 0
InnerEnds components operation here now got =
    OutcomeLeft here now got.0 × (all_fit (component_ranges components) got.1.0 ≡ true) × OutcomeIn operation got.0

-- what may be called in a world
abbrev pub near : List Shape → World → Callee → Bool
near shapes w = such_in (callee_fits shapes) w.object

-- what statements call asks what fits, and they stand in the object of these operations
pub record AskingWorld (shapes : List Shape) (operations : List OperationShape) (components : List Component) (here : Standing) (w : World) : Type 0 where
  pub inner : (next : OperationNumber) (operation : ℕ) (values scalars : List ℤ) (steps : ℕ) → SuitsValues (of_operation (numbered operations operation)) values
      → all_fit (component_ranges components) scalars ≡ true
      → Asks shapes (InnerEnds components (numbered operations operation) here) next here (w.inner operation values scalars steps)
  pub outer : (next : OperationNumber) (c : Callee) (values : List ℤ) → internal c ≡ None → callee_fits shapes c ≡ true → SuitsValues (wanted shapes operations c) values
      → Asks shapes (OutcomeLeft here) next here (w.outer c values)
  pub home : (operation : ℕ) → of_operation (numbered operations operation) ≡ of_target (target shapes w.object operation)

-- nothing is claimed of a value, since no range is given by such an expression
abbrev pub Silent : ℤ → Type 0
Silent v = (range : Range) → false ≡ true → holds range v ≡ true

pub silent : (v : ℤ) → Silent v
silent v range e = absurd (cc e)

-- Operators leave all as it was

checked_left : (here : Standing) (r : Result ℤ Arith) → GotLeft Silent here here (checked r)
checked_left here (Ok v) = (refl, silent v)
checked_left here (Err why) = refl

bound_left : (here : Standing) (k : Bool) (v : ℤ) → GotLeft Silent here here (cond k (Ok v) (Err (cause.Raised ConstraintError)))
bound_left here true v = (refl, silent v)
bound_left here false v = refl

prefix_left : (here : Standing) (op : Prefix) (v : ℤ) → GotLeft Silent here here (prefix_of op v)
prefix_left here prefix.Negate v = checked_left here (whole (neg_ℤ v))
prefix_left here prefix.Absolute v = checked_left here (whole (pos (unsigned_abs v)))
prefix_left here prefix.Not v = (refl, λ range e. absurd (cc e))

bounds_left : (here : Standing) (low high v : ℤ) → GotLeft Silent here here (in_bounds low high v)
bounds_left here low high v = bound_left here (int_le low v && int_le v high) v

result_left : (here : Standing) (op : Operator) (v u : ℤ) → GotLeft Silent here here (result_of op v u)
result_left here operator.Add v u = checked_left here (whole (v +ℤ u))
result_left here operator.Subtract v u = checked_left here (whole (v -ℤ u))
result_left here operator.Multiply v u = checked_left here (whole (v *ℤ u))
result_left here operator.Divide v u = checked_left here (divided u (int_div v u))
result_left here operator.Modulo v u = checked_left here (divided u (modulus v u))
result_left here operator.Remainder v u = checked_left here (divided u (int_rem v u))
result_left here operator.AddTime v u = bounds_left here (negsuc 999999999999999) (pos 1000000000000000) (v +ℤ u)
result_left here other v u = (refl, λ range e. absurd (cc e))

abbrev by_option : List OperationShape → Option ℕ → Option (List Parameter)
by_option operations None = None
by_option operations (Some n) = of_operation (numbered operations n)

-- the operation of an internal call is wanted
own_wanted : (shapes : List Shape) (operations : List OperationShape) (c : Callee) (operation : ℕ) → internal c ≡ Some operation → wanted shapes operations c ≡ of_operation (numbered operations operation)
own_wanted shapes operations (callee.Internal own) operation e = ap (by_option operations) e
own_wanted shapes operations c operation e = absurd (cc e)

-- what is called inside an object is no entry
still_asked : (object : ℕ) (c : Callee) → internal (of_object object c) ≡ internal c
still_asked object (callee.OwnEntry operation) = refl
still_asked object c = refl

module _ (shapes : List Shape) (s : Stand) (here : Standing) (w : World) (k : AskingWorld shapes s.operations s.components here w) where
  -- Calls

  refilled_kept : (is_task : Bool) (a : Activation) → IsKept s a → IsKept s (refilled is_task a)
  refilled_kept true a kept = kept
  refilled_kept false a kept = kept

  answered_asks : (a : Activation) → IsKept s a → (later : OperationNumber) (now : Standing) (outcome : Outcome) → OutcomeLeft here now outcome → Asks shapes (GotEnds s Any here) later now (answered w a outcome)
  answered_asks a kept later now (Ok values) e = ((e, tt), refilled_kept w.is_task a kept)
  answered_asks a kept later now (Err why) e = (e, refilled_kept w.is_task a kept)

  asked_some : (next : OperationNumber) (c : Callee) (values : List ℤ) (b : Activation) → internal c ≡ None → callee_fits shapes c ≡ true → SuitsValues (wanted shapes s.operations c) values
      → IsKept s b → Asks shapes (GotEnds s Any here) next here (and_then (w.outer c values) (answered w b))
  asked_some next c values b outer fits suits kept =
      asks_then shapes (OutcomeLeft here) (GotEnds s Any here) next here (w.outer c values) (answered w b) (k.outer next c values outer fits suits) (answered_asks b kept)

  asked_less : (next : OperationNumber) (c : Callee) (values : List ℤ) (a : Activation) (n : ℕ) → internal c ≡ None → callee_fits shapes c ≡ true → SuitsValues (wanted shapes s.operations c) values
      → IsKept s a → Asks shapes (GotEnds s Any here) next here (asked_by w c values a (request_less n a))
  asked_less next c values a zero outer fits suits kept = (refl, kept)
  asked_less next c values a (suc n) outer fits suits kept = asked_some next c values (record a { requests = n }) outer fits suits kept

  asked_spent : (next : OperationNumber) (c : Callee) (values : List ℤ) (a : Activation) (is_task : Bool) → internal c ≡ None → callee_fits shapes c ≡ true → SuitsValues (wanted shapes s.operations c) values
      → IsKept s a → Asks shapes (GotEnds s Any here) next here (asked_by w c values a (spent is_task a))
  asked_spent next c values a true outer fits suits kept = asked_less next c values a a.requests outer fits suits kept
  asked_spent next c values a false outer fits suits kept = asked_some next c values a outer fits suits kept

  returned_asks : (operation : ℕ) (a : Activation) → IsKept s a → (later : OperationNumber) (now : Standing) (got : Outcome × (List ℤ × ℕ))
      → InnerEnds s.components (numbered s.operations operation) here now got → Asks shapes (GotEnds s Any here) later now (returned a got)
  returned_asks operation a kept later now (Ok values, (components, steps)) e = ((e.0, tt), (kept.0, e.1))
  returned_asks operation a kept later now (Err why, (components, steps)) e = (e.0, (kept.0, e.1))

  own_suits : (c : Callee) (values : List ℤ) → SuitsValues (wanted shapes s.operations c) values → SuitsValues (wanted shapes s.operations (of_object w.object c)) values
  own_suits (callee.OwnEntry operation) values suits = subst (λ (o : Option (List Parameter)). SuitsValues o values) (k.home operation) suits
  own_suits c values suits = suits

  called_so : (next : OperationNumber) (o : Option ℕ) (c : Callee) (values : List ℤ) (a : Activation) → internal c ≡ o → near shapes w c ≡ true → SuitsValues (wanted shapes s.operations c) values
      → IsKept s a → Asks shapes (GotEnds s Any here) next here (called_by w o (of_object w.object c) values a)
  called_so next (Some operation) c values a own fits suits kept =
      asks_then shapes (InnerEnds s.components (numbered s.operations operation) here) (GotEnds s Any here) next here (w.inner operation values a.components a.steps) (returned a)
      (k.inner next operation values a.components a.steps (subst (λ (o : Option (List Parameter)). SuitsValues o values) (own_wanted shapes s.operations c operation own) suits) kept.1)
      (returned_asks operation a kept)
  called_so next None c values a outer fits suits kept = asked_spent next (of_object w.object c) values a w.is_task (still_asked w.object c ∙ outer) fits (own_suits c values suits) kept

  called_asks : (next : OperationNumber) (c : Callee) (values : List ℤ) (a : Activation) → near shapes w c ≡ true → SuitsValues (wanted shapes s.operations c) values → IsKept s a
      → Asks shapes (GotEnds s Any here) next here (called w c values a)
  unfolding called
  called_asks next c values a fits suits kept = called_so next (internal c) c values a refl fits suits kept

  pub passing_asks : (next : OperationNumber) (c : Callee) (es : Expressions) (what : Asking GotAll) → near shapes w c ≡ true
      → ((values : List ℤ) → Passed [] es values → SuitsValues (wanted shapes s.operations c) values)
      → Asks shapes (GotEnds s (Passed [] es) here) next here what → Asks shapes (GotEnds s Any here) next here (passing w c what)
  passing_asks next c es what fits suits f =
      asks_value shapes s here (Passed [] es) Any next what (called w c) f (λ later values a p kept. called_asks later c values a fits (suits values p) kept)

  given_asks : (later : OperationNumber) (now : Standing) (got : GotAll) → GotEnds s Any here now got → Asks shapes (GotEnds s Silent here) later now (given got)
  given_asks later now (Ok values, a) e = ((e.0.0, silent (slice_index_or values 0 (pos 0))), e.1)
  given_asks later now (Err why, a) e = e

  more_passed : (before : List ℤ) (e : Expression) (es : Expressions) (v : ℤ) → GivesSo e v → (now : Standing) (got : GotAll) → GotEnds s (Passed (joined before v) es) here now got → GotEnds s (Passed before (and_expression e es)) here now got
  more_passed before e es v g now (Ok values, b) f = ((f.0.0, passed_more before e es v g values f.0.1), f.1)
  more_passed before e es v g now (Err why, b) f = f

  mutual
    unfolding value

    pub value_asks : (e : Expression) (next : OperationNumber) (a : Activation) → ExpressionSuits shapes (near shapes w) s e → IsKept s a → Asks shapes (GotEnds s (GivesSo e) here) next here (value w e a)
    value_asks (literal n) next a m kept = ((refl, λ range e. e), kept)
    value_asks (variable slot) next a m kept = ((refl, silent (slice_index_or a.slots slot (pos 0))), kept)
    value_asks (component index) next a m kept = ((refl, silent (slice_index_or a.components index (pos 0))), kept)
    value_asks (prefixed op e) next a m kept =
        asks_value shapes s here (GivesSo e) Silent next (value w e a) (λ v b. ended (prefix_of op v, b)) (value_asks e next a m kept) (λ later v b g more. (prefix_left here op v, more))
    value_asks (chain e links) next a m kept =
        asks_value shapes s here (GivesSo e) Silent next (value w e a) (linked w links) (value_asks e next a m.0 kept) (λ later v b g more. linked_asks links later v b m.1 more)
    value_asks (code.within inner e) next a m kept =
        asks_value shapes s here (GivesSo e) (GivesSo (code.within inner e)) next (value w e a) (λ v b. ended (within inner v, b)) (value_asks e next a m kept)
        (λ later v b g more. (within_cases (λ r. GotLeft (GivesSo (code.within inner e)) here here r) inner v (λ lies. (refl, λ range c. covered range inner v c lies)) refl, more))
    value_asks (call c es) next a m kept =
        asks_then shapes (GotEnds s Any here) (GotEnds s Silent here) next here (passing w c (arguments w es [] a)) given
        (passing_asks next c es (arguments w es [] a) m.0 (λ values p. suits_passed shapes s.operations c es values m.1 p) (arguments_ask es next [] a m.2 kept)) given_asks

    linked_asks : (links : Links) (next : OperationNumber) (v : ℤ) (a : Activation) → LinksSuit shapes (near shapes w) s links → IsKept s a → Asks shapes (GotEnds s Silent here) next here (linked w links v a)
    linked_asks no_links next v a m kept = ((refl, silent v), kept)
    linked_asks (and_link op e more) next v a m kept =
        asks_if shapes (GotEnds s Silent here) next here (decides op v) (linked w more v a) (and_then (value w e a) (on_value fails (λ u b. on_value fails (linked w more) (result_of op v u, b))))
        (linked_asks more next v a m.1 kept)
        (asks_value shapes s here (GivesSo e) Silent next (value w e a) (λ u b. on_value fails (linked w more) (result_of op v u, b)) (value_asks e next a m.0 kept)
        (λ later u b g still. value_goes shapes s here Silent Silent (linked w more) (λ last x c h kept. linked_asks more last x c m.1 kept) later here (result_of op v u, b) (result_left here op v u, still)))

    pub arguments_ask : (es : Expressions) (next : OperationNumber) (before : List ℤ) (a : Activation) → ExpressionsSuit shapes (near shapes w) s es → IsKept s a → Asks shapes (GotEnds s (Passed before es) here) next here (arguments w es before a)
    arguments_ask no_expressions next before a m kept = ((refl, passed_none before), kept)
    arguments_ask (and_expression e es) next before a m kept =
        asks_value shapes s here (GivesSo e) (Passed before (and_expression e es)) next (value w e a) (λ v b. arguments w es (joined before v) b) (value_asks e next a m.0 kept)
        (λ later v b g more. asks_more shapes (GotEnds s (Passed (joined before v) es) here) (GotEnds s (Passed before (and_expression e es)) here) later here (arguments w es (joined before v) b)
        (more_passed before e es v g) (arguments_ask es later (joined before v) b m.1 more))
