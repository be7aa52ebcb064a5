-- What is kept of expressions.
use Rattle.std.proofs.Common.{◌≡◌, ◌∙◌, ℕ, ℤ, List, [], Bool, true, false, cond, refl, Option, Some, None, Result, Ok, Err, int_le, ◌&&◌}
use Rattle.rv_value.specs.declared.arithmetic.Arith.{Arith}
use Rattle.rv_shape.specs.declared.kind.Range.{Range}
use Rattle.rv_event.specs.declared.entry.Exception.TheVariants.{ConstraintError}
use Rattle.rv_code.specs.Callees.{of_object}
use Rattle.rv_code.specs.declared.expression.Callee.{Callee}
use Rattle.rv_code.specs.declared.expression.Callee.TheVariants as callee
use Rattle.rv_code.specs.declared.expression.Operator.{Operator}
use Rattle.rv_code.specs.declared.expression.Operator.TheVariants as operator
use Rattle.rv_code.specs.declared.expression.Prefix.{Prefix}
use Rattle.rv_code.specs.declared.expression.Prefix.TheVariants as prefix
use Rattle.rv_code.specs.Expressions.{Expression, literal, variable, component, prefixed, chain, call, Expressions, no_expressions, and_expression, Links, no_links, and_link}
use Rattle.rv_code.specs.Expressions as code
use Rattle.rv_fits.proofs.Both.{first_of_both, second_of_both}
use Rattle.rv_fits.specs.Calls.{expression_calls, expressions_call, links_call, such_in}
use Rattle.rv_value.specs.Arithmetic.{whole, divided, modulus}
use Rattle.std.specs.Prelude.{pos, negsuc, neg_ℤ, unsigned_abs, ◌+ℤ◌, ◌-ℤ◌, ◌*ℤ◌}
use Rattle.std.specs.Int.RustNames.{int_div, int_rem}
use Rattle.rv_exec.specs.declared.activation.Activation.{Activation}
use Rattle.rv_exec.specs.declared.end.Cause.TheVariants as cause
use Rattle.rv_exec.specs.Asking.{Asking, and_then}
use Rattle.rv_exec.specs.Operators.{checked, in_bounds, within, prefix_of, decides, result_of}
use Rattle.rv_exec.specs.Activations.{joined, spent}
use Rattle.rv_exec.specs.Calls.{Outcome, internal}
use Rattle.rv_exec.specs.Expressions.{on_value, fails, returned, answered, asked_by, called_by, called, passing, given, value, linked, arguments}
use Rattle.rv_exec.specs.World.{World, GotAll}
use Rattle.rv_exec.proofs.Keeping.{how_by, how_result, how_got, ongoing, Kept, Sound, Follows, sound_end, follows_end, follows_value, sound_where, sound_if, sound_then, sound_value}

-- Operators never stop

checked_goes : (r : Result ℤ Arith) → how_result (checked r) ≡ ongoing
checked_goes (Ok v) = refl
checked_goes (Err why) = refl

bound_goes : (k : Bool) (v : ℤ) → how_result (cond k (Ok v) (Err (cause.Raised ConstraintError))) ≡ ongoing
bound_goes true v = refl
bound_goes false v = refl

pub within_goes : (range : Range) (v : ℤ) → how_result (within range v) ≡ ongoing
within_goes range v = bound_goes (int_le range.low v && int_le v range.high) v

prefix_goes : (op : Prefix) (v : ℤ) → how_result (prefix_of op v) ≡ ongoing
prefix_goes prefix.Negate v = checked_goes (whole (neg_ℤ v))
prefix_goes prefix.Absolute v = checked_goes (whole (pos (unsigned_abs v)))
prefix_goes prefix.Not v = refl

bounds_go : (low high v : ℤ) → how_result (in_bounds low high v) ≡ ongoing
bounds_go low high v = bound_goes (int_le low v && int_le v high) v

result_goes : (op : Operator) (v u : ℤ) → how_result (result_of op v u) ≡ ongoing
result_goes operator.Add v u = checked_goes (whole (v +ℤ u))
result_goes operator.Subtract v u = checked_goes (whole (v -ℤ u))
result_goes operator.Multiply v u = checked_goes (whole (v *ℤ u))
result_goes operator.Divide v u = checked_goes (divided u (int_div v u))
result_goes operator.Modulo v u = checked_goes (divided u (modulus v u))
result_goes operator.Remainder v u = checked_goes (divided u (int_rem v u))
result_goes operator.AddTime v u = bounds_go (negsuc 999999999999999) (pos 1000000000000000) (v +ℤ u)
result_goes other v u = refl

-- a world whose calls keep it
pub record SoundWorld (kept : Kept) (w : World) : Type 0 where
  pub inner : (operation : ℕ) (values components : List ℤ) (steps : ℕ) → Sound kept how_got (w.inner operation values components steps)
  pub outer : (c : Callee) (values : List ℤ) → internal c ≡ None → kept.such c ≡ true → Sound kept how_result (w.outer c values)

follows_returned : (kept : Kept) (a : Activation) (got : Outcome × (List ℤ × ℕ)) → Follows kept (how_got got) how_got (returned a got)
follows_returned kept a (outcome, (components, steps)) = follows_end kept (how_result outcome) how_got (outcome, record a { components = components; steps = steps }) refl

follows_given : (kept : Kept) (got : GotAll) → Follows kept (how_got got) how_got (given got)
follows_given kept (Ok values, a) = sound_end kept how_got _ refl
follows_given kept (Err why, a) = follows_end kept (how_by why) how_got (Err why, a) refl

-- what is called inside an object is no entry
still_asked : (object : ℕ) (c : Callee) → internal (of_object object c) ≡ internal c
still_asked object (callee.OwnEntry operation) = refl
still_asked object c = refl

-- what may be called in a world, by the callees that its bodies name
abbrev pub near : Kept → World → Callee → Bool
near kept w = such_in kept.such w.object

module _ (kept : Kept) (w : World) (k : SoundWorld kept w) where
  follows_answered : (a : Activation) (outcome : Outcome) → Follows kept (how_result outcome) how_got (answered w a outcome)
  follows_answered a outcome = follows_end kept (how_result outcome) how_got _ refl

  asked_sound : (c : Callee) (values : List ℤ) (a : Activation) (o : Option Activation) → internal c ≡ None → kept.such c ≡ true → Sound kept how_got (asked_by w c values a o)
  asked_sound c values a None e m = sound_end kept how_got _ refl
  asked_sound c values a (Some b) e m = sound_then kept how_result how_got (w.outer c values) (answered w b) (k.outer c values e m) (follows_answered b)

  called_so : (o : Option ℕ) (c : Callee) (values : List ℤ) (a : Activation) → internal c ≡ o → near kept w c ≡ true → Sound kept how_got (called_by w o (of_object w.object c) values a)
  called_so (Some operation) c values a e m = sound_then kept how_got how_got (w.inner operation values a.components a.steps) (returned a) (k.inner operation values a.components a.steps) (follows_returned kept a)
  called_so None c values a e m = asked_sound (of_object w.object c) values a (spent w.is_task a) (still_asked w.object c ∙ e) m

  called_sound : (c : Callee) (values : List ℤ) (a : Activation) → near kept w c ≡ true → Sound kept how_got (called w c values a)
  unfolding called
  called_sound c values a m = called_so (internal c) c values a refl m

  pub passing_sound : (c : Callee) (what : Asking GotAll) → near kept w c ≡ true → Sound kept how_got what → Sound kept how_got (passing w c what)
  passing_sound c what m f = sound_value kept what (called w c) f (λ values a. called_sound c values a m)

  mutual
    unfolding value

    pub value_sound : (e : Expression) (a : Activation) → expression_calls (near kept w) e ≡ true → Sound kept how_got (value w e a)
    value_sound (literal n) a m = sound_end kept how_got _ refl
    value_sound (variable slot) a m = sound_end kept how_got _ refl
    value_sound (component index) a m = sound_end kept how_got _ refl
    value_sound (prefixed op e) a m = sound_value kept (value w e a) _ (value_sound e a m) (λ v b. sound_end kept how_got (prefix_of op v, b) (prefix_goes op v))
    value_sound (chain e links) a m =
        sound_value kept (value w e a) (linked w links) (value_sound e a (first_of_both (expression_calls (near kept w) e) (links_call (near kept w) links) m))
        (λ v b. linked_sound links v b (second_of_both (expression_calls (near kept w) e) (links_call (near kept w) links) m))
    value_sound (code.within range e) a m = sound_value kept (value w e a) _ (value_sound e a m) (λ v b. sound_end kept how_got (within range v, b) (within_goes range v))
    value_sound (call c es) a m =
        sound_then kept how_got how_got (passing w c (arguments w es [] a)) given
        (passing_sound c (arguments w es [] a) (first_of_both (near kept w c) (expressions_call (near kept w) es) m) (arguments_sound es [] a (second_of_both (near kept w c) (expressions_call (near kept w) es) m))) (follows_given kept)

    linked_sound : (links : Links) (v : ℤ) (a : Activation) → links_call (near kept w) links ≡ true → Sound kept how_got (linked w links v a)
    linked_sound no_links v a m = sound_end kept how_got _ refl
    linked_sound (and_link op e more) v a m =
        let here = first_of_both (expression_calls (near kept w) e) (links_call (near kept w) more) m in
        let there = second_of_both (expression_calls (near kept w) e) (links_call (near kept w) more) m in
        sound_if kept (decides op v) how_got (linked w more v a) (and_then (value w e a) (on_value fails (λ u b. on_value fails (linked w more) (result_of op v u, b))))
        (linked_sound more v a there)
        (sound_value kept (value w e a) (λ u b. on_value fails (linked w more) (result_of op v u, b)) (value_sound e a here)
        (λ u b. sound_where kept (how_result (result_of op v u)) how_got (on_value fails (linked w more) (result_of op v u, b)) (result_goes op v u)
        (follows_value kept (linked w more) (λ x c. linked_sound more x c there) (result_of op v u, b))))

    pub arguments_sound : (es : Expressions) (values : List ℤ) (a : Activation) → expressions_call (near kept w) es ≡ true → Sound kept how_got (arguments w es values a)
    arguments_sound no_expressions values a m = sound_end kept how_got _ refl
    arguments_sound (and_expression e more) values a m =
        sound_value kept (value w e a) (λ v b. arguments w more (joined values v) b) (value_sound e a (first_of_both (expression_calls (near kept w) e) (expressions_call (near kept w) more) m))
        (λ v b. arguments_sound more (joined values v) b (second_of_both (expression_calls (near kept w) e) (expressions_call (near kept w) more) m))
