-- On what a start, or a wait in a queue, is due.
use Rattle.std.proofs.Common.{◌≡◌, ℕ, ◌-◌, ℤ, List, ◌++◌, Bool, true, false, refl, sym, ap, ◌∙◌, Option, Some, None}
use Rattle.std.specs.Prelude.{◌&&◌, not}
use Rattle.rv_shape.specs.Shape.{Shape}
use Rattle.rv_shape.specs.Catalogue.{OperationNumber, UnitObject, target, at_unit_object, place, shares, is_function, is_entry, handler}
use Rattle.rv_shape.proofs.Stay.{target_stays, handler_stays}
use Rattle.rv_shape.specs.declared.kind.Kind.{Kind}
use Rattle.rv_shape.specs.declared.kind.Kind.TheVariants as kinds
use Rattle.rv_event.specs.declared.entry.Answer.{Answer}
use Rattle.rv_event.specs.declared.entry.Answer.TheVariants as Answers
use Rattle.rv_event.specs.declared.entry.Request.{Request}
use Rattle.rv_event.specs.declared.entry.Request.TheVariants.{Call, DelayUntil, Clock, Fire}
use Rattle.rv_history.specs.Due.{out}
use Rattle.rv_history.specs.Exclusion.{is_open}
use Rattle.rv_history.specs.History.{History}
use Rattle.rv_history.specs.Rules.{Aim, aim, aim_at}
use Rattle.rv_history.proofs.Tells.{out_tells}
use Rattle.rv_meant.specs.Explained.{on_protected}

-- a body starts, or waits in a queue
abbrev pub begins : Answer → Bool
begins (Answers.Started s) = true
begins Answers.Queued = true
begins r = false

-- it waits in a queue
abbrev pub queues : Answer → Bool
queues Answers.Queued = true
queues r = false

pub unlike : {X : Type 0} (b : Bool) → b ≡ true → b ≡ false → X
unlike b e f = absurd (cc (e, f))

-- what starts, or waits in a queue, is of a protected operation
begun_aim : (h : History) (a : ℕ) (q : Request) (r : Answer) → out h a q ≡ r → begins r ≡ true → on_protected (aim h.shapes a q).1 ≡ true
begun_aim h a q (Answers.Started s) e b = ap (λ (m : Aim). on_protected m.1) (out_tells h a q (Answers.Started s) e (λ f. cc f)).aimed
begun_aim h a q Answers.Queued e b = ap (λ (m : Aim). on_protected m.1) (out_tells h a q Answers.Queued e (λ f. cc f)).aimed
begun_aim h a q r e b = absurd (cc b)

-- so is a call that does
pub call_begins : (h : History) (a o p : ℕ) (vs : List ℤ) (r : Answer) → r ≡ out h a (Call o p vs) → begins r ≡ true → on_protected (target h.shapes o p) ≡ true
call_begins h a o p vs r e b = begun_aim h a (Call o p vs) r (sym e) b

-- and so is a line's handler that starts
pub record Fires (h : History) (a : ℕ) : Type 0 where
  pub number : OperationNumber
  pub handles : handler h.shapes (a - 1) ≡ Some number
  pub loaded : on_protected (target h.shapes number.object number.operation) ≡ true

pub fire_begins : (h : History) (a : ℕ) (r : Answer) → r ≡ out h a Fire → begins r ≡ true → Fires h a
fire_begins h a r e b = by_handler (handler h.shapes (a - 1)) refl where
  aimed : on_protected (aim_at h.shapes (handler h.shapes (a - 1))).1 ≡ true
  aimed = begun_aim h a Fire r (sym e) b

  by_handler : (n : Option OperationNumber) → handler h.shapes (a - 1) ≡ n → Fires h a
  by_handler None is = absurd (cc (sym (ap (λ (z : Option OperationNumber). on_protected (aim_at h.shapes z).1) is) ∙ aimed))
  by_handler (Some n) is = record { number = n; handles = is; loaded = sym (ap (λ (z : Option OperationNumber). on_protected (aim_at h.shapes z).1) is) ∙ aimed }

-- what waits in a queue is no function
no_function : (k : Kind) (b : Bool) → (is_entry k && b) ≡ true → is_function k ≡ false
no_function (kinds.Function result) b e = absurd (cc e)
no_function k b e = refl

pub queue_shares : (h : History) (a o p : ℕ) (vs : List ℤ) (r : Answer) → r ≡ out h a (Call o p vs) → queues r ≡ true → shares (target h.shapes o p) ≡ false
queue_shares h a o p vs Answers.Queued e b =
    let t = out_tells h a (Call o p vs) Answers.Queued (sym e) (λ f. cc f) in
    ap (λ (m : Aim). shares m.1) t.aimed ∙ no_function t.site.operation.kind (not (is_open h t.object)) t.passed.shut
queue_shares h a o p vs r e b = absurd (cc b)

-- what is called stays what it is when more units are loaded
pub target_later : (old more : List Shape) (o p : ℕ) → on_protected (target old o p) ≡ true → target (old ++ more) o p ≡ target old o p
target_later old more o p e = by_place (place old o) refl where
  by_place : (x : Option UnitObject) → place old o ≡ x → target (old ++ more) o p ≡ target old o p
  by_place None is = unlike (on_protected (target old o p)) e (ap (λ (z : Option UnitObject). on_protected (at_unit_object p z)) is)
  by_place (Some x) is = target_stays old more o p x is

pub handler_later : (old more : List Shape) (line : ℕ) (n : OperationNumber) → handler old line ≡ Some n → handler (old ++ more) line ≡ Some n
handler_later old more line n e = handler_stays old more line n e

-- what aims at nothing, as a delay and Clock, starts nothing
begins_not : (h : History) (a : ℕ) (q : Request) → on_protected (aim h.shapes a q).1 ≡ false → begins (out h a q) ≡ false
begins_not h a q none = by_test (begins (out h a q)) refl where
  by_test : (b : Bool) → begins (out h a q) ≡ b → b ≡ false
  by_test true is = unlike (on_protected (aim h.shapes a q).1) (begun_aim h a q (out h a q) refl is) none
  by_test false is = refl

pub delay_begins_not : (h : History) (a : ℕ) (time : ℤ) → begins (out h a (DelayUntil time)) ≡ false
delay_begins_not h a time = begins_not h a (DelayUntil time) refl

pub clock_begins_not : (h : History) (a : ℕ) → begins (out h a Clock) ≡ false
clock_begins_not h a = begins_not h a Clock refl
