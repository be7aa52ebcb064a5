-- A line keeps its handler.
use Rattle.std.proofs.Common.{◌≡◌, ℕ, zero, suc, ◌<◌, arith, ◌-◌, Bool, true, false, eqb, if◌then◌else◌, List, [], ◌∷◌, ◌++◌, reverse, Option, Some, None, refl, sym, ap, ◌∙◌, subst, ⊎_elim, append_assoc, append-nil}
use Rattle.std.specs.Prelude.{◌⊎◌, is_some, nat_lt, slice_get, Result, Ok, Err, MatchResult}
use Rattle.std.proofs.lemmas.List.{reverse-append}
use Rattle.rv_shape.specs.Shape.{Shape}
use Rattle.rv_shape.specs.Catalogue.{OperationNumber, Operator, Line, task_of, all_tasks, handler}
use Rattle.rv_shape.proofs.Stay.{handler_stays}
use Rattle.rv_turn.specs.Histories.{StartsWith, mine}
use Rattle.rv_turn.specs.Prefixes.{starts_both}
use Rattle.rv_turn.specs.Passes.{Acted, IsWorn, Meets}
use Rattle.rv_turn.specs.declared.pass.Worn.{Worn}
use Rattle.rv_behind.specs.Acting.{Does}
use Rattle.rv_port.specs.Traces.{Passing}
use Rattle.rv_behind.specs.declared.event.Ask.{Ask}
use Rattle.rv_behind.specs.declared.event.Reply.{Reply}
use Rattle.rv_behind.specs.Events.{shapes_of, catalogue_of, by}
use Rattle.rv_port.specs.Actors.{performs, is_performer, HasHandler}
use Rattle.rv_behind.specs.declared.event.Event.{Event}
use Rattle.rv_behind.specs.declared.event.Event.TheVariants.{Asks, Loads, Lists}

pub shapes-append : (xs ys : List Event) → shapes_of (xs ++ ys) ≡ shapes_of ys ++ shapes_of xs
shapes-append [] ys = sym (append-nil (shapes_of ys))
shapes-append (Asks a q w ∷ xs) ys = shapes-append xs ys
shapes-append (Loads s u ∷ xs) ys = ap (λ (z : List Shape). z ++ s ∷ []) (shapes-append xs ys) ∙ append_assoc (shapes_of ys) (shapes_of xs) (s ∷ [])
shapes-append (Lists l ∷ xs) ys = shapes-append xs ys

-- the catalogue of a longer history has that of a shorter one in front
pub catalogue-append : (xs ys : List Event) → catalogue_of (xs ++ ys) ≡ catalogue_of xs ++ catalogue_of ys
catalogue-append xs ys = ap shapes_of (reverse-append xs ys) ∙ shapes-append (reverse ys) (reverse xs)

some_stays : (old more : List Shape) (line : ℕ) (n : Option OperationNumber) → handler old line ≡ n → is_some n ≡ true → is_some (handler (old ++ more) line) ≡ true
some_stays old more line None e t = absurd (cc t)
some_stays old more line (Some n) e t = ap is_some (handler_stays old more line n e)

pub handler_later : (seen log : List Event) (a : ℕ) → StartsWith log seen → HasHandler (catalogue_of seen) a → HasHandler (catalogue_of log) a
handler_later seen log a w has = record { handled = λ line. later line } where
  later : nat_lt a 11 ≡ true → is_some (handler (catalogue_of log) (a - 1)) ≡ true
  later line =
      subst (λ (l : List Event). is_some (handler (catalogue_of l) (a - 1)) ≡ true) (sym w.1)
      (ap (λ (ss : List Shape). is_some (handler ss (a - 1))) (catalogue-append seen w.0)
      ∙ some_stays (catalogue_of seen) (catalogue_of w.0) (a - 1) (handler (catalogue_of seen) (a - 1)) refl (has.handled line))

-- who may have a port has a handler, where it is a line
pub performer_handles : (shapes : List Shape) (a : ℕ) → is_performer shapes a ≡ true → HasHandler shapes a
performer_handles shapes a e = record { handled = λ line. by_zero line (eqb a 0) e } where
  by_test : (b : Bool) → b ≡ true → performs shapes (if b then Line (a - 1) else task_of (slice_get (all_tasks shapes) (a - 11))) ≡ true → is_some (handler shapes (a - 1)) ≡ true
  by_test true t f = f
  by_test false t f = absurd (cc t)

  by_zero : nat_lt a 11 ≡ true → (b : Bool) → performs shapes (if b then Operator else (if nat_lt a 11 then Line (a - 1) else task_of (slice_get (all_tasks shapes) (a - 11)))) ≡ true → is_some (handler shapes (a - 1)) ≡ true
  by_zero line true f = absurd (cc f)
  by_zero line false f = by_test (nat_lt a 11) line f

-- after an act, and after a note was met
pub later_entry : (at seen : List Event) (v w : Passing) → StartsWith at v.seen
    → ((w.seen ≡ at) × (w.own ≡ v.own)) ⊎ ((e : Event) × (by e ≡ v.actor) × (w.seen ≡ at ++ e ∷ []) × (w.own ≡ v.own ++ e ∷ [])) → StartsWith w.seen v.seen
later_entry at seen v w p t = ⊎_elim (λ x. subst (λ (l : List Event). StartsWith l v.seen) (sym x.0) p)
    (λ x. subst (λ (l : List Event). StartsWith l v.seen) (sym x.2) (starts_both v.seen at (at ++ x.0 ∷ []) p (x.0 ∷ [], refl))) t

pub moved : (v w : Passing) → w.actor ≡ v.actor → StartsWith w.seen v.seen → HasHandler (catalogue_of v.seen) v.actor → HasHandler (catalogue_of w.seen) w.actor
moved v w is p has = subst (λ (n : ℕ). HasHandler (catalogue_of w.seen) n) (sym is) (handler_later v.seen w.seen v.actor p has)

pub act_handles : {T : Type 0} (v w : Passing) (ask : Ask) (says : T → Reply) (answer : Result T Worn) → HasHandler (catalogue_of v.seen) v.actor
    → MatchResult answer (λ r. Acted by Does v ask (says r) w) (λ _. IsWorn v w) → HasHandler (catalogue_of w.seen) w.actor
act_handles v w ask says (Ok r) has a = moved v w (ap (λ (z : Passing). z.actor) a.same) (later_entry a.at v.seen v w a.later a.entry) has
act_handles v w ask says (Err e) has t = subst (λ (z : Passing). HasHandler (catalogue_of z.seen) z.actor) (sym t.1) has

pub meet_handles : (v w : Passing) (note : List Event) → HasHandler (catalogue_of v.seen) v.actor → Meets by v note w → HasHandler (catalogue_of w.seen) w.actor
meet_handles v w note has m = moved v w (ap (λ (z : Passing). z.actor) m.same) m.earlier has

pub act_owns : {T : Type 0} (v w : Passing) (ask : Ask) (says : T → Reply) (answer : Result T Worn) → mine by v.actor v.seen ≡ v.base ++ v.own
    → MatchResult answer (λ r. Acted by Does v ask (says r) w) (λ _. IsWorn v w) → mine by w.actor w.seen ≡ w.base ++ w.own
act_owns v w ask says (Ok r) owns a = a.owns
act_owns v w ask says (Err e) owns t = subst (λ (z : Passing). mine by z.actor z.seen ≡ z.base ++ z.own) (sym t.1) owns

-- who may have a port isn't the operator
pub performer_some : (shapes : List Shape) (a : ℕ) → is_performer shapes a ≡ true → 0 < a
performer_some shapes zero e = absurd (cc e)
performer_some shapes (suc n) e = omega arith
