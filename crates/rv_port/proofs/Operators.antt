-- The operator's own events.
use Rattle.std.proofs.Common.{◌≡◌, ℕ, ◌+◌, ◌<◌, ◌≤◌, Bool, true, false, eqb, List, [], ◌∷◌, ◌++◌, reverse, if◌then◌else◌, ap, sym, refl, ◌∙◌, eq-eqb, ⊎_elim, length, arith}
use Rattle.std.specs.Prelude.{◌||◌, Option}
use Rattle.std.proofs.lemmas.Bool.{ne_eqb}
use Rattle.std.proofs.lemmas.List.{reverse-append}
use Rattle.atomic_table.specs.Seated.{TableId}
use Rattle.rv_access.specs.Words.{Words}
use Rattle.rv_shape.specs.Shape.{Shape}
use Rattle.rv_event.specs.declared.entry.Entry.{Entry}
use Rattle.rv_event.specs.declared.entry.Entry.TheVariants.{Asked, Load, ListChange}
use Rattle.rv_history.specs.History.{History}
use Rattle.rv_turn.specs.Histories.{mine, Has}
use Rattle.rv_turn.specs.Prefixes.{mine-append}
use Rattle.rv_turn.specs.Passes.{opening_of}
use Rattle.rv_code.specs.declared.body.UnitBodies.{UnitBodies}
use Rattle.rv_behind.specs.Events.{by, events, log_of, first_or, first_of, rest_of, no_shape}
use Rattle.rv_port.specs.Traces.{Passing}
use Rattle.rv_port.specs.Controls.{listed, OperatorAlone, IsControl, IsOperators}
use Rattle.rv_behind.specs.declared.event.Event.{Event}
use Rattle.rv_behind.specs.declared.event.Event.TheVariants.{Asks, Loads, Lists}

or_left : (b c : Bool) → (b || c) ≡ false → b ≡ false
or_left true c e = e
or_left false c e = λ i. false

or_right : (b c : Bool) → (b || c) ≡ false → c ≡ false
or_right true c e = absurd (cc e)
or_right false c e = e

pub not_given : (a : ℕ) (l : List ℕ) → listed a l ≡ false → Has a l → ⊥
not_given a [] e h = h
not_given a (x ∷ xs) e h = ⊎_elim (λ is. absurd (cc (eq-eqb x a is, or_left (eqb x a) (listed a xs) e))) (λ t. not_given a xs (or_right (eqb x a) (listed a xs) e) t) h

if_not : (b : Bool) (e : Event) → b ≡ false → (if b then e ∷ [] else []) ≡ []
if_not true e h = absurd (cc h)
if_not false e h = refl

one_back : (a : ℕ) (e : Event) (es : List Event) → mine by a (reverse es) ≡ [] → 0 < a → by e ≡ 0 → mine by a (reverse (e ∷ es)) ≡ []
one_back a e es h some is =
    let no : eqb (by e) a ≡ false = ne_eqb (by e) a (λ same. absurd (omega (arith, same, is, some))) in
    ap (mine by a) (reverse-append (e ∷ []) es) ∙ (mine-append by a (reverse es) (e ∷ []) ∙ (λ i. h i ++ if_not (eqb (by e) a) e no i))

pub alone_back : (past : List Entry) (ss : List Shape) (us : List UnitBodies) (ls : List (List Words)) (a : ℕ) → 0 < a → OperatorAlone past → mine by a (reverse (events past ss us ls)) ≡ []
alone_back [] ss us ls a some t = refl
alone_back (Asked b q w ∷ past) ss us ls a some t = one_back a (Asks b q w) (events past ss us ls) (alone_back past ss us ls a some t.1) some t.0
alone_back (Load ∷ past) ss us ls a some t =
    one_back a (Loads (first_or no_shape ss) (first_of us)) (events past (rest_of ss) (rest_of us) ls) (alone_back past (rest_of ss) (rest_of us) ls a some t) some refl
alone_back (ListChange ∷ past) ss us ls a some t = one_back a (Lists (first_or [] ls)) (events past ss us (rest_of ls)) (alone_back past ss us (rest_of ls) a some t) some refl

pub alone_mine : (h : History) (us : List UnitBodies) → OperatorAlone h.past → (a : ℕ) → 0 < a → mine by a (log_of h us) ≡ []
alone_mine h us t a some = alone_back h.past (reverse h.shapes) (reverse us) (reverse h.lists) a some t

-- the events of the operator alone
mine_if : (b : Bool) (e : Event) (es : List Event) → b ≡ true → (if b then e ∷ es else es) ≡ e ∷ es
mine_if true e es is = refl
mine_if false e es is = absurd (cc is)

one_kept : (e : Event) (es : List Event) → mine by 0 (reverse es) ≡ reverse es → by e ≡ 0 → mine by 0 (reverse (e ∷ es)) ≡ reverse (e ∷ es)
one_kept e es h is =
    ap (mine by 0) (reverse-append (e ∷ []) es) ∙ (mine-append by 0 (reverse es) (e ∷ []) ∙ ((λ i. h i ++ mine_if (eqb (by e) 0) e [] (eq-eqb (by e) 0 is) i) ∙ sym (reverse-append (e ∷ []) es)))

all_back : (past : List Entry) (ss : List Shape) (us : List UnitBodies) (ls : List (List Words)) → OperatorAlone past → mine by 0 (reverse (events past ss us ls)) ≡ reverse (events past ss us ls)
all_back [] ss us ls t = refl
all_back (Asked b q w ∷ past) ss us ls t = one_kept (Asks b q w) (events past ss us ls) (all_back past ss us ls t.1) t.0
all_back (Load ∷ past) ss us ls t = one_kept (Loads (first_or no_shape ss) (first_of us)) (events past (rest_of ss) (rest_of us) ls) (all_back past (rest_of ss) (rest_of us) ls t) refl
all_back (ListChange ∷ past) ss us ls t = one_kept (Lists (first_or [] ls)) (events past ss us (rest_of ls)) (all_back past ss us (rest_of ls) t) refl

pub begins_alone : (turn : TableId) (pass : Passing) (h : History) (us : List UnitBodies) → OperatorAlone h.past → pass ≡ opening_of turn h.limits by (log_of h us) → pass.base ≡ pass.seen
begins_alone turn pass h us t is =
    ap (λ (z : Passing). z.base) is ∙ (all_back h.past (reverse h.shapes) (reverse us) (reverse h.lists) t ∙ sym (ap (λ (z : Passing). z.seen) is))

-- the operator's events of a list are the operator's
twice_if : (b : Bool) (e : Event) (es : List Event) → eqb (by e) 0 ≡ b → mine by 0 es ≡ es → mine by 0 (if b then e ∷ es else es) ≡ (if b then e ∷ es else es)
twice_if true e es is h = mine_if (eqb (by e) 0) e (mine by 0 es) is ∙ ap (λ (l : List Event). e ∷ l) h
twice_if false e es is h = h

twice : (es : List Event) → mine by 0 (mine by 0 es) ≡ mine by 0 es
twice [] = refl
twice (e ∷ es) = twice_if (eqb (by e) 0) e (mine by 0 es) refl (twice es)

length_if : (b : Bool) (e : Event) (es : List Event) (n : ℕ) → length es ≤ n → length (if b then e ∷ es else es) ≤ n + 1
length_if true e es n less = omega (arith, less)
length_if false e es n less = omega (arith, less)

length_mine : (es : List Event) → length (mine by 0 es) ≤ length es
length_mine [] = omega arith
length_mine (e ∷ es) = let one : length (mine by 0 (e ∷ es)) ≤ length es + 1 = length_if (eqb (by e) 0) e (mine by 0 es) (length es) (length_mine es) in omega (arith, one)

own_if : (b : Bool) (e : Event) (es fs : List Event) → length es ≤ length fs → (if b then e ∷ es else es) ≡ e ∷ fs → (b ≡ true) × (es ≡ fs)
own_if true e es fs less is = (refl, ap rest_of is)
own_if false e es fs less is = absurd (omega (arith, less, ap length is))

front_kept : (xs ys : List Event) → mine by 0 (xs ++ ys) ≡ xs ++ ys → mine by 0 xs ≡ xs
front_kept [] ys h = refl
front_kept (x ∷ xs) ys h = let own = own_if (eqb (by x) 0) x (mine by 0 (xs ++ ys)) (xs ++ ys) (length_mine (xs ++ ys)) h in
    mine_if (eqb (by x) 0) x (mine by 0 xs) own.0 ∙ ap (λ (l : List Event). x ∷ l) (front_kept xs ys own.1)

pub keeps_of : (turn : TableId) (pass : Passing) (given : List ℕ) (catalogue : List Shape) (lists : Option (List (List Words))) → IsControl turn pass given catalogue lists → IsOperators pass
keeps_of turn pass given catalogue lists k = record {
  first = k.first;
  actor = k.operator;
  limited = k.limited;
  opening = front_kept pass.base pass.own (ap (mine by 0) (sym k.owns) ∙ (twice pass.seen ∙ k.owns));
  owns = k.owns;
}
