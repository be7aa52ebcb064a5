-- What an actor asked, event by event.
use Rattle.std.proofs.Common.{◌≡◌, ◌⊎◌, inl, inr, ⊎_elim, ℕ, List, [], ◌∷◌, ◌++◌, Bool, true, false, cond, eqb, refl, sym, ap, ◌∙◌, append_assoc, append-nil, length, length-append, arith, reverse}
use Rattle.std.proofs.lemmas.List.{reverse-append}
use Rattle.rv_exec.specs.Asking.{Trace}
use Rattle.rv_history.specs.declared.limits.Limits.{Limits}
use Rattle.rv_history.specs.Due.{out}
use Rattle.rv_history.specs.History.{History}
use Rattle.rv_history.specs.Journal.{shapes_before, lists_before}
use Rattle.rv_history.proofs.Growing.{front_is}
use Rattle.rv_turn.specs.Histories.{StartsWith, mine}
use Rattle.rv_turn.specs.Prefixes.{mine-append}
use Rattle.rv_meant.specs.Histories.{ask_of, own_ask, history_of, asks_of, without_last}
use Rattle.rv_meant.proofs.Settles.{none_asked}
use Rattle.rv_behind.specs.Events.{by, mark, marks, shapes_of, lists_of, history_back, history_at}
use Rattle.rv_behind.specs.declared.event.Event.{Event}
use Rattle.rv_behind.specs.declared.event.Event.TheVariants.{Asks, Loads, Lists}
use Rattle.rv_accounts.specs.WithoutSettles.{but_settles-append}
use Rattle.rv_accounts.specs.Seen.{asked_at, but_settles, own_event, settles, AsksGrow, AsksStay}

-- Without the newest event

pub shapes_less : (e : Event) (es : List Event) → shapes_before (mark e) (shapes_of (e ∷ es)) ≡ shapes_of es
shapes_less (Asks a q w) es = refl
shapes_less (Loads s u) es = front_is (shapes_of es) s
shapes_less (Lists l) es = refl

pub lists_less : (e : Event) (es : List Event) → lists_before (mark e) (lists_of (e ∷ es)) ≡ lists_of es
lists_less (Asks a q w) es = refl
lists_less (Loads s u) es = refl
lists_less (Lists l) es = front_is (lists_of es) l

less_is : (limits : Limits) (e : Event) (es : List Event) → history_of limits (marks es) (shapes_before (mark e) (shapes_of (e ∷ es))) (lists_before (mark e) (lists_of (e ∷ es))) ≡ history_back limits es
less_is limits e es = λ i. history_of limits (marks es) (shapes_less e es i) (lists_less e es i)

-- the events of a history but its newest
without_more : (limits : Limits) (es back : List Event) → without_last (length es) (history_back limits (es ++ back)) ≡ history_back limits back
without_more limits [] back = refl
without_more limits (e ∷ es) back = ap (λ (h : History). without_last (length es) h) (less_is limits e (es ++ back)) ∙ without_more limits es back

pub without_later : (limits : Limits) (log rest : List Event) → without_last (length (reverse rest)) (history_at limits (log ++ rest)) ≡ history_at limits log
without_later limits log rest = ap (λ (es : List Event). without_last (length (reverse rest)) (history_back limits es)) (reverse-append log rest) ∙ without_more limits (reverse rest) (reverse log)

-- One event more

own_mark : (limits : Limits) (actor : ℕ) (log : List Event) (e : Event) → own_ask actor (mark e) (history_back limits (reverse log)) ≡ own_event limits actor log e
own_mark limits actor log (Asks a q w) = refl
own_mark limits actor log (Loads s u) = refl
own_mark limits actor log (Lists l) = refl

asked_back : (limits : Limits) (actor : ℕ) (e : Event) (es : List Event) → asks_of actor (history_back limits (e ∷ es)) ≡ asks_of actor (history_back limits es) ++ own_ask actor (mark e) (history_back limits es)
asked_back limits actor e es = ap (λ (h : History). asks_of actor h ++ own_ask actor (mark e) h) (less_is limits e es)

pub asks_grow : AsksGrow
asks_grow limits actor log e =
    ap (λ (es : List Event). asks_of actor (history_back limits es)) (reverse-append log (e ∷ []))
    ∙ (asked_back limits actor e (reverse log) ∙ ap (λ (t : Trace). asks_of actor (history_back limits (reverse log)) ++ t) (own_mark limits actor log e))

-- Several

-- of an actor's events, one that is another's is none, and so is a settle
abbrev Adds : ℕ → Event → List Event → Type 0
Adds actor e es = ((eqb (by e) actor ≡ false) ⊎ (settles e ≡ true)) × (but_settles (mine by actor es) ≡ [])

none_first : (actor : ℕ) (e : Event) (es : List Event) → but_settles (mine by actor (e ∷ es)) ≡ [] → Adds actor e es
none_first actor e es n = by_test (eqb (by e) actor) refl (settles e) refl n where
  by_test : (k : Bool) → eqb (by e) actor ≡ k → (s : Bool) → settles e ≡ s → but_settles (cond k (e ∷ mine by actor es) (mine by actor es)) ≡ [] → Adds actor e es
  by_test false is s settled m = (inl is, m)
  by_test true is true settled m = (inr settled, ap (λ (b : Bool). cond b (but_settles (mine by actor es)) (e ∷ but_settles (mine by actor es))) (sym settled) ∙ m)
  by_test true is false settled m = absurd (cc (ap (λ (b : Bool). cond b (but_settles (mine by actor es)) (e ∷ but_settles (mine by actor es))) (sym settled) ∙ m))

others_own : (limits : Limits) (actor : ℕ) (log : List Event) (e : Event) → eqb (by e) actor ≡ false → own_event limits actor log e ≡ []
others_own limits actor log (Asks a q w) n = ap (λ (k : Bool). cond k (ask_of q (out (history_at limits log) actor q)) []) n
others_own limits actor log (Loads s u) n = refl
others_own limits actor log (Lists l) n = refl

settle_own : (limits : Limits) (actor : ℕ) (log : List Event) (e : Event) → settles e ≡ true → own_event limits actor log e ≡ []
settle_own limits actor log (Asks a q w) n = by_test (eqb a actor) where
  by_test : (k : Bool) → cond k (ask_of q (out (history_at limits log) actor q)) [] ≡ []
  by_test true = none_asked q (out (history_at limits log) actor q) n
  by_test false = refl
settle_own limits actor log (Loads s u) n = refl
settle_own limits actor log (Lists l) n = refl

others_add : (limits : Limits) (actor : ℕ) (log rest : List Event) → but_settles (mine by actor rest) ≡ [] → asked_at limits actor (log ++ rest) ≡ asked_at limits actor log
others_add limits actor log [] n = ap (λ (l : List Event). asked_at limits actor l) (append-nil log)
others_add limits actor log (e ∷ rest) n =
    let m = none_first actor e rest n in
    ap (λ (l : List Event). asked_at limits actor l) (sym (append_assoc log (e ∷ []) rest))
    ∙ (others_add limits actor (log ++ e ∷ []) rest m.1
    ∙ (asks_grow limits actor log e ∙ (ap (λ (t : Trace). asked_at limits actor log ++ t) (⊎_elim (λ other. others_own limits actor log e other) (λ settle. settle_own limits actor log e settle) m.0) ∙ append-nil (asked_at limits actor log))))

none_more : {A : Type 0} (xs ys : List A) → xs ++ ys ≡ xs → ys ≡ []
none_more xs [] e = refl
none_more xs (y ∷ ys) e = absurd (omega (arith, ap length e, length-append xs (y ∷ ys)))

pub mine_rest : (actor : ℕ) (log later : List Event) (w : StartsWith later log) → mine by actor later ≡ mine by actor log → mine by actor w.0 ≡ []
mine_rest actor log later w e = none_more (mine by actor log) (mine by actor w.0) (sym (ap (λ (l : List Event). mine by actor l) w.1 ∙ mine-append by actor log w.0) ∙ e)

pub asks_stay : AsksStay
asks_stay limits actor log later w e =
    let both : but_settles (mine by actor later) ≡ but_settles (mine by actor log) ++ but_settles (mine by actor w.0) =
    ap (λ (l : List Event). but_settles (mine by actor l)) w.1 ∙ (ap but_settles (mine-append by actor log w.0) ∙ but_settles-append (mine by actor log) (mine by actor w.0)) in
    ap (λ (l : List Event). asked_at limits actor l) w.1 ∙ others_add limits actor log w.0 (none_more (but_settles (mine by actor log)) (but_settles (mine by actor w.0)) (sym both ∙ e))

-- what others add is none
pub others_stay : (limits : Limits) (actor : ℕ) (log later : List Event) → StartsWith later log → mine by actor later ≡ mine by actor log → asked_at limits actor later ≡ asked_at limits actor log
others_stay limits actor log later w e = asks_stay limits actor log later w (ap but_settles e)
