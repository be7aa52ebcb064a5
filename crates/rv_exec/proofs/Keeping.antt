-- What holds of all traces of a run: it holds of none and of two one after another, so it holds of what statements ask, where it
-- holds of what they ask outside.
use Rattle.std.proofs.Common.{◌≡◌, [], ◌∷◌, ◌++◌, Bool, true, false, cond, refl, sym, ap, ◌∙◌, subst, Result, Ok, Err}
use Rattle.rv_code.specs.declared.expression.Callee.{Callee}
use Rattle.rv_exec.specs.declared.activation.Activation.{Activation}
use Rattle.rv_exec.specs.declared.end.Cause.{Cause}
use Rattle.rv_exec.specs.declared.end.Cause.TheVariants as cause
use Rattle.rv_exec.specs.declared.end.End.{End}
use Rattle.rv_exec.specs.declared.end.End.TheVariants as end
use Rattle.rv_exec.specs.Asking.{Trace, Asking, ended, asking, and_then, Along}
use Rattle.rv_exec.specs.Expressions.{on_value, fails}
use Rattle.rv_exec.specs.Statements.{abandons, go_on, again}
use Rattle.rv_exec.specs.World.{Run}

-- how what is asked ends: it goes on; it stops; or it stops and leaves its actor waiting, or in a body
pub data How : Type 0 where
  ongoing : How
  halted : How
  stuck : How

-- whether it stops
abbrev pub is_stop : How → Bool
is_stop ongoing = false
is_stop halted = true
is_stop stuck = true

abbrev pub how_by : Cause → How
how_by (cause.Stopped true) = halted
how_by (cause.Stopped false) = stuck
how_by (cause.Raised exception) = ongoing
how_by cause.Overrun = ongoing

abbrev pub how_result : {A : Type 0} → Result A Cause → How
how_result (Ok v) = ongoing
how_result (Err why) = how_by why

abbrev pub how_got : {A B : Type 0} → Result A Cause × B → How
how_got got = how_result got.0

abbrev pub how_end : End → How
how_end end.Next = ongoing
how_end end.Exit = ongoing
how_end (end.Return v) = ongoing
how_end (end.Abandoned why) = how_by why

abbrev pub how_run : End × Activation → How
how_run ran = how_end ran.0

-- what is kept of a trace, and of how its run ends, with what may stand behind a stop; all that is called is such
pub record Kept : Type 1 where
  pub such : Callee → Bool
  pub holds : Trace → How → Type 0
  pub behind : How → Trace → How → Type 0
  pub nothing : holds [] ongoing
  pub both : (first second : Trace) (how : How) → holds first ongoing → holds second how → holds (first ++ second) how
  pub stays : (k : How) (first second : Trace) (how : How) → is_stop k ≡ true → holds first k → behind k second how → holds (first ++ second) how
  pub at_once : (k : How) → behind k [] k

-- it holds of all that is asked
abbrev pub Sound : {A : Type 0} → Kept → (A → How) → Asking A → Type 0
Sound {A = A} kept how what = (trace : Trace) (a : A) → Along what trace a → kept.holds trace (how a)

-- it asks no more than may stand behind a stop
abbrev pub Silent : {A : Type 0} → Kept → How → (A → How) → Asking A → Type 0
Silent {A = A} kept k how what = (trace : Trace) (a : A) → Along what trace a → kept.behind k trace (how a)

-- what follows an end: behind a stop no more than that
abbrev pub Follows : {A : Type 0} → Kept → How → (A → How) → Asking A → Type 0
Follows kept ongoing how what = Sound kept how what
Follows kept halted how what = Silent kept halted how what
Follows kept stuck how what = Silent kept stuck how what

-- Traces

pub record Split {A B : Type 0} (what : Asking A) (go : A → Asking B) (trace : Trace) (b : B) : Type 0 where
  pub first : Trace
  pub middle : A
  pub second : Trace
  pub along : Along what first middle
  pub rest : Along (go middle) second b
  pub trace_is : trace ≡ first ++ second

pub split : {A B : Type 0} (what : Asking A) (go : A → Asking B) (trace : Trace) (b : B) → Along (and_then what go) trace b → Split what go trace b
split (ended a) go trace b h = record { first = []; middle = a; second = trace; along = refl; rest = h; trace_is = refl }
split (asking q next) go [] b h = absurd h
split (asking q next) go (pair ∷ more) b h =
    let s = split (next pair.1) go more b h.1 in
    record { first = pair ∷ s.first; middle = s.middle; second = s.second; along = (h.0, s.along); rest = s.rest; trace_is = ap (λ (l : Trace). pair ∷ l) s.trace_is }

-- an end asks nothing
pub ends_at_once : {A : Type 0} (a : A) (trace : Trace) (b : A) → Along (ended a) trace b → trace ≡ []
ends_at_once a [] b h = refl
ends_at_once a (pair ∷ more) b h = absurd h

-- and is that end
pub ends_with : {A : Type 0} (a : A) (trace : Trace) (b : A) → Along (ended a) trace b → a ≡ b
ends_with a [] b h = h
ends_with a (pair ∷ more) b h = absurd h

-- Ends

pub sound_end : (kept : Kept) {A : Type 0} (how : A → How) (a : A) → how a ≡ ongoing → Sound kept how (ended a)
sound_end kept how a e [] b h = subst (λ (k : How). kept.holds [] k) (sym e ∙ ap how h) kept.nothing
sound_end kept how a e (pair ∷ more) b h = absurd h

pub silent_end : (kept : Kept) {A : Type 0} (k : How) (how : A → How) (a : A) → how a ≡ k → Silent kept k how (ended a)
silent_end kept k how a e [] b h = subst (λ (x : How). kept.behind k [] x) (sym e ∙ ap how h) (kept.at_once k)
silent_end kept k how a e (pair ∷ more) b h = absurd h

pub follows_end : (kept : Kept) {A : Type 0} (k : How) (how : A → How) (a : A) → how a ≡ k → Follows kept k how (ended a)
follows_end kept ongoing how a e = sound_end kept how a e
follows_end kept halted how a e = silent_end kept halted how a e
follows_end kept stuck how a e = silent_end kept stuck how a e

-- an end that is no stop, and what follows it
pub sound_where : (kept : Kept) {A : Type 0} (k : How) (how : A → How) (what : Asking A) → k ≡ ongoing → Follows kept k how what → Sound kept how what
sound_where kept ongoing how what e f = f
sound_where kept halted how what e f = absurd (cc e)
sound_where kept stuck how what e f = absurd (cc e)

pub sound_if : (kept : Kept) {A : Type 0} (k : Bool) (how : A → How) (one other : Asking A) → Sound kept how one → Sound kept how other → Sound kept how (cond k one other)
sound_if kept true how one other f g = f
sound_if kept false how one other f g = g

-- One run and then another

both_silent : (kept : Kept) {A B : Type 0} (k : How) (one : A → How) (two : B → How) (first second : Trace) (what : Asking A) (next : Asking B) (a : A) (b : B) → is_stop k ≡ true → one a ≡ k → Sound kept one what → Silent kept k two next → Along what first a → Along next second b → kept.holds (first ++ second) (two b)
both_silent kept k one two first second what next a b s e f g h i =
    kept.stays k first second (two b) s (subst (λ (x : How). kept.holds first x) e (f first a h)) (g second b i)

both_if : (kept : Kept) {A B : Type 0} (k : How) (one : A → How) (two : B → How) (first second : Trace) (what : Asking A) (next : Asking B) (a : A) (b : B) → one a ≡ k → Sound kept one what → Follows kept k two next → Along what first a → Along next second b → kept.holds (first ++ second) (two b)
both_if kept ongoing one two first second what next a b e f g h i =
    kept.both first second (two b) (subst (λ (k : How). kept.holds first k) e (f first a h)) (g second b i)
both_if kept halted one two first second what next a b e f g h i = both_silent kept halted one two first second what next a b refl e f g h i
both_if kept stuck one two first second what next a b e f g h i = both_silent kept stuck one two first second what next a b refl e f g h i

pub sound_then : (kept : Kept) {A B : Type 0} (one : A → How) (two : B → How) (what : Asking A) (go : A → Asking B) → Sound kept one what → ((a : A) → Follows kept (one a) two (go a)) → Sound kept two (and_then what go)
sound_then kept one two what go f g trace b h =
    let p = split what go trace b h in
    subst (λ (t : Trace). kept.holds t (two b)) (sym p.trace_is) (both_if kept (one p.middle) one two p.first p.second what (go p.middle) p.middle b refl f (g p.middle) p.along p.rest)

-- a value, and what follows it
pub follows_value : (kept : Kept) {A B : Type 0} (go : A → Activation → Asking (Result B Cause × Activation)) → ((v : A) (a : Activation) → Sound kept how_got (go v a)) → (got : Result A Cause × Activation) → Follows kept (how_got got) how_got (on_value fails go got)
follows_value kept go f (Ok v, a) = f v a
follows_value kept go f (Err why, a) = follows_end kept (how_by why) how_got (Err why, a) refl

pub sound_value : (kept : Kept) {A B : Type 0} (what : Asking (Result A Cause × Activation)) (go : A → Activation → Asking (Result B Cause × Activation)) → Sound kept how_got what → ((v : A) (a : Activation) → Sound kept how_got (go v a)) → Sound kept how_got (and_then what (on_value fails go))
sound_value kept what go f g = sound_then kept how_got how_got what (on_value fails go) f (follows_value kept go g)

follows_in_run : (kept : Kept) {A : Type 0} (go : A → Activation → Run) → ((v : A) (a : Activation) → Sound kept how_run (go v a)) → (got : Result A Cause × Activation) → Follows kept (how_got got) how_run (on_value abandons go got)
follows_in_run kept go f (Ok v, a) = f v a
follows_in_run kept go f (Err why, a) = follows_end kept (how_by why) how_run (end.Abandoned why, a) refl

pub sound_in_run : (kept : Kept) {A : Type 0} (what : Asking (Result A Cause × Activation)) (go : A → Activation → Run) → Sound kept how_got what → ((v : A) (a : Activation) → Sound kept how_run (go v a)) → Sound kept how_run (and_then what (on_value abandons go))
sound_in_run kept what go f g = sound_then kept how_got how_run what (on_value abandons go) f (follows_in_run kept go g)

-- a statement, and what follows it
pub follows_run : (kept : Kept) (go : Activation → Run) → ((a : Activation) → Sound kept how_run (go a)) → (ran : End × Activation) → Follows kept (how_run ran) how_run (go_on go ran)
follows_run kept go f (end.Next, a) = f a
follows_run kept go f (end.Exit, a) = sound_end kept how_run (end.Exit, a) refl
follows_run kept go f (end.Return v, a) = sound_end kept how_run (end.Return v, a) refl
follows_run kept go f (end.Abandoned why, a) = follows_end kept (how_by why) how_run (end.Abandoned why, a) refl

pub sound_run : (kept : Kept) (what : Run) (go : Activation → Run) → Sound kept how_run what → ((a : Activation) → Sound kept how_run (go a)) → Sound kept how_run (and_then what (go_on go))
sound_run kept what go f g = sound_then kept how_run how_run what (go_on go) f (follows_run kept go g)

-- a turn, and the next
follows_turn : (kept : Kept) (go : Activation → Run) → ((a : Activation) → Sound kept how_run (go a)) → (ran : End × Activation) → Follows kept (how_run ran) how_run (again go ran)
follows_turn kept go f (end.Next, a) = f a
follows_turn kept go f (end.Exit, a) = sound_end kept how_run (end.Next, a) refl
follows_turn kept go f (end.Return v, a) = sound_end kept how_run (end.Return v, a) refl
follows_turn kept go f (end.Abandoned why, a) = follows_end kept (how_by why) how_run (end.Abandoned why, a) refl

pub sound_turn : (kept : Kept) (what : Run) (go : Activation → Run) → Sound kept how_run what → ((a : Activation) → Sound kept how_run (go a)) → Sound kept how_run (and_then what (again go))
sound_turn kept what go f g = sound_then kept how_run how_run what (again go) f (follows_turn kept go g)
