-- Runs stop only by an answer.
use Rattle.std.proofs.Common.{◌≡◌, inl, inr, [], ◌∷◌, ◌++◌, Bool, true, false, Result, Ok, Err}
use Rattle.rv_code.specs.declared.expression.Callee.{Callee}
use Rattle.rv_event.specs.declared.entry.Answer.{Answer}
use Rattle.rv_event.specs.declared.entry.Request.{Request}
use Rattle.rv_exec.specs.declared.end.Cause.{Cause}
use Rattle.rv_exec.specs.declared.end.Cause.TheVariants as cause
use Rattle.rv_exec.specs.Asking.{Trace, ended}
use Rattle.rv_exec.specs.Stops.{StopsWaiting, StopsIn, Unwinds}
use Rattle.rv_exec.proofs.Keeping.{How, is_stop, Kept, Silent}

-- Which ends are stops

abbrev pub by_stop : Cause → Bool
by_stop (cause.Stopped is_idle) = true
by_stop (cause.Raised exception) = false
by_stop cause.Overrun = false

abbrev pub stopped_result : {A : Type 0} → Result A Cause → Bool
stopped_result (Ok v) = false
stopped_result (Err why) = by_stop why

-- Traces

unwinds_both : (p q : Trace) → Unwinds p → Unwinds q → Unwinds (p ++ q)
unwinds_both [] q u v = v
unwinds_both (pair ∷ p) q u v = (u.0, unwinds_both p q u.1 v)

waits_before : (such : Callee → Bool) (first : Request × Answer) (p q : Trace) → StopsWaiting such first p → Unwinds q → StopsWaiting such first (p ++ q)
waits_before such first [] q s u = absurd s
waits_before such first (pair ∷ p) q s u = (s.0, unwinds_both p q s.1 u)

pub stops_before : (such : Callee → Bool) (p q : Trace) → StopsIn such p → Unwinds q → StopsIn such (p ++ q)
stops_before such [] q s u = absurd s
stops_before such (pair ∷ p) q (inl s) u = inl (s.0, unwinds_both p q s.1 u)
stops_before such (pair ∷ p) q (inr (inl s)) u = inr (inl (waits_before such pair p q s u))
stops_before such (pair ∷ p) q (inr (inr s)) u = inr (inr (stops_before such p q s u))

pub stops_behind : (such : Callee → Bool) (p q : Trace) → StopsIn such q → StopsIn such (p ++ q)
stops_behind such [] q s = s
stops_behind such (pair ∷ p) q s = inr (inr (stops_behind such p q s))

pub no_stop : {X : Type 0} → false ≡ true → X
no_stop e = absurd (cc e)

-- it stops only by an answer, and behind a stop are ends by stopped alone
abbrev pub stopping : (Callee → Bool) → Kept
stopping such = record {
  such = such;
  holds = λ trace how. is_stop how ≡ true → StopsIn such trace;
  behind = λ k trace how. Unwinds trace;
  nothing = λ s. no_stop s;
  both = λ first second how f g s. stops_behind such first second (g s);
  stays = λ k first second how e f g s. stops_before such first second (f e) g;
  at_once = λ k. tt;
}

-- an end asks nothing, whatever it is
pub quiet_end : (such : Callee → Bool) {A : Type 0} (k : How) (how : A → How) (a : A) → Silent (stopping such) k how (ended a)
quiet_end such k how a [] b h = tt
quiet_end such k how a (pair ∷ more) b h = absurd h
