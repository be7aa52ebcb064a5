-- What contracts see of a port, and of one that is done. (own)
use Rattle.std.specs.Prelude.{ℕ, Bool, List, Option}
use Rattle.atomic_table.specs.Seated.{TableId}
use Rattle.rv_event.specs.declared.entry.Request.{Request}
use Rattle.rv_history.specs.declared.limits.Limits.{Limits}
use Rattle.rv_behind.specs.declared.event.Event.{Event}
use Rattle.rv_port.specs.declared.reached.Reached.{Reached}
use Rattle.rv_port.specs.Traces.{Passing}
use Rattle.rv_port.specs.Calls.{Performed}
use Rattle.rv_port.specs.Ends.{ExplainedUnless}

-- All that its pass knows, and a mark. (own)
pub record Porting : Type 0 where
  -- which turn it is of
  pub turn : TableId
  -- whose port it is
  pub actor : ℕ
  -- how many acts it may still make
  pub left : ℕ
  -- false: it isn't the control's
  pub first : Bool
  -- Seen: the longest history that it has learnt
  pub seen : List Event
  -- Own: the events that it made, in order
  pub own : List Event
  -- none: the events that its actor had before
  pub base : List Event
  -- none: the actors that it gave a port
  pub given : List ℕ
  -- what no act changes
  pub about : Option Limits
  -- the mark: a body was left alone, since there were too many holders of the bodies, or no memory for their run
  pub refused : Bool

-- a port of a pass, with the mark (own)
abbrev pub porting : Passing → Bool → Porting
porting p mark = record {
  turn = p.turn;
  actor = p.actor;
  left = p.left;
  first = p.first;
  seen = p.seen;
  own = p.own;
  base = p.base;
  given = p.given;
  about = p.about;
  refused = mark;
}

-- what its pass knows (own)
abbrev pub pass_of : Porting → Passing
pass_of p = record {
  turn = p.turn;
  actor = p.actor;
  left = p.left;
  first = p.first;
  seen = p.seen;
  own = p.own;
  base = p.base;
  given = p.given;
  about = p.about;
}

-- one performance of a request by a port, with its mark (own)
abbrev pub PerformedBy : Porting → Request → Reached → Porting → Type 0
PerformedBy p q reached after = Performed (pass_of p) p.refused q reached (pass_of after) after.refused

-- each end of the port's actor in what it has seen is what its text means, on what the actor asked between its start and its end;
-- unless bodies were refused to the port
abbrev pub IsExplained : Porting → Type 0
IsExplained p = ExplainedUnless p.refused (pass_of p)
