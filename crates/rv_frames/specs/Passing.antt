-- What the frame on top doesn't take comes to the frame below (own).
use Rattle.std.specs.Prelude.{◌≡◌, Bool, true, false, List, ◌∷◌}
use Rattle.rv_code.specs.Bodies.{UnitBodies}
use Rattle.rv_exec.specs.declared.setting.Setting.{Setting}
use Rattle.rv_frames.specs.Frames.{Frame, Now, prefixing, linking, operating, bounding, arguing, passing, giving, assigning, branching, selecting, testing, turning, lowering, raising, counting, leaving, returning, copying, sequencing, declaring, opening, handling, restoring, closing, resuming, answering, performing, completing, exiting, quitting, valued, listed, done, closes, reaches, outside, exited, quitted, comes, meant}

-- what comes, and what frames take, by its kind
pub data Kind : Type 0 where
  one_value : Kind
  all_values : Kind
  an_end : Kind
  a_body : Kind
  a_request : Kind
  a_call : Kind
  over : Kind
  nothing : Kind

abbrev pub comes_as : Now → Kind
comes_as (valued v a) = one_value
comes_as (listed outcome a) = all_values
comes_as (done e a) = an_end
comes_as (closes outcome components steps) = a_body
comes_as (reaches what) = a_request
comes_as (outside outcome) = a_call
comes_as (exited e components) = over
comes_as (quitted e) = over

abbrev pub takes : Frame → Kind
takes (prefixing op) = one_value
takes (linking ls) = one_value
takes (operating op v ls) = one_value
takes (bounding range) = one_value
takes (arguing vs es) = one_value
takes (passing callee) = all_values
takes giving = all_values
takes (assigning target) = one_value
takes (branching ss bs otherwise) = one_value
takes (selecting more) = one_value
takes (testing n e ss) = one_value
takes (turning n e ss) = an_end
takes (lowering slot is_reverse range e ss) = one_value
takes (raising slot is_reverse range v ss) = one_value
takes (counting n is_reverse low high slot ss) = an_end
takes leaving = one_value
takes returning = one_value
takes (copying targets) = all_values
takes (sequencing ss) = an_end
takes (declaring target more) = one_value
takes (opening ss hs) = an_end
takes (handling hs) = an_end
takes (restoring exception) = nothing
takes (closing body) = an_end
takes (resuming t a) = a_body
takes (answering a) = a_call
takes (performing held vs) = a_request
takes (completing is_function t) = a_body
takes exiting = a_body
takes (quitting body) = an_end

-- the setting behind a frame
abbrev pub setting_below : Frame → Setting → Setting
setting_below (restoring exception) s = record s { handling = exception }
setting_below (resuming t a) s = t
setting_below (completing is_function t) s = t
setting_below other s = s

abbrev pub is_kind : Kind → Kind → Bool
is_kind one_value one_value = true
is_kind all_values all_values = true
is_kind an_end an_end = true
is_kind a_body a_body = true
is_kind a_request a_request = true
is_kind a_call a_call = true
is_kind one other = false

-- what a frame doesn't take passes it
abbrev pub OthersPass : Type 0
OthersPass =
    (bodies : UnitBodies) (f : Frame) (fs : List Frame) (s : Setting) (now : Now)
    → is_kind (takes f) (comes_as now) ≡ false
    → meant bodies (comes now) (f ∷ fs) s ≡ meant bodies (comes now) fs (setting_below f s)
