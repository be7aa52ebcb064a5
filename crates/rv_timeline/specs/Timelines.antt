-- What a timeline shows of a history (own): waits in queues (9.5.3) and on suspension objects (D.10), bodies (9.5.1) and delays (9.6),
-- each from the entry that begins it to the one that ends it, and refusals.
use Rattle.std.specs.Prelude.{ℕ, suc, ◌-◌, List, [], ◌∷◌, ◌++◌, length, Option, Some, None}
use Rattle.rv_shape.specs.Catalogue.{handler}
use Rattle.rv_shape.specs.Shape.{Shape}
use Rattle.rv_event.specs.Past as past
use Rattle.rv_event.specs.declared.entry.Body.{Body}
use Rattle.rv_event.specs.declared.entry.Entry.{Entry}
use Rattle.rv_event.specs.declared.entry.Entry.TheVariants.{Asked}
use Rattle.rv_event.specs.declared.entry.Recorded.TheVariants.{Refused}
use Rattle.rv_event.specs.declared.entry.Request.TheVariants.{Call, Fire, Resume}
use Rattle.rv_history.specs.History.{History}
use Rattle.rv_history.specs.Journal.{shapes_before}
use Rattle.rv_refused.specs.Filters.{FilterText}
use Rattle.rv_lasting.specs.declared.track.Begun.{Begun}
use Rattle.rv_waits.specs.Lasting.{Waits, Bodies, Delays, begun_at, end_of, if_taken, lasting}
use Rattle.rv_picture.specs.Letters.{letters_text}
use Rattle.rv_picture.specs.Svg.{svg_text}
use Rattle.rv_picture.specs.declared.bar.Bar.{Bar}
use Rattle.rv_picture.specs.declared.bar.Frame.{Frame}
use Rattle.rv_picture.specs.declared.bar.Kind.{Kind}
use Rattle.rv_picture.specs.declared.bar.Kind.TheVariants as Kinds
use Rattle.rv_picture.specs.declared.bar.Moment.{Moment}
use Rattle.rv_timeline.specs.declared.timeline.Form.{Form}
use Rattle.rv_timeline.specs.declared.timeline.Form.TheVariants.{Letters, Svg}
use Rattle.rv_timeline.specs.declared.timeline.Wish.{Wish}

-- Refusals

-- the call that an entry behind these was refused, if it was: of a fired line that of its handler, of a resume its queued call; any
-- other request is of no object
abbrev pub refused_by : List Shape → List Entry → Entry → Option Body
refused_by shapes before (Asked actor (Call object operation values) (Refused rule line version)) =
    Some (record { actor = actor; object = object; operation = operation })
refused_by shapes before (Asked actor Fire (Refused rule line version)) = past.fired actor (handler shapes (actor - 1))
refused_by shapes before (Asked actor Resume (Refused rule line version)) = past.last_queued actor before
refused_by shapes before (Asked actor request (Refused rule line version)) =
    Some (record { actor = actor; object = 0; operation = 0 })
refused_by shapes before entry = None

-- Bars

-- the bar of what began, if something did, up to an entry, if by one, and a tick
abbrev pub bar_if : Kind → Option Begun → Option ℕ → ℕ → List Bar
bar_if kind None last tick = []
bar_if kind (Some it) last tick = record { kind = kind; begun = it; last = last; to = tick } ∷ []

-- the bar of what a filter takes, up to the entry that comes behind these
abbrev pub bar_at : Kind → FilterText → List Shape → List Entry → Option Begun → List Bar
bar_at kind filter shapes before it =
    bar_if kind (if_taken filter shapes it) (Some (suc (length before))) (past.clock before)

-- the bars of what an entry behind these ends, and of what it was refused
abbrev pub bars_at : FilterText → List Shape → List Entry → Entry → List Bar
bars_at filter shapes before entry =
    bar_at Kinds.Wait filter shapes before (end_of Waits shapes before entry)
    ++ (bar_at Kinds.Body filter shapes before (end_of Bodies shapes before entry)
    ++ (bar_at Kinds.Delay filter shapes before (end_of Delays shapes before entry)
    ++ bar_at Kinds.Refused filter shapes before (begun_at before (refused_by shapes before entry))))

-- of all entries, in order
abbrev pub bars_in : FilterText → List Shape → List Entry → List Bar
bars_in filter shapes [] = []
bars_in filter shapes (entry ∷ before) =
    bars_in filter (shapes_before entry shapes) before ++ bars_at filter (shapes_before entry shapes) before entry

-- the bar of what is under way at a tick, where a filter takes it
abbrev pub lasting_bar : Kind → FilterText → List Shape → ℕ → Begun → List Bar
lasting_bar kind filter shapes tick it = bar_if kind (if_taken filter shapes (Some it)) None tick

-- the same, the oldest first, of these, which come the newest first
abbrev pub lasting_bars : Kind → FilterText → List Shape → ℕ → List Begun → List Bar
lasting_bars kind filter shapes tick [] = []
lasting_bars kind filter shapes tick (it ∷ begun) =
    lasting_bars kind filter shapes tick begun ++ lasting_bar kind filter shapes tick it

-- the bars of a history: of what ended and was refused, and of what is under way behind it
abbrev pub bars_of : FilterText → History → List Bar
bars_of filter h =
    bars_in filter h.shapes h.past
    ++ (lasting_bars Kinds.Wait filter h.shapes (past.clock h.past) (lasting Waits h.shapes h.past)
    ++ (lasting_bars Kinds.Body filter h.shapes (past.clock h.past) (lasting Bodies h.shapes h.past)
    ++ lasting_bars Kinds.Delay filter h.shapes (past.clock h.past) (lasting Delays h.shapes h.past)))

-- The scale

-- the numbers of entries, with the clock before each
abbrev pub moments_in : List Entry → List Moment
moments_in [] = []
moments_in (entry ∷ before) = moments_in before ++ record { number = suc (length before); tick = past.clock before } ∷ []

-- Timelines

abbrev pub drawn_text : Form → Frame → List Shape → List Moment → List Bar → List ℕ
drawn_text Letters frame shapes moments bars = letters_text frame shapes moments bars
drawn_text Svg frame shapes moments bars = svg_text frame shapes moments bars

-- the timeline of a history
abbrev pub timeline_text : Wish → History → List ℕ
timeline_text wish h = drawn_text wish.form wish.frame h.shapes (moments_in h.past) (bars_of wish.filter h)
