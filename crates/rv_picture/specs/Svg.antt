-- A timeline as SVG (own): a lane above the other, each a field whose scale is the numbers of entries.
use Rattle.std.specs.Prelude.{ℕ, ◌+◌, ◌-◌, ◌*◌, ◌/◌, ◌%◌, nat_lt, if◌then◌else◌, List, [], ◌∷◌, ◌++◌, length, codes, slice_get, Option, Some, None}
use Rattle.std.specs.Fmt.{decimal}
use Rattle.std.specs.List.{flat_map}
use Rattle.rv_shape.specs.Shape.{Shape}
use Rattle.rv_picture.specs.Bars.{in_frame, of_lane, within}
use Rattle.rv_picture.specs.Lanes.{lane_name, lanes}
use Rattle.rv_picture.specs.Titles.{title}
use Rattle.rv_picture.specs.declared.bar.Bar.{Bar}
use Rattle.rv_picture.specs.declared.bar.Frame.{Frame}
use Rattle.rv_picture.specs.declared.bar.Kind.{Kind}
use Rattle.rv_picture.specs.declared.bar.Kind.TheVariants.{Wait, Body, Delay, Refused}
use Rattle.rv_picture.specs.declared.bar.Moment.{Moment}
use Rattle.rv_picture.specs.declared.lane.Lane.{Lane}
use Rattle.rv_picture.specs.declared.svg.TheConstants.{STYLE}

-- Bars

abbrev pub class : Kind → List ℕ
class Wait = codes "wait"
class Body = codes "body"
class Delay = codes "delay"
class Refused = codes "refused"

-- where it stands in the field of its lane: refusals stand above the others
abbrev pub strip : Kind → List ℕ
strip Wait = codes "y='6' height='10'"
strip Body = codes "y='6' height='10'"
strip Delay = codes "y='6' height='10'"
strip Refused = codes "y='0' height='5'"

-- the number of an entry, 0 where there is none
abbrev pub number_in : Option Moment → ℕ
number_in None = 0
number_in (Some moment) = moment.number

-- the entry where a bar ends; of one that lasts the last entry that is shown
abbrev pub end_of : ℕ → Option ℕ → ℕ
end_of last None = last
end_of last (Some end) = end

-- how wide a bar is among so many entries: from the one that begins it to its end, and two of the 1,200 points at least
abbrev pub width_of : ℕ → ℕ → ℕ → ℕ
width_of count number end = if nat_lt (end - number) (count / 600 + 1) then count / 600 + 1 else end - number

-- a bar that begins at an entry and is so wide
abbrev pub rect_text : Kind → ℕ → ℕ → List ℕ → List ℕ
rect_text kind number width title =
    codes "<rect class='" ++ (class kind ++ (codes "' " ++ (strip kind ++ (codes " x='" ++ (decimal number ++ (codes "' width='"
    ++ (decimal width ++ (codes "'><title>" ++ (title ++ (codes "</title></rect>" ++ 10 ∷ []))))))))))

abbrev pub bar_text : List Shape → ℕ → ℕ → Bar → List ℕ
bar_text shapes count last bar =
    rect_text bar.kind bar.begun.number (width_of count bar.begun.number (end_of last bar.last)) (title shapes bar)

abbrev pub bars_text : List Shape → ℕ → ℕ → List Bar → List ℕ
bars_text shapes count last bars = flat_map (λ bar. bar_text shapes count last bar) bars

-- Lanes

-- the name of a lane, and its field, which begins at an entry and is so many wide
abbrev pub field_text : ℕ → ℕ → ℕ → List ℕ → List ℕ
field_text place first count name =
    codes "<text x='8' y='" ++ (decimal (place * 36 + 56) ++ (codes "'>" ++ (name ++ (codes "</text>" ++ 10 ∷ (codes "<svg x='8' y='"
    ++ (decimal (place * 36 + 60) ++ (codes "' width='1200' height='16' viewBox='" ++ (decimal first ++ (codes " 0 " ++ (decimal count
    ++ (codes " 16' preserveAspectRatio='none'>" ++ 10 ∷ [])))))))))))

abbrev pub first_number : List Moment → ℕ
first_number moments = number_in (slice_get moments 0)

abbrev pub last_number : List Moment → ℕ
last_number moments = number_in (slice_get moments (length moments - 1))

abbrev pub field_of : List Shape → List Moment → Lane → List ℕ
field_of shapes moments lane =
    field_text lane.place (first_number moments) (length moments) (lane_name shapes lane.actor lane.object)

-- what closes a field, or the picture
abbrev pub end_text : List ℕ
end_text = codes "</svg>" ++ 10 ∷ []

-- a lane with these bars
abbrev pub lane_text : List Shape → List Moment → List Bar → Lane → List ℕ
lane_text shapes moments bars lane =
    field_of shapes moments lane ++ (bars_text shapes (length moments) (last_number moments) bars ++ end_text)

abbrev pub lane_in : List Shape → List Moment → List Bar → Lane → List ℕ
lane_in shapes moments bars lane = lane_text shapes moments (of_lane lane.actor lane.object bars) lane

abbrev pub lanes_text : List Shape → List Moment → List Bar → List Lane → List ℕ
lanes_text shapes moments bars lanes = flat_map (λ lane. lane_in shapes moments bars lane) lanes

-- The scale

-- the number and the tick of an entry, if there is one
abbrev pub mark_text : List ℕ → Option Moment → List ℕ
mark_text x None = []
mark_text x (Some moment) =
    codes "<text class='scale' x='" ++ (x ++ (codes "' y='36'>entry " ++ (decimal moment.number ++ (codes ", tick "
    ++ (decimal moment.tick ++ (codes "</text>" ++ 10 ∷ []))))))

-- at each quarter of the width
abbrev pub axis : List Moment → List ℕ
axis moments =
    mark_text (codes "8") (slice_get moments 0)
    ++ (mark_text (codes "308") (slice_get moments (length moments / 4))
    ++ (mark_text (codes "608") (slice_get moments (length moments / 2))
    ++ mark_text (codes "908") (slice_get moments (length moments / 4 * 3 + length moments % 4 * 3 / 4))))

-- what stands above so many lanes
abbrev pub head : ℕ → List ℕ
head count =
    codes "<svg xmlns='http://www.w3.org/2000/svg' width='1216' height='" ++ (decimal (count * 36 + 60)
    ++ (codes "'>" ++ 10 ∷ (codes "<title>Timeline</title>" ++ 10 ∷ STYLE.now)))

-- All

-- these bars in these lanes over entries
abbrev pub svg_lanes : List Shape → List Moment → List Bar → List Lane → List ℕ
svg_lanes shapes moments bars lanes =
    head (length lanes) ++ (axis moments ++ (lanes_text shapes moments bars lanes ++ end_text))

abbrev pub svg_with : List Shape → List Moment → List Bar → List ℕ
svg_with shapes moments bars = svg_lanes shapes moments bars (lanes shapes bars)

abbrev pub svg_of : List Shape → List Moment → List Bar → List ℕ
svg_of shapes moments bars = svg_with shapes moments (within moments bars)

abbrev pub svg_text : Frame → List Shape → List Moment → List Bar → List ℕ
svg_text frame shapes moments bars = svg_of shapes (in_frame frame moments) bars
