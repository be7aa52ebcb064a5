-- A timeline as rows of letters (own).
use Rattle.std.specs.Prelude.{ℕ, zero, suc, ◌-◌, ◌*◌, ◌/◌, ◌%◌, ◌==◌, ◌&&◌, Bool, true, false, if◌then◌else◌, List, [], ◌∷◌, ◌++◌, length, codes, drop, take, slice_get, Option, Some, None}
use Rattle.std.specs.Fmt.{decimal}
use Rattle.std.specs.List.{flat_map, list_any}
use Rattle.rv_shape.specs.Shape.{Shape}
use Rattle.rv_picture.specs.Bars.{covers, in_frame, of_lane, within}
use Rattle.rv_picture.specs.Lanes.{lane_name, lanes}
use Rattle.rv_picture.specs.declared.bar.Bar.{Bar}
use Rattle.rv_picture.specs.declared.bar.Frame.{Frame}
use Rattle.rv_picture.specs.declared.bar.Kind.{Kind}
use Rattle.rv_picture.specs.declared.bar.Kind.TheVariants as Kinds
use Rattle.rv_picture.specs.declared.bar.Moment.{Moment}
use Rattle.rv_picture.specs.declared.lane.Lane.{Lane}
use Rattle.rv_picture.specs.declared.letters.Mark.{Mark}
use Rattle.rv_picture.specs.declared.letters.Mark.TheVariants.{Refused, Begins, Ends, Lasts, Waits, Delayed}

-- Letters

-- an entry is the last one, if there is one
abbrev pub is_last : Option ℕ → ℕ → Bool
is_last None entry = false
is_last (Some last) entry = last == entry

-- a mark is of a kind of bars: a body begins, ends and lasts
abbrev pub is_of_kind : Mark → Kind → Bool
is_of_kind Refused Kinds.Refused = true
is_of_kind Begins Kinds.Body = true
is_of_kind Ends Kinds.Body = true
is_of_kind Lasts Kinds.Body = true
is_of_kind Waits Kinds.Wait = true
is_of_kind Delayed Kinds.Delay = true
is_of_kind mark kind = false

-- a bar that covers an entry has a mark there
abbrev pub is_there : Mark → ℕ → Bar → Bool
is_there Begins entry bar = bar.begun.number == entry
is_there Ends entry bar = is_last bar.last entry
is_there mark entry bar = true

abbrev pub is_at : Mark → ℕ → Bar → Bool
is_at mark entry bar = is_of_kind mark bar.kind && covers entry bar && is_there mark entry bar

-- one of these bars has
abbrev pub any_at : Mark → List Bar → ℕ → Bool
any_at mark bars entry = list_any (λ bar. is_at mark entry bar) bars

-- the letter of bars at an entry: that of the first of these marks that one of them has
abbrev pub letter_at : List Bar → ℕ → List ℕ
letter_at bars entry =
    if any_at Refused bars entry then codes "x"
    else if any_at Begins bars entry then codes "["
    else if any_at Ends bars entry then codes "]"
    else if any_at Lasts bars entry then codes "="
    else if any_at Waits bars entry then codes "w"
    else if any_at Delayed bars entry then codes "d"
    else codes " "

-- Rows

abbrev pub cells : List Bar → List Moment → List ℕ
cells bars block = flat_map (λ moment. letter_at bars moment.number) block

-- the row of a lane that has these bars
abbrev pub row_text : List Bar → List Moment → List ℕ → List ℕ
row_text bars block name = codes "|" ++ (cells bars block ++ (codes "| " ++ (name ++ 10 ∷ [])))

-- the same, if it has any
abbrev pub row_if : List Shape → List Bar → List Moment → Lane → List ℕ
row_if shapes [] block lane = []
row_if shapes (bar ∷ bars) block lane = row_text (bar ∷ bars) block (lane_name shapes lane.actor lane.object)

abbrev pub row_in : List Shape → List Bar → List Moment → Lane → List ℕ
row_in shapes bars block lane = row_if shapes (of_lane lane.actor lane.object bars) block lane

abbrev pub rows_text : List Shape → List Bar → List Moment → List Lane → List ℕ
rows_text shapes bars block lanes = flat_map (λ lane. row_in shapes bars block lane) lanes

-- Blocks

-- from which entry and tick to which
abbrev pub head_text : Moment → Moment → List ℕ
head_text first last =
    codes "entries " ++ (decimal first.number ++ (codes " to " ++ (decimal last.number
    ++ (codes ", ticks " ++ (decimal first.tick ++ (codes " to " ++ (decimal last.tick ++ 10 ∷ [])))))))

-- the last digits of the numbers of entries
abbrev pub ruler : List Moment → List ℕ
ruler block = flat_map (λ moment. decimal (moment.number % 10)) block

-- a block of entries, of which these are the first and the last, if it has any
abbrev pub block_between : Option Moment → Option Moment → List Moment → List ℕ → List ℕ
block_between None last block rows = []
block_between (Some first) None block rows = []
block_between (Some first) (Some last) block rows =
    head_text first last ++ (codes "|" ++ (ruler block ++ (codes "|" ++ 10 ∷ rows)))

abbrev pub block_text : List Shape → List Lane → List Bar → List Moment → List ℕ
block_text shapes lanes bars block =
    block_between (slice_get block 0) (slice_get block (length block - 1)) block (rows_text shapes (within block bars) block lanes)

-- the entries of the block of a number, from 0: 60 of them stand in a row
abbrev pub chunk : ℕ → List Moment → List Moment
chunk number moments = take 60 (drop (number * 60) moments)

-- the blocks below a number
abbrev pub blocks_text : List Shape → List Lane → List Bar → List Moment → ℕ → List ℕ
blocks_text shapes lanes bars moments zero = []
blocks_text shapes lanes bars moments (suc number) =
    blocks_text shapes lanes bars moments number ++ block_text shapes lanes bars (chunk number moments)

-- All

-- what the letters stand for
abbrev pub key : List ℕ
key = codes "[ begins a body, = is in it, ] ends it; w waits; d is delayed; x is refused" ++ 10 ∷ []

-- these bars in these lanes, in the blocks of entries
abbrev pub letters_in : List Shape → List Lane → List Bar → List Moment → List ℕ
letters_in shapes lanes bars moments = key ++ blocks_text shapes lanes bars moments (suc (length moments / 60))

-- in their lanes
abbrev pub letters_with : List Shape → List Moment → List Bar → List ℕ
letters_with shapes moments bars = letters_in shapes (lanes shapes bars) bars moments

abbrev pub letters_of : List Shape → List Moment → List Bar → List ℕ
letters_of shapes moments bars = letters_with shapes moments (within moments bars)

abbrev pub letters_text : Frame → List Shape → List Moment → List Bar → List ℕ
letters_text frame shapes moments bars = letters_of shapes (in_frame frame moments) bars
