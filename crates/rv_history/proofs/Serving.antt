-- What an end and a settle have in common: both serve the queue of an object, and may leave it unsettled.
use Rattle.std.proofs.Common.{◌≡◌, ℕ, ◌+◌, ◌≤◌, List, [], ◌∷◌, length, Some, None, Option, Bool, true, false, cond, arith, ap, sym, ◌∙◌, refl}
use Rattle.std.specs.Prelude.{slice_get, ◌==◌, ◌||◌, if◌then◌else◌}
use Rattle.std.specs.List.{filter, list_any}
use Rattle.rv_shape.specs.Shape.{Shape}
use Rattle.rv_event.specs.Past.{begun, first_by, handed, last_queued, leaves_some, left_by, or_settling, queue, under_way, unsettled, without}
use Rattle.rv_event.specs.declared.entry.Body.{Body}
use Rattle.rv_event.specs.declared.entry.Entry.{Entry}
use Rattle.rv_event.specs.declared.entry.Entry.TheVariants.{Asked}
use Rattle.rv_event.specs.declared.entry.Mode.{Mode}
use Rattle.rv_event.specs.declared.entry.Next.{Next}
use Rattle.rv_event.specs.declared.entry.Next.TheVariants.{Nothing, HandedTo, Dropped}
use Rattle.rv_event.specs.declared.entry.Recorded.TheVariants.{Done}
use Rattle.rv_event.specs.declared.entry.Request.{Request}
use Rattle.rv_event.specs.declared.entry.Request.TheVariants.{Complete, Settle}
use Rattle.rv_event.proofs.Matching.{by}
use Rattle.rv_history.specs.HandOver.{served, settling_behind}
use Rattle.rv_history.specs.Orderly.{is_on}
use Rattle.rv_history.specs.Settling.{is_any}
use Rattle.rv_history.proofs.Stances.{first_actor, itself, some_is}

-- the bodies that left their objects unsettled, without the one whose object is settled
abbrev pub other_left : List Shape → ℕ → List Entry → Request → List Body
other_left shapes a past Settle = without a (unsettled shapes past)
other_left shapes a past r = unsettled shapes past

pub left_then : (shapes : List Shape) (a : ℕ) (past : List Entry) (r : Request) (next : Next) →
    unsettled shapes (Asked a r (Done next) ∷ past) ≡ begun (left_by (Asked a r (Done next) ∷ past) next (served shapes a past r)) (other_left shapes a past r)
left_then shapes a past (Complete vs x) next = refl
left_then shapes a past r next = refl

-- the actor's own body is served
pub served_actor : (shapes : List Shape) (a : ℕ) (past : List Entry) (r : Request) (b : Body) → served shapes a past r ≡ Some b → b.actor ≡ a
served_actor shapes a past (Complete vs x) b e = first_actor a b (under_way shapes past) e
served_actor shapes a past Settle b e = first_actor a b (unsettled shapes past) e
served_actor shapes a past r b e = absurd (cc)

-- only a drop leaves an object unsettled
pub left_nothing : (past : List Entry) (q : Option Body) → left_by past Nothing q ≡ None
left_nothing past None = refl
left_nothing past (Some b) = refl

pub left_handed : (past : List Entry) (n : ℕ) (q : Option Body) → left_by past (HandedTo n) q ≡ None
left_handed past n None = refl
left_handed past n (Some b) = refl

-- and it leaves no other one so
pub left_elsewhere : (past : List Entry) (next : Next) (q : Option Body) (b : Body) (o : ℕ) (bs : List Body) → q ≡ Some b → (b.object == o) ≡ false → list_any (is_on o) (begun (left_by past next q) bs) ≡ list_any (is_on o) bs
left_elsewhere past next q b o bs is away = ap (λ p. list_any (is_on o) (begun (left_by past next p) bs)) is ∙ by_test (leaves_some next (queue b.object past))
  where
    by_test : (t : Bool) → list_any (is_on o) (begun (if t then Some b else None) bs) ≡ list_any (is_on o) bs
    by_test true = ap (λ t. t || list_any (is_on o) bs) away
    by_test false = refl

-- where others are behind
pub drop_leaves : (past : List Entry) (n line : ℕ) (q : Option Body) (b : Body) (behind : List Body) → q ≡ Some b → queue b.object past ≡ behind → left_by past (Dropped n line) q ≡ (if is_any behind then Some b else None)
drop_leaves past n line q b behind is wait =
    ap (left_by past (Dropped n line)) is ∙ ap (λ calls. if leaves_some (Dropped n line) calls then Some b else None) wait ∙ by_behind behind
  where
    by_behind : (calls : List Body) → (if leaves_some (Dropped n line) calls then Some b else None) ≡ (if is_any calls then Some b else None)
    by_behind [] = refl
    by_behind (c ∷ cs) = refl

pub left_waits : (past : List Entry) (next : Next) (q : Option Body) (b : Body) → left_by past next q ≡ Some b → is_any (queue b.object past) ≡ true
left_waits past next None b e = absurd (cc)
left_waits past next (Some c) b e = by_next next (queue c.object past) refl e
  where
    by_test : (next : Next) (calls : List Body) → queue c.object past ≡ calls → (t : Bool) → is_any calls ≡ true → (if t then Some c else None) ≡ Some b → is_any (queue b.object past) ≡ true
    by_test next calls is true some f =
        let same : c ≡ b = some_is c b f in
        ap (λ (d : Body). is_any (queue d.object past)) (sym same) ∙ ap is_any is ∙ some
    by_test next calls is false some f = absurd (cc)

    by_next : (next : Next) (calls : List Body) → queue c.object past ≡ calls → (if leaves_some next calls then Some c else None) ≡ Some b → is_any (queue b.object past) ≡ true
    by_next Nothing calls is f = absurd (cc)
    by_next (HandedTo n) calls is f = absurd (cc)
    by_next (Dropped n line) [] is f = absurd (cc)
    by_next (Dropped n line) (d ∷ ds) is f = by_test (Dropped n line) (d ∷ ds) is true refl f

-- so its own actor has to settle where others are behind
pub drop_settles : (past : List Entry) (n line : ℕ) (q : Option Body) (b : Body) (behind : List Body) (a : ℕ) (bs : List Body) (m : Mode) → q ≡ Some b → b.actor ≡ a → queue b.object past ≡ behind →
    or_settling (first_by a (begun (left_by past (Dropped n line) q) bs)) m ≡ settling_behind behind (or_settling (first_by a bs) m)
drop_settles past n line q b behind a bs m is its wait =
    ap (λ p. or_settling (first_by a (begun p bs)) m) (drop_leaves past n line q b behind is wait) ∙ by_behind behind
  where
    own : (b.actor == a) ≡ true
    own = ap (λ k. k == a) its ∙ itself a

    by_behind : (calls : List Body) → or_settling (first_by a (begun (if is_any calls then Some b else None) bs)) m ≡ settling_behind calls (or_settling (first_by a bs) m)
    by_behind [] = refl
    by_behind (c ∷ cs) = ap (λ t. or_settling (slice_get (cond t (b ∷ filter (by a) bs) (filter (by a) bs)) 0) m) own

-- How many bodies there are then

one_begun : (b : Option Body) (bs : List Body) → length (begun b bs) ≤ length bs + 1
one_begun None bs = omega arith
one_begun (Some b) bs = grind arith

abbrev pub names_one : Next → ℕ
names_one Nothing = 0
names_one (HandedTo n) = 1
names_one (Dropped n line) = 1

pub count_begun : (past then_past : List Entry) (next : Next) (q : Option Body) (ways left : List Body) →
    length (begun (handed past next) ways) + length (begun (left_by then_past next q) left) ≤ length ways + length left + names_one next
count_begun past then_past Nothing q ways left =
    let none : length (begun (left_by then_past Nothing q) left) ≡ length left = ap (λ p. length (begun p left)) (left_nothing then_past q) in
    omega (arith, none)
count_begun past then_past (HandedTo n) q ways left =
    let none : length (begun (left_by then_past (HandedTo n) q) left) ≡ length left = ap (λ p. length (begun p left)) (left_handed then_past n q) in
    omega (arith, none, one_begun (last_queued n past) ways)
count_begun past then_past (Dropped n line) q ways left = omega (arith, one_begun (left_by then_past (Dropped n line) q) left)
