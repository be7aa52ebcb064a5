-- Chores, one after another.
use Rattle.std.proofs.Common.{◌≡◌, ℕ, zero, suc, Bool, true, false, Ok, Err, inl, inr, refl, sym, subst}
use Rattle.std.specs.Prelude.{IfErr, IfOk, Result, min, pos}
use Rattle.rv_behind.specs.Acting.{Does}
use Rattle.rv_behind.specs.Events.{by}
use Rattle.rv_behind.specs.declared.event.Ask.{Ask}
use Rattle.rv_behind.specs.declared.event.Ask.TheVariants as asks
use Rattle.rv_behind.specs.declared.event.Reply.{Reply}
use Rattle.rv_behind.specs.declared.event.Reply.TheVariants as Gives
use Rattle.rv_event.specs.declared.entry.Answer.{Answer}
use Rattle.rv_event.specs.declared.entry.Answer.TheVariants.{Full}
use Rattle.rv_event.specs.declared.entry.Request.{Request}
use Rattle.rv_event.specs.declared.entry.Request.TheVariants as requests
use Rattle.rv_follow.specs.Archiving.{AsksArchive, GivesUp}
use Rattle.rv_follow.specs.Following.{Later, Reads, ReadsOn}
use Rattle.rv_pace.specs.Pacing.{Pacing, missed}
use Rattle.rv_port.specs.Controls.{Told}
use Rattle.rv_port.specs.Traces.{Passing}
use Rattle.rv_port.specs.Viewing.{NotViewed}
use Rattle.rv_port.specs.declared.fault.PageFault.{PageFault}
use Rattle.rv_port.specs.declared.fault.PageFault.TheVariants as PageFaults
use Rattle.rv_turn.specs.Passes.{Acted}
use Rattle.rv_turn.specs.declared.pass.Worn.{Worn as Spent}
use Rattle.rv_attend.specs.Chores.{Chores, ChoresIn, ChoresOn, IsAsked, IsChore}
use Rattle.rv_attend.specs.Going.{Terms}
use Rattle.rv_attend.specs.Ticking.{AsksInAll, AsksOf, AsksRoom, Ticks, TicksOnce}
use Rattle.rv_attend.proofs.Growing.{acted_later, later_on, same_later}
use Rattle.rv_view.specs.Views.{Shown}

pub no_chores_in : (lasting : Bool) (v w : Passing) → w ≡ v → ChoresIn lasting v w
no_chores_in lasting v w same = (0, same)

pub no_chores : (v w : Passing) → w ≡ v → Chores v w
no_chores v w same = (0, same)

chore_in : (lasting : Bool) (v w : Passing) (ask : Ask) (reply : Reply) → IsChore lasting ask → Acted by Does v ask reply w → ChoresIn lasting v w
chore_in lasting v w ask reply is acted = (1, (v, ask, reply, refl, is, acted))

chore : (v w : Passing) (ask : Ask) (reply : Reply) → IsChore false ask → Acted by Does v ask reply w → Chores v w
chore v w ask reply is acted = chore_in false v w ask reply is acted

chore_told : (v w : Passing) (ask : Ask) (answer : Answer) → IsChore false ask → Told v ask answer w → Chores v w
chore_told v w ask answer is told = chore v w ask told.0 is told.2

on : (lasting : Bool) (count : ℕ) (v u w : Passing) → ChoresIn lasting v u → ChoresOn lasting count u w → ChoresIn lasting v w
on lasting zero v u w before same = subst (λ (x : Passing). ChoresIn lasting v x) (sym same) before
on lasting (suc count) v u w before more =
    let so_far = on lasting count v u more.0 before more.3 in (suc so_far.0, (more.0, more.1, more.2, so_far.1, more.4, more.5))

pub chores_in_on : (lasting : Bool) (v u w : Passing) → ChoresIn lasting v u → ChoresIn lasting u w → ChoresIn lasting v w
chores_in_on lasting v u w before more = on lasting more.0 v u w before more.1

pub chores_on : (v u w : Passing) → Chores v u → Chores u w → Chores v w
chores_on v u w before more = chores_in_on false v u w before more

-- what any run does, a lasting one may do
as_asked : (lasting : Bool) (request : Request) → IsAsked false request → IsAsked lasting request
as_asked false request is = is
as_asked true (requests.Tick ticks) is = tt
as_asked true request is = absurd is

as_chore : (lasting : Bool) (ask : Ask) → IsChore false ask → IsChore lasting ask
as_chore lasting (asks.Step request) is = as_asked lasting request is
as_chore lasting (asks.Read from) is = tt
as_chore lasting asks.View is = tt
as_chore lasting ask is = absurd is

widen_on : (lasting : Bool) (count : ℕ) (v w : Passing) → ChoresOn false count v w → ChoresOn lasting count v w
widen_on lasting zero v w same = same
widen_on lasting (suc count) v w chores =
    (chores.0, chores.1, chores.2, widen_on lasting count v chores.0 chores.3, as_chore lasting chores.1 chores.4, chores.5)

pub widen : (lasting : Bool) (v w : Passing) → Chores v w → ChoresIn lasting v w
widen lasting v w chores = (chores.0, widen_on lasting chores.0 v w chores.1)

-- one after another, while the same is asked of a run
pub chores_tend : (a b : Terms) (v u w : Passing) → b ≡ a → ChoresIn a.asked.lasting v u → ChoresIn b.asked.lasting u w → ChoresIn a.asked.lasting v w
chores_tend a b v u w same first last =
    chores_in_on a.asked.lasting v u w first (subst (λ (t : Terms). ChoresIn t.asked.lasting u w) same last)

-- what the operator has seen only grows by them
later : (lasting : Bool) (count : ℕ) (v w : Passing) → ChoresOn lasting count v w → Later v w
later lasting zero v w same = same_later v w same
later lasting (suc count) v w chores = later_on v chores.0 w (later lasting count v chores.0 chores.3) (acted_later chores.0 w chores.1 chores.2 chores.5)

pub chores_in_later : (lasting : Bool) (v w : Passing) → ChoresIn lasting v w → Later v w
chores_in_later lasting v w chores = later lasting chores.0 v w chores.1

pub chores_later : (v w : Passing) → Chores v w → Later v w
chores_later v w chores = chores_in_later false v w chores

-- Entries that are given up

given_up : (number : ℕ) (v w : Passing) → AsksArchive number v w → ChoresIn true v w
given_up number v w (inl told) = chore_in true v w (asks.Step (requests.Archive number)) told.1.0 tt told.1.2
given_up number v w (inr worn) = no_chores_in true v w worn.1

all_given_up : (next : ℕ) (v w : Passing) → GivesUp next v w → ChoresIn true v w
all_given_up next v w (inl same) = no_chores_in true v w same
all_given_up next v w (inr asked) = given_up asked.0 v w asked.2

pub gives_up_chores : (lasting : Bool) (next : ℕ) (v w : Passing) → lasting ≡ true → GivesUp next v w → ChoresIn lasting v w
gives_up_chores lasting next v w is gives = subst (λ (l : Bool). ChoresIn l v w) (sym is) (all_given_up next v w gives)

pub none_given_up : (next : ℕ) (v : Passing) → GivesUp next v v
none_given_up next v = inl refl

-- Ticks

ticked : (ticks : ℕ) (v w : Passing) → AsksOf ticks v w → Chores v w
ticked ticks v w (inl told) = chore_told v w (Ask.Step (requests.Tick (pos ticks))) told.0 tt told.1
ticked ticks v w (inr worn) = no_chores v w worn.1

all_ticked : (count ticks : ℕ) (v w : Passing) → AsksInAll count ticks v w → Chores v w
all_ticked zero ticks v w none = no_chores v w none.1
all_ticked (suc count) ticks v w asks = chores_on v asks.0 w (all_ticked count asks.1 v asks.0 asks.3) (ticked asks.2 asks.0 w asks.4)

pub ticks_chores : (v w : Passing) (old new : Pacing) (now : ℕ) → Ticks v w old new now → Chores v w
ticks_chores v w old new now ticks = all_ticked ticks.count (missed old now) v w ticks.asks

pub once_chores : (v w : Passing) (old new : Pacing) (now : ℕ) → TicksOnce v w old new now → Chores v w
once_chores v w old new now (inl none) = no_chores v w none.1
once_chores v w old new now (inr (inl asked)) = ticked (min 1_000_000 (missed old now)) v w asked.0
once_chores v w old new now (inr (inr full)) = chore_told v w (Ask.Step (requests.Tick (pos (min 1_000_000 (missed old now))))) Full tt full.0

-- Pages

read : (count : ℕ) (v w : Passing) → ReadsOn count v w → Chores v w
read zero v w same = no_chores v w same
read (suc count) v w reads = chores_on v reads.0 w (read count v reads.0 reads.3) (chore reads.0 w (Ask.Read reads.1) reads.2 tt reads.4)

pub reads_chores : (v w : Passing) → Reads v w → Chores v w
reads_chores v w reads = read reads.0 v w reads.1

-- What is shown of the host

pub views_chores : (v w : Passing) (r : Result Shown PageFault) → IfOk r (λ view. Acted by Does v Ask.View (Gives.Viewed view) w)
    → IfErr r (λ fault. NotViewed v fault w) → Chores v w
views_chores v w (Ok view) told none = chore v w Ask.View (Gives.Viewed view) tt told
views_chores v w (Err PageFaults.NoMemory) told none = chore v w Ask.View Gives.Unread tt none
views_chores v w (Err PageFaults.Worn) told none = no_chores v w none.1
