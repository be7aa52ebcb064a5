-- Why a run goes on or ends, behind what was done before.
use Rattle.std.proofs.Common.{◌≡◌, ◌∙◌, ◌≤◌, ◌+◌, ◌-◌, ℕ, Bool, true, List, [], Option, Some, None, Ok, Err, inl, inr, refl, sym, ap, subst, arith, append-nil, length, length-append}
use Rattle.std.specs.Prelude.{◌⊎◌, IfErr, IfOk, IfSome, Result}
use Rattle.std.specs.Io.KnownBytes.{Appends}
use Rattle.std.proofs.lemmas.Bool.Decides.{nat_tests}
use Rattle.rv_behind.specs.Events.{history_at}
use Rattle.rv_feed.specs.Hearing.{Hears, IsStopped}
use Rattle.rv_feed.specs.declared.feed.Came.{Came}
use Rattle.rv_feed.specs.declared.feed.Came.TheVariants.{Bytes, Nothing, Over}
use Rattle.rv_feed.specs.declared.piece.Piece.{Piece}
use Rattle.rv_follow.specs.Following.{IsKept}
use Rattle.rv_follow.proofs.Growing.{goes_on}
use Rattle.rv_history.specs.History.{History}
use Rattle.rv_history.specs.Journal.{journal_text}
use Rattle.rv_history.specs.declared.limits.Limits.{Limits}
use Rattle.rv_input.specs.Coming.{Reading}
use Rattle.rv_input.specs.Whole.{HasCommand}
use Rattle.rv_input.specs.declared.fault.InputFault.{InputFault}
use Rattle.rv_keep.specs.Keeping.{Known}
use Rattle.rv_port.specs.Traces.{Passing, limits_in}
use Rattle.rv_script.specs.Prefixes.{WritesPrefix}
use Rattle.rv_run.specs.Beside.{Ended, IsOfRun}
use Rattle.rv_run.specs.Staging.{Outcome}
use Rattle.rv_run.specs.declared.command.Goes.{Goes}
use Rattle.rv_run.specs.declared.command.Goes.TheVariants.{On, Out}
use Rattle.rv_run.specs.declared.outputs.KeptFailure.{KeptFailure}
use Rattle.rv_run.specs.declared.outputs.KeptFailure.TheVariants.{File, Run}
use Rattle.rv_tally.specs.Guarding.{is_below}
use Rattle.rv_attend.specs.Attending.{Grows}
use Rattle.rv_attend.specs.Going.{ClosesAs, CommandComes, FailsToKeep, IsLow, Terms, UnlessStopped, entries_seen, terms}
use Rattle.rv_attend.specs.Lasting.{GoesFor, Halts, State}
use Rattle.rv_attend.specs.declared.attention.Attention.{Attention}
use Rattle.rv_attend.specs.declared.waiting.Heard.{Heard}
use Rattle.rv_attend.specs.declared.waiting.Heard.TheVariants.{Command}
use Rattle.rv_attend.proofs.Attended.{grows_same}

-- The room

pub low_due : (asked : Attention) (capacity used : ℕ) (is : Bool) → is ≡ is_below asked.halt_below (capacity - used) → is ≡ true → IsLow (terms asked capacity) used
low_due asked capacity used is same low = sym same ∙ low

pub low_as : (asked : Attention) (capacity capacity' used used' : ℕ) → capacity' ≡ capacity → used ≡ used' → IsLow (terms asked capacity) used → IsLow (terms asked capacity') used'
low_as asked capacity capacity' used used' same is low =
    subst (λ (n : ℕ). IsLow (terms asked n) used') (sym same) (subst (λ (n : ℕ). IsLow (terms asked capacity) n) is low)

less_room : (least : Option ℕ) (capacity used more : ℕ) → used ≤ more → is_below least (capacity - used) ≡ true → is_below least (capacity - more) ≡ true
less_room None capacity used more h low = low
less_room (Some least) capacity used more h low = grind (arith, nat_tests, h, low)

seen_long : (opened now : Known) (v : Passing) (next : ℕ) → IsKept opened now v next → next - 1 ≤ entries_seen v
seen_long opened now v next (inl (keeps, first)) = omega (arith, first)
seen_long opened now v next (inr since) =
    let goes = goes_on since.limits since.log v.seen since.seen in
    let long : length (history_at since.limits v.seen).past ≡ length goes.newer + length (history_at since.limits since.log).past =
    ap length goes.past ∙ length-append goes.newer (history_at since.limits since.log).past in
    let same : entries_seen v ≡ length (history_at since.limits v.seen).past = ap (λ (o : Option Limits). length (history_at (limits_in o) v.seen).past) since.about in
    omega (arith, same, long, since.kept.within)

-- what was written of a journal is no more than the operator has seen of it
pub low_seen : (terms : Terms) (opened now : Known) (w : Passing) (next : ℕ) → IsKept opened now w next → IsLow terms (next - 1) → IsLow terms (entries_seen w)
low_seen terms opened now w next kept low =
    less_room terms.asked.halt_below terms.capacity (next - 1) (entries_seen w) (seen_long opened now w next kept) low

-- The input

grows_by : (heard heard' : List Piece) (old new : Reading) (came : Came) → Hears heard heard' old new (Ok came) → Grows old new
grows_by heard heard' old new Bytes (bytes, taken, put) = (bytes.items, put)
grows_by heard heard' old new Nothing (taken, same) = grows_same old new same
grows_by heard heard' old new Over found = grows_same old new found.same

grows_not : (heard heard' : List Piece) (old new : Reading) (fault : InputFault) → Hears heard heard' old new (Err fault) → Grows old new
grows_not heard heard' old new fault (inl (piece, taken, fails, same)) = grows_same old new same
grows_not heard heard' old new fault (inr (lost, waits)) = grows_same old new waits.1

pub grows_heard : (heard heard' : List Piece) (old new : Reading) (result : Result Came InputFault) → Hears heard heard' old new result → Grows old new
grows_heard heard heard' old new (Ok came) hears = grows_by heard heard' old new came hears
grows_heard heard heard' old new (Err fault) hears = grows_not heard heard' old new fault hears

pub comes_by : (heard heard' : List Piece) (old new : Reading) (came : Came) (found : Heard) → Hears heard heard' old new (Ok came)
    → (found ≡ Command → (came ≡ Over) ⊎ HasCommand new) → found ≡ Command → CommandComes heard' new
comes_by heard heard' old new Over found hears told is = inr hears.over
comes_by heard heard' old new Bytes found hears told is = by_word (told is)
  where
    by_word : (Bytes ≡ Over) ⊎ HasCommand new → CommandComes heard' new
    by_word (inl other) = absurd (cc other)
    by_word (inr has) = inl has
comes_by heard heard' old new Nothing found hears told is = by_word (told is)
  where
    by_word : (Nothing ≡ Over) ⊎ HasCommand new → CommandComes heard' new
    by_word (inl other) = absurd (cc other)
    by_word (inr has) = inl has

-- The run goes on, or ends

pub goes_after : (s u t : State) (input : Reading) (heard : List Piece) (told : Option (List Piece)) (goes : Goes) → GoesFor u t input heard told goes → GoesFor s t input heard told goes
goes_after s u t input heard told On comes = comes
goes_after s u t input heard told Out ends = ends

-- behind a look at the pipe that ends it
pub goes_unless : (s t : State) (input : Reading) (heard heard' : List Piece) (told told' : Option (List Piece)) (goes result : Goes) → heard' ≡ heard
    → UnlessStopped told told' goes result → GoesFor s t input heard told goes → GoesFor s t input heard' told' result
goes_unless s t input heard heard' told told' On On same stops comes = subst (λ (h : List Piece). CommandComes h input) (sym same) comes
goes_unless s t input heard heard' told told' On Out same stops comes = inr stops
goes_unless s t input heard heard' told told' Out result same (still, is) ends = subst (λ (g : Goes). GoesFor s t input heard' told' g) (sym is) (by_why ends)
  where
    by_why : Halts s t ⊎ IsStopped told → Halts s t ⊎ IsStopped told'
    by_why (inl due) = inl due
    by_why (inr stopped) = inr (subst (λ (o : Option (List Piece)). IsStopped o) (sym still) stopped)

-- a command that has come is served, unless the run was ended
pub goes_with : (s t : State) (input : Reading) (heard : List Piece) (told told' : Option (List Piece)) (result : Goes) → UnlessStopped told told' On result → HasCommand input
    → GoesFor s t input heard told' result
goes_with s t input heard told told' On stops has = inl has
goes_with s t input heard told told' Out stops has = inr stops

-- the end of a round ends the run where a halt is due, or it was ended from outside
pub ends_by : (Halts : Type 0) (told told' : Option (List Piece)) (round goes : Goes) (result : Option Goes) → (round ≡ Out → Halts) → UnlessStopped told told' round goes
    → IfSome result (λ ends. (ends ≡ Out) × (goes ≡ Out)) → IfSome result (λ ends. (ends ≡ Out) × (Halts ⊎ IsStopped told'))
ends_by Halts told told' round goes None halts stops is = tt
ends_by Halts told told' Out goes (Some ends) halts stops is = (is.0, inl (halts refl))
ends_by Halts told told' On On (Some ends) halts stops is = absurd (cc is.1)
ends_by Halts told told' On Out (Some ends) halts stops is = (is.0, inr stops)

pub goes_out : (Why : Goes → Type 0) (result : Result (Option Goes) KeptFailure) → IfOk result (λ goes. IfSome goes (λ ends. (ends ≡ Out) × Why Out))
    → IfOk result (λ goes. IfSome goes Why)
goes_out Why (Ok None) ends = tt
goes_out Why (Ok (Some goes)) ends = subst Why (sym ends.0) ends.1
goes_out Why (Err failure) ends = tt

-- a run that is left ends
pub leaves_out : (Why : Goes → Type 0) (left : Outcome) (result : Result Goes KeptFailure) → IfOk left (λ goes. goes ≡ Out) → IsOfRun left result → Why Out → IfOk result Why
leaves_out Why (Ok goes) result out is why = subst (λ (r : Result Goes KeptFailure). IfOk r Why) (sym is) (subst Why (sym out) why)
leaves_out Why (Err failure) result out is why = subst (λ (r : Result Goes KeptFailure). IfOk r Why) (sym is) tt

-- behind chores that are done once a command has come
pub caught_up : (s u t : State) (input : Reading) (heard heard' : List Piece) (told : Option (List Piece)) (goes : Goes)
    → heard' ≡ heard → CommandComes heard input → (goes ≡ Out → Halts u t) → GoesFor s t input heard' told goes
caught_up s u t input heard heard' told On same comes halts = subst (λ (h : List Piece). CommandComes h input) (sym same) comes
caught_up s u t input heard heard' told Out same comes halts = inl (halts refl)

pub if_ok : {X E : Type 0} (result : Result X E) (P Q : X → Type 0) → ((x : X) → P x → Q x) → IfOk result P → IfOk result Q
if_ok (Ok x) P Q map fact = map x fact
if_ok (Err error) P Q map fact = tt

pub any_ok : {X E : Type 0} (result : Result X E) → IfOk result (λ x. Unit {0})
any_ok (Ok x) = tt
any_ok (Err error) = tt

-- The file

pub closes_as : (x : Unit {0}) (result : Ended) → IfErr result FailsToKeep → ClosesAs (Ok x) result
closes_as x (Ok y) fails = tt
closes_as x (Err failure) fails = fails

-- what else is written at the end fails
pub closes_less : (served : Ended) (x : Unit {0}) (error : _) → ClosesAs served (Ok x) → ClosesAs served (Err (File error))
closes_less (Ok y) x error closes = tt
closes_less (Err (Run failure)) x error closes = absurd closes
closes_less (Err (File other)) x error closes = absurd (cc closes)

pub file_less : (opened now : Known) (h : History) → Appends opened now (journal_text h) → WritesPrefix opened now (journal_text h)
file_less opened now h whole = record { prefix = journal_text h; rest = []; whole = sym (append-nil (journal_text h)); written = whole }
