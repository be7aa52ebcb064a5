-- A command that is asked again behind an archive is carried out as any other.
use Rattle.std.proofs.Common.{◌≡◌, ◌∙◌, ℕ, Bool, true, List, [], ◌++◌, Option, Some, None, Ok, Err, inl, inr, refl, sym, ap, subst}
use Rattle.std.specs.Prelude.{◌⊎◌, IfNone, IfOk, IfSome, Result}
use Rattle.rv_access.specs.declared.change.Change.{Change}
use Rattle.rv_behind.specs.declared.event.Ask.{Ask}
use Rattle.rv_event.specs.declared.entry.Request.TheVariants as asks
use Rattle.rv_fault.specs.declared.failure.Failure.{Failure}
use Rattle.rv_follow.specs.Following.{Later}
use Rattle.rv_input.specs.Coming.{Reading}
use Rattle.rv_port.specs.Traces.{Passing}
use Rattle.rv_run.specs.Commanding.{AdmitsAll, Behind, Commands, Follows, IsDone}
use Rattle.rv_run.specs.Staging.{Outcome, Stage, stage}
use Rattle.rv_shell.specs.Serving.{Carries, Obeys, Prints, RequestsOrWorn, Serves, Writes}
use Rattle.rv_shell.specs.declared.order.Order.{Order}
use Rattle.rv_shell.specs.declared.order.Order.TheVariants as Orders
use Rattle.rv_shell.specs.declared.shell.LineFault.{LineFault}
use Rattle.rv_shell.specs.declared.shell.LineFault.TheVariants.{NoMemory, Write, Worn}
use Rattle.rv_shell.specs.declared.shell.Next.{Next}
use Rattle.rv_shell.specs.declared.shell.Next.TheVariants.{Go, Load, Raise, Quit}
use Rattle.rv_shell.proofs.Serving.{asks_by}
use Rattle.rv_staff.specs.Saying.{Known}
use Rattle.rv_staff.specs.Staffs.{Staffed, Workers}
use Rattle.rv_text.specs.Words.{words}
use Rattle.rv_attend.specs.Again.{AskedAgain, Asks, HeedsPlainly, InVain, IsRequest, TakesRoom, full_line}
use Rattle.rv_attend.specs.Chores.{Chores, ChoresIn}
use Rattle.rv_attend.proofs.Chores.{chores_in_later}
use Rattle.rv_attend.proofs.Growing.{commands_later, later_on, same_later, serves_later}

-- What is said of a command that was carried out before

prints_writes : (old new : Known) (text : List ℕ) (result : Result Next LineFault) → Prints old new text result → Writes old new text result
prints_writes old new text (Ok next) prints = prints
prints_writes old new text (Err (Write error)) prints = prints
prints_writes old new text (Err NoMemory) prints = absurd prints
prints_writes old new text (Err Worn) prints = prints

as_text : (old new : Known) (text line : List ℕ) (result : Result Next LineFault) → text ≡ line → Prints old new text result → Writes old new line result
as_text old new text line result same prints = subst (λ (t : List ℕ). Writes old new t result) same (prints_writes old new text result prints)

said_request : (old new : Known) (v w : Passing) (ask : Ask) (text : List ℕ) (next : Next) (result : Result Next LineFault)
    → RequestsOrWorn (Some []) (Some text) v w ask (Ok next) → Prints old new text result → RequestsOrWorn old new v w ask result
said_request old new v w ask text next result requests prints =
    asks_by old new v w ask requests.answer result requests.told (as_text old new text _ result requests.written.0 prints)

said_order : (old new : Known) (v w : Passing) (order : Order) (text : List ℕ) (next : Next) (result : Result Next LineFault) → IsRequest order
    → Obeys (Some []) (Some text) v w order (Ok next) → Prints old new text result → Obeys old new v w order result
said_order old new v w (Orders.Change (Ok change)) text next result is carries prints = said_request old new v w (Ask.Change change) text next result carries prints
said_order old new v w (Orders.Change (Err fault)) text next result is carries prints = (carries.0, as_text old new text _ result carries.1.0 prints)
said_order old new v w (Orders.Tick ticks) text next result is carries prints = said_request old new v w (Ask.Step (asks.Tick ticks)) text next result carries prints
said_order old new v w order text next result is carries prints = absurd is

pub said_again : (old new : Known) (v w : Passing) (line text : List ℕ) (next : Next) (result : Result Next LineFault) → TakesRoom line
    → Asks v w line text (Ok next) → Prints old new text result → Serves old new v w (words line) result
said_again old new v w line text next result is asked prints = by_serves asked.serves
  where
    by_serves : Serves (Some []) (Some text) v w (words line) (Ok next) → Serves old new v w (words line) result
    by_serves (inl lacks) = absurd (cc lacks.2)
    by_serves (inr carries) =
        let obeys = subst (λ (o : Option Order). Carries (Some []) (Some text) v w o (Ok next)) is.read carries in
        inr (subst (λ (o : Option Order). Carries old new v w o result) (sym is.read) (said_order old new v w is.order text next result is.request obeys prints))

worn_order : (old : Known) (v w : Passing) (order : Order) (text : List ℕ) → IsRequest order → Obeys (Some []) (Some text) v w order (Err Worn)
    → Obeys old old v w order (Err Worn)
worn_order old v w (Orders.Change (Ok change)) text is none = (none.0, refl)
worn_order old v w (Orders.Change (Err fault)) text is none = absurd none.1
worn_order old v w (Orders.Tick ticks) text is none = (none.0, refl)
worn_order old v w order text is none = absurd is

pub worn_again : (old : Known) (v w : Passing) (line text : List ℕ) → TakesRoom line → Asks v w line text (Err Worn)
    → Serves old old v w (words line) (Err Worn)
worn_again old v w line text is asked = by_serves asked.serves
  where
    by_serves : Serves (Some []) (Some text) v w (words line) (Err Worn) → Serves old old v w (words line) (Err Worn)
    by_serves (inl lacks) = absurd (cc lacks.2)
    by_serves (inr carries) =
        let obeys = subst (λ (o : Option Order). Carries (Some []) (Some text) v w o (Err Worn)) is.read carries in
        inr (subst (λ (o : Option Order). Carries old old v w o (Err Worn)) (sym is.read) (worn_order old v w is.order text is.request obeys))

unsaid_order : (old : Known) (v w : Passing) (order : Order) (text : List ℕ) → IsRequest order → Obeys (Some []) (Some text) v w order (Err NoMemory)
    → Obeys old old v w order (Err NoMemory)
unsaid_order old v w (Orders.Change (Ok change)) text is asked = record { answer = asked.answer; told = asked.told; written = refl }
unsaid_order old v w (Orders.Change (Err fault)) text is asked = (asked.0, refl)
unsaid_order old v w (Orders.Tick ticks) text is asked = record { answer = asked.answer; told = asked.told; written = refl }
unsaid_order old v w order text is asked = absurd is

pub unsaid_again : (old : Known) (v w : Passing) (line text : List ℕ) → TakesRoom line → Asks v w line text (Err NoMemory)
    → Serves old old v w (words line) (Err NoMemory)
unsaid_again old v w line text is asked = by_serves asked.serves
  where
    by_serves : Serves (Some []) (Some text) v w (words line) (Err NoMemory) → Serves old old v w (words line) (Err NoMemory)
    by_serves (inl lacks) = inl (lacks.0, refl, refl, lacks.3)
    by_serves (inr carries) =
        let obeys = subst (λ (o : Option Order). Carries (Some []) (Some text) v w o (Err NoMemory)) is.read carries in
        inr (subst (λ (o : Option Order). Carries old old v w o (Err NoMemory)) (sym is.read) (unsaid_order old v w is.order text is.request obeys))

unkept_order : (old : Known) (v w : Passing) (order : Order) (text : List ℕ) (error : _) → IsRequest order → Obeys (Some []) (Some text) v w order (Err (Write error))
    → Obeys old old v w order (Err NoMemory)
unkept_order old v w (Orders.Change (Ok change)) text error is asked = record { answer = asked.answer; told = asked.told; written = refl }
unkept_order old v w (Orders.Change (Err fault)) text error is asked = (asked.0, refl)
unkept_order old v w (Orders.Tick ticks) text error is asked = record { answer = asked.answer; told = asked.told; written = refl }
unkept_order old v w order text error is asked = absurd is

pub unkept_again : (old : Known) (v w : Passing) (line text : List ℕ) (error : _) → TakesRoom line → Asks v w line text (Err (Write error))
    → Serves old old v w (words line) (Err NoMemory)
unkept_again old v w line text error is asked = by_serves asked.serves
  where
    by_serves : Serves (Some []) (Some text) v w (words line) (Err (Write error)) → Serves old old v w (words line) (Err NoMemory)
    by_serves (inl lacks) = absurd (cc lacks.2)
    by_serves (inr carries) =
        let obeys = subst (λ (o : Option Order). Carries (Some []) (Some text) v w o (Err (Write error))) is.read carries in
        inr (subst (λ (o : Option Order). Carries old old v w o (Err NoMemory)) (sym is.read) (unkept_order old v w is.order text error is.request obeys))

-- It is asked in vain, and again

pub in_vain : (v asked w : Passing) (line text : List ℕ) (next : Result Next LineFault) → Serves (Some []) (Some text) v asked (words line) next
    → (next ≡ Ok Go) × (text ≡ full_line) → ChoresIn true asked w → InVain v w line
in_vain v asked w line text next serves full gives = record {
  asked = asked;
  asks = record {
    serves =
        subst (λ (t : List ℕ). Serves (Some []) (Some t) v asked (words line) (Ok Go)) full.1
        (subst (λ (n : Result Next LineFault). Serves (Some []) (Some text) v asked (words line) n) full.0 serves);
  };
  gives_up = gives;
}

pub goes_put : (old new : Known) (text : List ℕ) (result : Result Next LineFault) → Prints old new text result → IfOk result (λ n. n ≡ Go)
goes_put old new text (Ok next) prints = prints.1
goes_put old new text (Err fault) prints = tt

-- Behind it the run goes on

follows_done : (s t : Stage) (next : Result Next LineFault) (result : Outcome) → IfOk next (λ n. n ≡ Go) → IsDone s t next result → Follows AdmitsAll s t next result
follows_done s t (Ok Go) result is done = done
follows_done s t (Ok Load) result is done = absurd (cc is)
follows_done s t (Ok (Raise line)) result is done = absurd (cc is)
follows_done s t (Ok Quit) result is done = absurd (cc is)
follows_done s t (Err fault) result is done = done

only_control : (s t : Staffed) → t.crew ≡ s.crew → t ≡ record s { control = t.control }
only_control s t crew = ap (λ (c : Workers). record t { crew = c }) crew

pub asked_again : (first last : Staffed) (again : Passing) (old said new : Known) (line : List ℕ) (next : Result Next LineFault) (result : Outcome)
    → last.crew ≡ first.crew → (again ≡ first.control) ⊎ InVain first.control again line → Serves old said again last.control (words line) next
    → IfOk next (λ n. n ≡ Go) → Behind said new next result
    → (input : Reading) → (left : Known) → AskedAgain (stage first old input left) (stage last new input left) line result
asked_again first last again old said new line next result crew before serves go behind = λ input left. record {
  again = again;
  before = before;
  commands = record {
    next = next;
    asked = last.control;
    said = said;
    served = serves;
    follows =
        follows_done (stage (record first { control = last.control }) said input left) (stage last new input left) next result go
        (record { same = only_control first last crew; unread = record { input = refl; left = refl }; behind = behind });
  };
  goes = go;
}

vain_later : (v w : Passing) (line : List ℕ) → (w ≡ v) ⊎ InVain v w line → Later v w
vain_later v w line (inl same) = same_later v w same
vain_later v w line (inr vain) =
    later_on v vain.asked w (serves_later (Some []) (Some _) v vain.asked (words line) (Ok Go) vain.asks.serves) (chores_in_later true vain.asked w vain.gives_up)

pub again_later : (v again w : Passing) (old new : Known) (line : List ℕ) (next : Result Next LineFault) → (again ≡ v) ⊎ InVain v again line
    → Serves old new again w (words line) next → Later v w
again_later v again w old new line next before serves =
    later_on v again w (vain_later v again line before) (serves_later old new again w (words line) next serves)

-- With a line, where nobody is at a console

heeds_plainly : (lasting : Bool) (first mid last : Staffed) (old new : Known) (line : List ℕ) (result : Option Outcome) → Chores first.control mid.control
    → mid.crew ≡ first.crew → IfNone result ((last ≡ mid) × (new ≡ old)) → IfSome result (λ outcome. lasting ≡ true)
    → IfSome result (λ outcome. (input : Reading) → (left : Known) → AskedAgain (stage mid old input left) (stage last new input left) line outcome)
    → (input : Reading) → (left : Known) → HeedsPlainly lasting (stage first old input left) (stage last new input left) line result
heeds_plainly lasting first mid last old new line None chores crew none is again = λ input left. none.1
heeds_plainly lasting first mid last old new line (Some outcome) chores crew none is again = λ input left.
    (is, (mid.control, chores, subst (λ (s : Staffed). AskedAgain (stage s old input left) (stage last new input left) line outcome) (only_control first mid crew) (again input left)))

-- behind a console that nobody is at
pub heeds_behind : (lasting lasting' : Bool) (first first' mid last : Staffed) (old old' new : Known) (line : List ℕ) (result : Option Outcome)
    → lasting' ≡ lasting → first' ≡ first → old' ≡ old → Chores first'.control mid.control
    → mid.crew ≡ first'.crew → IfNone result ((last ≡ mid) × (new ≡ old')) → IfSome result (λ outcome. lasting' ≡ true)
    → IfSome result (λ outcome. (input : Reading) → (left : Known) → AskedAgain (stage mid old' input left) (stage last new input left) line outcome)
    → (input : Reading) → (left : Known) → HeedsPlainly lasting (stage first old input left) (stage last new input left) line result
heeds_behind lasting lasting' first first' mid last old old' new line result asked same silent chores crew none is again = λ input left.
    subst (λ (b : Bool). HeedsPlainly b (stage first old input left) (stage last new input left) line result) asked
    (subst (λ (s : Staffed). HeedsPlainly lasting' (stage s old input left) (stage last new input left) line result) same
    (subst (λ (o : Known). HeedsPlainly lasting' (stage first' o input left) (stage last new input left) line result) silent
    (heeds_plainly lasting' first' mid last old' new line result chores crew none is again input left)))

-- where nothing was asked, only chores were done
pub chores_none : {X : Type 0} (v w : Passing) (mid last : Staffed) (A : Type 0) (result : Option X) → v ≡ w → Chores w mid.control → IfNone result ((last ≡ mid) × A)
    → IfNone result (Chores v last.control)
chores_none v w mid last A None same chores none =
    subst (λ (p : Passing). Chores p last.control) (sym same) (subst (λ (s : Staffed). Chores w s.control) (sym none.0) chores)
chores_none v w mid last A (Some x) same chores none = tt

pub crew_none : {X : Type 0} (first mid last : Staffed) (A : Type 0) (result : Option X) → mid.crew ≡ first.crew → IfNone result ((last ≡ mid) × A)
    → IfNone result (last.crew ≡ first.crew)
crew_none first mid last A None crew none = ap (λ (s : Staffed). s.crew) none.0 ∙ crew
crew_none first mid last A (Some x) crew none = tt
