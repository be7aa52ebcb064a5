-- Whole runs ask what fits.
use Rattle.std.proofs.Common.{◌≡◌, ℕ, zero, suc, ◌-◌, ◌≤◌, ℤ, pos, List, [], ◌∷◌, length, replicate, Bool, true, false, cond, Option, Some, None, Ok, Err, refl, sym, ap, ◌∙◌, subst, arith}
use Rattle.std.specs.Prelude.{nat_lt, slice_get}
use Rattle.rv_event.specs.declared.entry.Answer.{Answer}
use Rattle.rv_event.specs.declared.entry.Answer.TheVariants as answer
use Rattle.rv_event.specs.declared.entry.Exception.TheVariants.{ProgramError}
use Rattle.rv_event.specs.declared.entry.Exit.{Exit}
use Rattle.rv_event.specs.declared.entry.Request.TheVariants as request
use Rattle.rv_shape.specs.declared.kind.Range.{Range}
use Rattle.rv_shape.specs.Catalogue.{OperationNumber, Site, Target, Nowhere, OnProtected, OnSuspension, numbered, target}
use Rattle.rv_shape.specs.Kinds.{is_function}
use Rattle.rv_shape.specs.Objects.{OperationShape}
use Rattle.rv_shape.specs.Shape.{Shape}
use Rattle.rv_code.specs.declared.expression.Callee.{Callee}
use Rattle.rv_code.specs.Bodies.{Body, UnitBodies}
use Rattle.rv_fits.specs.Fits.{callee_fits}
use Rattle.rv_fits.proofs.Both.{first_of_both, second_of_both, both_hold}
use Rattle.rv_history.specs.Fitting.{all_fit, ranges_in, results, exit_fits, end_at}
use Rattle.rv_ranged.specs.Ranged.{of_operation, of_target, task_stand}
use Rattle.rv_exec.specs.declared.activation.Activation.{Activation}
use Rattle.rv_exec.specs.declared.end.Asked.{Asked}
use Rattle.rv_exec.specs.declared.end.Asked.TheVariants as asked
use Rattle.rv_exec.specs.declared.end.Cause.TheVariants as cause
use Rattle.rv_exec.specs.declared.end.End.{End}
use Rattle.rv_exec.specs.Asking.{Asking, ended, asking, and_then}
use Rattle.rv_exec.specs.Activations.{opened, given_back}
use Rattle.rv_exec.specs.Blocks.{block, outcome_of, inner_at, performed, outer_at, exits, world}
use Rattle.rv_exec.specs.Bodies.{operation_of, task_of}
use Rattle.rv_exec.specs.Calls.{Outcome, internal, reached, exit_of, seen, completed, end_of, completes}
use Rattle.rv_exec.specs.Tasks.{task_setting, quits, over, task_meaning, fired}
use Rattle.rv_asks.specs.Asks.{AreRanged, Asks, Standing, free, calls_from, standing_after, next_after, is_good, are_of_object, starts_fit, EndsWell, may_handle, BodiesAskWhatFits, TasksAskWhatFits, LinesAskWhatFits}
use Rattle.rv_asks.proofs.Values.{component_ranges}
use Rattle.rv_asks.proofs.Trees.{RunEnds, asks_then, asks_more, asks_here}
use Rattle.rv_asks.proofs.Passed.{SuitsValues, wanted}
use Rattle.rv_asks.proofs.AskedValues.{OutcomeLeft, ValuesIn, InnerEnds, AskingWorld}
use Rattle.rv_asks.proofs.AskedBodies.{BodyOf, block_asks, inner_asks, outcome_left}
use Rattle.rv_asks.proofs.Replies.{spot, deeper, StartsBody, AskedEnds, callee_suits, reached_asks}
use Rattle.rv_asks.proofs.Found.{site_at, home_of, bodies_of, TaskSuits, task_suits}

-- Ends

-- the exit of an outcome whose values are of these ranges
exit_in : (ranges : List Range) (outcome : Outcome) → ValuesIn ranges outcome → exit_fits ranges (exit_of outcome) ≡ true
exit_in ranges (Ok values) f = f
exit_in ranges (Err (cause.Raised exception)) f = refl
exit_in ranges (Err cause.Overrun) f = refl
exit_in ranges (Err (cause.Stopped is_idle)) f = refl

scalars_given : (is_a : Bool) (ranges : List Range) (scalars : List ℤ) → all_fit ranges scalars ≡ true → all_fit (cond is_a [] ranges) (cond is_a [] scalars) ≡ true
scalars_given true ranges scalars f = refl
scalars_given false ranges scalars f = f

end_is_fit : (site : Site) (outcome : Outcome) (scalars : List ℤ) → all_fit (component_ranges site.object.components) scalars ≡ true → ValuesIn (results site.operation.kind site.operation.parameters) outcome
    → end_at (cond (is_function site.operation.kind) [] scalars) (exit_of outcome) (OnProtected site) ≡ true
end_is_fit site outcome scalars f g =
    both_hold (all_fit (cond (is_function site.operation.kind) [] (component_ranges site.object.components)) (cond (is_function site.operation.kind) [] scalars)) (exit_fits (results site.operation.kind site.operation.parameters) (exit_of outcome))
    (scalars_given (is_function site.operation.kind) (component_ranges site.object.components) scalars f) (exit_in (results site.operation.kind site.operation.parameters) outcome g)

module _ (shapes : List Shape) (is_line : Bool) (outer : List OperationNumber) (object operation : ℕ) (site : Site) (is : target shapes object operation ≡ OnProtected site) where
  -- the caller's place, and that of the body
  abbrev outside : Standing
  outside = free is_line outer

  abbrev there : Standing
  there = free is_line (spot object operation ∷ outer)

  completed_ends : (outcome : Outcome) → OutcomeLeft outside outside (seen outcome) → (scalars : List ℤ) (last : Exit) (later : OperationNumber) (r : Answer)
      → OutcomeLeft outside (standing_after later there (request.Complete scalars last) r) (completed outcome r)
  completed_ends outcome f scalars last later (answer.Done next) = f
  completed_ends outcome f scalars last later r = tt

  asking_end : (is_a : Bool) (later : OperationNumber) (outcome : Outcome) (scalars : List ℤ) → OutcomeLeft outside outside (seen outcome)
      → end_at (cond is_a [] scalars) (exit_of outcome) (OnProtected site) ≡ true
      → Asks shapes (OutcomeLeft outside) later there (asking (end_of is_a outcome scalars) (λ r. ended (completed outcome r)))
  asking_end true later outcome scalars f g = (ap (λ (t : Target). end_at [] (exit_of outcome) t) is ∙ g, λ r good. completed_ends outcome f [] (exit_of outcome) later r)
  asking_end false later outcome scalars f g = (ap (λ (t : Target). end_at scalars (exit_of outcome) t) is ∙ g, λ r good. completed_ends outcome f scalars (exit_of outcome) later r)

  ends_here : (is_a : Bool) (later : OperationNumber) (now : Standing) (outcome : Outcome) (scalars : List ℤ) → is_function site.operation.kind ≡ is_a → now ≡ there → OutcomeLeft outside outside (seen outcome)
      → all_fit (component_ranges site.object.components) scalars ≡ true → ValuesIn (results site.operation.kind site.operation.parameters) outcome
      → Asks shapes (OutcomeLeft outside) later now (asking (end_of is_a outcome scalars) (λ r. ended (completed outcome r)))
  ends_here is_a later now outcome scalars kind e f g h =
      asks_here shapes (OutcomeLeft outside) later there now (asking (end_of is_a outcome scalars) (λ r. ended (completed outcome r))) e
      (asking_end is_a later outcome scalars f (subst (λ (k : Bool). end_at (cond k [] scalars) (exit_of outcome) (OnProtected site) ≡ true) kind (end_is_fit site outcome scalars g h)))

  completes_asks : (is_a : Bool) → is_function site.operation.kind ≡ is_a → (later : OperationNumber) (now : Standing) (got : Outcome × (List ℤ × ℕ))
      → InnerEnds site.object.components (Some site.operation) there now got → Asks shapes (OutcomeLeft outside) later now (completes is_a got)
  completes_asks is_a kind later now (Ok values, (scalars, steps)) f = ends_here is_a later now (Ok values) scalars kind f.0 refl f.1 f.2
  completes_asks is_a kind later now (Err (cause.Raised exception), (scalars, steps)) f = ends_here is_a later now (Err (cause.Raised exception)) scalars kind f.0 refl f.1 tt
  completes_asks is_a kind later now (Err cause.Overrun, (scalars, steps)) f = ends_here is_a later now (Err cause.Overrun) scalars kind f.0 refl f.1 tt
  completes_asks is_a kind later now (Err (cause.Stopped true), (scalars, steps)) f = ends_here is_a later now (Err (cause.Stopped true)) scalars kind f.0 refl f.1 tt
  completes_asks is_a kind later now (Err (cause.Stopped false), (scalars, steps)) f = tt

module _ (shapes : List Shape) (bodies : UnitBodies) (m : AreRanged shapes bodies) where
  -- a body that started, with what it may call
  started_body : (here : Standing) (object operation : ℕ) (site : Site) → target shapes object operation ≡ OnProtected site → (outer : Callee → List ℤ → Asking Outcome)
      → ((next : OperationNumber) (c : Callee) (values : List ℤ) → internal c ≡ None → callee_fits shapes c ≡ true → SuitsValues (wanted shapes site.object.operations c) values → Asks shapes (OutcomeLeft here) next here (outer c values))
      → (next : OperationNumber) (values scalars : List ℤ) → all_fit (ranges_in site.operation.parameters) values ≡ true → all_fit (component_ranges site.object.components) scalars ≡ true
      → Asks shapes (InnerEnds site.object.components (Some site.operation) here) next here (inner_at bodies object outer 65 operation values scalars 100000)
  started_body here object operation site is outer f next values scalars takes brings =
      let at = site_at shapes object operation site is in
      let suits : SuitsValues (of_operation (numbered site.object.operations operation)) values = subst (λ (o : Option OperationShape). SuitsValues (of_operation o) values) (sym at.operation_is) takes in
      subst (λ (o : Option OperationShape). Asks shapes (InnerEnds site.object.components o here) next here (inner_at bodies object outer 65 operation values scalars 100000)) at.operation_is
      (inner_asks shapes site.object here bodies object outer (bodies_of shapes bodies m object operation site at) f (home_of shapes object operation site at) 65 next operation values scalars 100000 suits brings)

  none_performed : (here : Standing) (values : List ℤ) (later : OperationNumber) (now : Standing) (what : Asked) → AskedEnds shapes here zero values now what
      → Asks shapes (OutcomeLeft here) later now (performed (λ object operation is_a scalars. ended (Err (cause.Raised ProgramError))) what)
  none_performed here values later now (asked.Given given) e = e
  none_performed here values later now (asked.Abandoned why) e = e
  none_performed here values later now (asked.Started object operation is_a scalars) e = let less = e.2 in absurd (omega (arith, less))

  -- what is called where so many more objects may be held
  abbrev OuterAsks : ℕ → Type 0
  OuterAsks left =
      (is_line : Bool) (inside : List OperationNumber) (own : List OperationShape) (next : OperationNumber) (c : Callee) (values : List ℤ) → calls_from is_line inside ≡ true → left ≤ 16 - length inside → callee_fits shapes c ≡ true → SuitsValues (wanted shapes own c) values
      → Asks shapes (OutcomeLeft (free is_line inside)) next (free is_line inside) (outer_at bodies left c values)

  called_body : (left : ℕ) → OuterAsks left → (is_line : Bool) (inside : List OperationNumber) (values : List ℤ) → suc left ≤ 16 - length inside → (object operation : ℕ) (is_a : Bool) (scalars : List ℤ) (later : OperationNumber) → StartsBody shapes values object operation is_a scalars
      → Asks shapes (OutcomeLeft (free is_line inside)) later (free is_line (spot object operation ∷ inside)) (and_then (inner_at bodies object (outer_at bodies left) 65 operation values scalars 100000) (completes is_a))
  called_body left f is_line inside values few object operation is_a scalars later e =
      let site = e.called.site in
      let there : Standing = free is_line (spot object operation ∷ inside) in
      let less : left ≤ 16 - length (spot object operation ∷ inside) = omega (arith, few) in
      asks_then shapes (InnerEnds site.object.components (Some site.operation) there) (OutcomeLeft (free is_line inside)) later there
      (inner_at bodies object (outer_at bodies left) 65 operation values scalars 100000) (completes is_a)
      (started_body there object operation site e.called.is (outer_at bodies left)
      (λ last d vs outer good own_suits. f is_line (spot object operation ∷ inside) site.object.operations last d vs refl less good own_suits) later values scalars e.called.takes e.brings)
      (completes_asks shapes is_line inside object operation site e.called.is is_a e.called.kind)

  body_performed : (left : ℕ) → OuterAsks left → (is_line : Bool) (inside : List OperationNumber) (values : List ℤ) → suc left ≤ 16 - length inside → (later : OperationNumber) (now : Standing) (what : Asked) → AskedEnds shapes (free is_line inside) (suc left) values now what
      → Asks shapes (OutcomeLeft (free is_line inside)) later now (performed (λ object operation is_a scalars. and_then (inner_at bodies object (outer_at bodies left) 65 operation values scalars 100000) (completes is_a)) what)
  body_performed left f is_line inside values few later now (asked.Given given) e = e
  body_performed left f is_line inside values few later now (asked.Abandoned why) e = e
  body_performed left f is_line inside values few later now (asked.Started object operation is_a scalars) e =
      asks_here shapes (OutcomeLeft (free is_line inside)) later (deeper (spot object operation) (free is_line inside)) now (and_then (inner_at bodies object (outer_at bodies left) 65 operation values scalars 100000) (completes is_a)) e.0
      (called_body left f is_line inside values few object operation is_a scalars later e.1)

  outer_asks : (left : ℕ) → OuterAsks left
  unfolding outer_at
  outer_asks zero is_line inside own next c values calls few fits suits =
      asks_then shapes (AskedEnds shapes (free is_line inside) zero values) (OutcomeLeft (free is_line inside)) next (free is_line inside) (reached zero c values) (performed (λ object operation is_a scalars. ended (Err (cause.Raised ProgramError))))
      (reached_asks shapes is_line inside zero values c next calls few (callee_suits shapes own (length inside) c values fits suits)) (none_performed (free is_line inside) values)
  outer_asks (suc left) is_line inside own next c values calls few fits suits =
      asks_then shapes (AskedEnds shapes (free is_line inside) (suc left) values) (OutcomeLeft (free is_line inside)) next (free is_line inside) (reached (suc left) c values)
      (performed (λ object operation is_a scalars. and_then (inner_at bodies object (outer_at bodies left) 65 operation values scalars 100000) (completes is_a)))
      (reached_asks shapes is_line inside (suc left) values c next calls few (callee_suits shapes own (length inside) c values fits suits)) (body_performed left (outer_asks left) is_line inside values few)

  -- Bodies

  exits_ask : (here : Standing) (site : Site) (later : OperationNumber) (now : Standing) (got : Outcome × (List ℤ × ℕ)) → InnerEnds site.object.components (Some site.operation) here now got
      → Asks shapes (EndsWell shapes here (OnProtected site)) later now (exits got)
  exits_ask here site later now (Ok values, (scalars, steps)) e = record { fits = end_is_fit site (Ok values) scalars e.1 e.2; stays = λ go_on. e.0 }
  exits_ask here site later now (Err (cause.Raised exception), (scalars, steps)) e = record { fits = end_is_fit site (Err (cause.Raised exception)) scalars e.1 tt; stays = λ go_on. e.0 }
  exits_ask here site later now (Err cause.Overrun, (scalars, steps)) e = record { fits = end_is_fit site (Err cause.Overrun) scalars e.1 tt; stays = λ go_on. e.0 }
  exits_ask here site later now (Err (cause.Stopped is_idle), (scalars, steps)) e = record { fits = end_is_fit site (Err (cause.Stopped is_idle)) scalars e.1 tt; stays = λ go_on. absurd (go_on refl) }

  body_runs : (is_line : Bool) (at next : OperationNumber) (outer : List OperationNumber) (values scalars : List ℤ) (t : Target) → target shapes at.object at.operation ≡ t → starts_fit values scalars t ≡ true
      → Asks shapes (EndsWell shapes (free is_line (at ∷ outer)) t) next (free is_line (at ∷ outer)) (and_then (inner_at bodies at.object (outer_at bodies (16 - suc (length outer))) 65 at.operation values scalars 100000) exits)
  body_runs is_line at next outer values scalars Nowhere is f = absurd (cc f)
  body_runs is_line at next outer values scalars (OnSuspension unit name deed) is f = absurd (cc f)
  body_runs is_line at next outer values scalars (OnProtected site) is f =
      let few : 16 - suc (length outer) ≤ 16 - length (at ∷ outer) = omega arith in
      let here : Standing = free is_line (at ∷ outer) in
      asks_then shapes (InnerEnds site.object.components (Some site.operation) here) (EndsWell shapes here (OnProtected site)) next here
      (inner_at bodies at.object (outer_at bodies (16 - suc (length outer))) 65 at.operation values scalars 100000) exits
      (started_body here at.object at.operation site is (outer_at bodies (16 - suc (length outer)))
      (λ last d vs out good suits. outer_asks (16 - suc (length outer)) is_line (at ∷ outer) site.object.operations last d vs refl few good suits) next values scalars
      (first_of_both (all_fit (ranges_in site.operation.parameters) values) (all_fit (component_ranges site.object.components) scalars) f)
      (second_of_both (all_fit (ranges_in site.operation.parameters) values) (all_fit (component_ranges site.object.components) scalars) f))
      (exits_ask here site)

  -- Tasks

  none_of : (n : ℕ) → BodyOf shapes 0 (record { name = []; is_visible = false; ceiling = 0; components = []; operations = [] }) (operation_of bodies 0 n) (numbered [] n)
  none_of n = tt

  task_outer : (next : OperationNumber) (c : Callee) (values : List ℤ) → internal c ≡ None → callee_fits shapes c ≡ true → SuitsValues (wanted shapes [] c) values → Asks shapes (OutcomeLeft (free false [])) next (free false []) (outer_at bodies 16 c values)
  task_outer next c values outer fits suits = outer_asks 16 false [] [] next c values refl (omega arith) fits suits

  task_home : (n : ℕ) → of_operation (numbered [] n) ≡ of_target (target shapes 0 n)
  task_home n = by_test (nat_lt n 1) where
    by_test : (k : Bool) → of_operation (cond k None (slice_get [] (n - 1))) ≡ None
    by_test true = refl
    by_test false = refl

  task_world : AskingWorld shapes [] [] (free false []) (world bodies task_setting)
  task_world = record {
    inner = λ next n values scalars steps suits fit.
        inner_asks shapes (record { name = []; is_visible = false; ceiling = 0; components = []; operations = [] }) (free false []) bodies 0 (outer_at bodies 16) none_of task_outer task_home 65 next n values scalars steps suits fit;
    outer = task_outer;
    home = task_home;
  }

  -- a task quits where it is idle
  quits_free : (exit : Exit) (later : OperationNumber) (now : Standing) → now ≡ free false [] → Asks shapes (λ s last. Unit {0}) later now (asking request.Quit (λ r. ended exit))
  quits_free exit later now is = asks_here shapes (λ s last. Unit {0}) later (free false []) now (asking request.Quit (λ r. ended exit)) is (refl, λ r good. tt)

  quits_ask : (outcome : Outcome) (later : OperationNumber) (now : Standing) → OutcomeLeft (free false []) now outcome → Asks shapes (λ s exit. Unit {0}) later now (quits outcome)
  quits_ask (Ok values) later now is = quits_free (exit_of (Ok values)) later now is
  quits_ask (Err (cause.Raised exception)) later now is = quits_free (exit_of (Err (cause.Raised exception))) later now is
  quits_ask (Err cause.Overrun) later now is = quits_free (exit_of (Err cause.Overrun)) later now is
  quits_ask (Err (cause.Stopped true)) later now is = quits_free (exit_of (Err (cause.Stopped true))) later now is
  quits_ask (Err (cause.Stopped false)) later now is = tt

  over_asks : (body : Body) (later : OperationNumber) (now : Standing) (ran : End × Activation) → RunEnds task_stand (free false []) now ran → Asks shapes (λ s exit. Unit {0}) later now (over body ran)
  over_asks body later now (e, a) f =
      quits_ask (outcome_of body e a) later now (outcome_left (free false []) now None body.is_function e (given_back body.parameters 0 a.slots []) f.0)

  task_asks : (o : Option Body) (requests : ℕ) (next : OperationNumber) → TaskSuits shapes bodies m o → Asks shapes (λ s exit. Unit {0}) next (free false []) (task_meaning bodies o requests)
  unfolding task_meaning
  task_asks None requests next s = quits_ask (Ok []) next (free false []) refl
  task_asks (Some body) requests next s =
      asks_then shapes (RunEnds task_stand (free false [])) (λ s exit. Unit {0}) next (free false []) (block (world bodies task_setting) body (opened (replicate 132 (pos 0)) [] 100000 requests)) (over body)
      (block_asks shapes task_stand (free false []) (world bodies task_setting) task_world body next (opened (replicate 132 (pos 0)) [] 100000 requests) s ((λ i p e. absurd (cc e)), refl)) (over_asks body)

  -- Lines

  handles_asks : (at : OperationNumber) (scalars : List ℤ) (next : OperationNumber) (t : Target) → target shapes at.object at.operation ≡ t → may_handle t ≡ true → are_of_object scalars t ≡ true
      → Asks shapes (OutcomeLeft (free true [])) next (free true (at ∷ [])) (and_then (inner_at bodies at.object (outer_at bodies 15) 65 at.operation [] scalars 100000) (completes false))
  handles_asks at scalars next Nowhere is f g = absurd (cc f)
  handles_asks at scalars next (OnSuspension unit name deed) is f g = absurd (cc f)
  handles_asks at scalars next (OnProtected site) is f g =
      let few : 15 ≤ 16 - length (at ∷ []) = omega arith in
      let here : Standing = free true (at ∷ []) in
      asks_then shapes (InnerEnds site.object.components (Some site.operation) here) (OutcomeLeft (free true [])) next here (inner_at bodies at.object (outer_at bodies 15) 65 at.operation [] scalars 100000) (completes false)
      (started_body here at.object at.operation site is (outer_at bodies 15) (λ last d vs out good suits. outer_asks 15 true (at ∷ []) site.object.operations last d vs refl few good suits) next [] scalars
      (first_of_both (all_fit (ranges_in site.operation.parameters) []) (cond (is_function site.operation.kind) false true) f) g)
      (completes_asks shapes true [] at.object at.operation site is false
      (not_so (is_function site.operation.kind) (second_of_both (all_fit (ranges_in site.operation.parameters) []) (cond (is_function site.operation.kind) false true) f)))
    where
      not_so : (k : Bool) → cond k false true ≡ true → k ≡ false
      not_so true e = absurd (cc e)
      not_so false e = refl

  fired_asks : (at : OperationNumber) → may_handle (target shapes at.object at.operation) ≡ true → (r : Answer) → is_good shapes at request.Fire r ≡ true
      → Asks shapes (λ s outcome. Unit {0}) (next_after at request.Fire r) (standing_after at (free true []) request.Fire r) (fired bodies at.object at.operation r)
  fired_asks at f (answer.Started scalars) good =
      asks_more shapes (OutcomeLeft (free true [])) (λ s outcome. Unit {0}) at (free true (at ∷ [])) (and_then (inner_at bodies at.object (outer_at bodies 15) 65 at.operation [] scalars 100000) (completes false)) (λ now outcome e. tt)
      (handles_asks at scalars at (target shapes at.object at.operation) refl f good)
  fired_asks at f r good = tt

pub bodies_ask : BodiesAskWhatFits
bodies_ask shapes bodies is_line here next outer values scalars m f = body_runs shapes bodies m is_line here next outer values scalars (target shapes here.object here.operation) refl f

pub tasks_ask : TasksAskWhatFits
tasks_ask shapes bodies actor requests next m = task_asks shapes bodies m (task_of bodies actor) requests next (task_suits shapes bodies m actor)

pub lines_ask : LinesAskWhatFits
lines_ask shapes bodies handler m f = (refl, λ r good. fired_asks shapes bodies m handler f r good)
