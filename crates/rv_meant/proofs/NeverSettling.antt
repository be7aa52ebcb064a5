-- No run asks a settle.
use Rattle.std.proofs.Common.{◌≡◌, ℕ, zero, suc, ◌+◌, ℤ, pos, List, [], ◌∷◌, ◌++◌, Bool, true, false, cond, refl, sym, ap, ◌∙◌, subst, Option, Some, None, Ok, Err}
use Rattle.std.specs.Prelude.{◌&&◌}
use Rattle.std.specs.List.{list_all}
use Rattle.rv_event.specs.declared.entry.Answer.{Answer}
use Rattle.rv_event.specs.declared.entry.Exception.TheVariants.{ProgramError}
use Rattle.rv_event.specs.declared.entry.Request.{Request}
use Rattle.rv_event.specs.declared.entry.Request.TheVariants as request
use Rattle.rv_code.specs.declared.expression.Callee.{Callee}
use Rattle.rv_code.specs.declared.expression.Callee.TheVariants as callee
use Rattle.rv_code.specs.Bodies.{Body, UnitBodies}
use Rattle.rv_code.specs.Expressions.{Expression, literal, variable, component, prefixed, chain, within, call, Expressions, no_expressions, and_expression, Links, no_links, and_link}
use Rattle.rv_code.specs.Statements.{Statement, null_statement, assign, choice, selection, while_loop, for_loop, exit_when, returns, returns_value, raises, reraises, calls, Statements, no_statements, and_statement, Branches, no_branches, and_branch, Alternatives, no_alternatives, and_alternative}
use Rattle.rv_fits.specs.Calls.{expression_calls, expressions_call, links_call, statement_calls, statements_call, branches_call, alternatives_call, declaration_calls, handler_calls, body_calls, object_calls, task_calls, objects_call, every_call}
use Rattle.rv_exec.specs.declared.end.Asked.{Asked}
use Rattle.rv_exec.specs.declared.end.Asked.TheVariants as asked
use Rattle.rv_exec.specs.declared.end.Cause.TheVariants as cause
use Rattle.rv_exec.specs.declared.end.Reply.{Reply}
use Rattle.rv_exec.specs.declared.end.Reply.TheVariants as reply
use Rattle.rv_exec.specs.Asking.{Trace, Asking, ended, asking, Along}
use Rattle.rv_exec.specs.Blocks.{exits}
use Rattle.rv_exec.specs.Bodies.{task_of}
use Rattle.rv_exec.specs.Calls.{Outcome, request_of, replied, resumed, settled, asks, is_past, reached, exit_of, completed, is_stuck, end_of, completes}
use Rattle.rv_exec.specs.Tasks.{quits}
use Rattle.rv_exec.proofs.Keeping.{How, ongoing, halted, stuck, how_got, how_result, Kept, Follows}
use Rattle.rv_exec.proofs.KeptBodies.{task_found}
use Rattle.rv_exec.proofs.KeptRuns.{KeptOutside, how_ended, how_exit, body_kept, task_kept}
use Rattle.rv_meant.specs.Settles.{is_settle, NeverSettles, BodiesNeverSettle, TasksNeverSettle}

pub settles_both : (p q : Trace) → NeverSettles p → NeverSettles q → NeverSettles (p ++ q)
settles_both [] q f g = g
settles_both (pair ∷ p) q f g = (f.0, settles_both p q f.1 g)

-- Whatever is called is such, where such is anything

abbrev anything : Callee → Bool
anything c = true

both_true : (b c : Bool) → b ≡ true → c ≡ true → (b && c) ≡ true
both_true b c e f = λ i. e i && f i

all_true : {A : Type 0} (p : A → Bool) → ((x : A) → p x ≡ true) → (xs : List A) → list_all p xs ≡ true
all_true p f [] = refl
all_true p f (x ∷ xs) = both_true (p x) (list_all p xs) (f x) (all_true p f xs)

mutual
  expression_true : (e : Expression) → expression_calls anything e ≡ true
  expression_true (prefixed op e) = expression_true e
  expression_true (chain e ls) = both_true (expression_calls anything e) (links_call anything ls) (expression_true e) (links_true ls)
  expression_true (within range e) = expression_true e
  expression_true (call c es) = expressions_true es
  expression_true other = refl

  expressions_true : (es : Expressions) → expressions_call anything es ≡ true
  expressions_true no_expressions = refl
  expressions_true (and_expression e es) = both_true (expression_calls anything e) (expressions_call anything es) (expression_true e) (expressions_true es)

  links_true : (ls : Links) → links_call anything ls ≡ true
  links_true no_links = refl
  links_true (and_link op e ls) = both_true (expression_calls anything e) (links_call anything ls) (expression_true e) (links_true ls)

mutual
  statement_true : (s : Statement) → statement_calls anything s ≡ true
  statement_true null_statement = refl
  statement_true (assign target e) = expression_true e
  statement_true (choice bs otherwise) = both_true (branches_call anything bs) (statements_call anything otherwise) (branches_true bs) (statements_true otherwise)
  statement_true (selection e others) = both_true (expression_calls anything e) (alternatives_call anything others) (expression_true e) (alternatives_true others)
  statement_true (while_loop e ss) = both_true (expression_calls anything e) (statements_call anything ss) (expression_true e) (statements_true ss)
  statement_true (for_loop parameter is_reverse range low high ss) =
      both_true (expression_calls anything low && expression_calls anything high) (statements_call anything ss)
      (both_true (expression_calls anything low) (expression_calls anything high) (expression_true low) (expression_true high)) (statements_true ss)
  statement_true (exit_when e) = expression_true e
  statement_true returns = refl
  statement_true (returns_value e) = expression_true e
  statement_true (raises exception) = refl
  statement_true reraises = refl
  statement_true (calls c es targets) = expressions_true es

  statements_true : (ss : Statements) → statements_call anything ss ≡ true
  statements_true no_statements = refl
  statements_true (and_statement s ss) = both_true (statement_calls anything s) (statements_call anything ss) (statement_true s) (statements_true ss)

  branches_true : (bs : Branches) → branches_call anything bs ≡ true
  branches_true no_branches = refl
  branches_true (and_branch e ss bs) =
      both_true (expression_calls anything e && statements_call anything ss) (branches_call anything bs)
      (both_true (expression_calls anything e) (statements_call anything ss) (expression_true e) (statements_true ss)) (branches_true bs)

  alternatives_true : (others : Alternatives) → alternatives_call anything others ≡ true
  alternatives_true no_alternatives = refl
  alternatives_true (and_alternative choices ss others) = both_true (statements_call anything ss) (alternatives_call anything others) (statements_true ss) (alternatives_true others)

body_true : (b : Body) → body_calls anything b ≡ true
body_true b =
    both_true (list_all (declaration_calls anything) b.declarations) (statements_call anything b.statements && list_all (handler_calls anything) b.handlers)
    (all_true (declaration_calls anything) (λ d. expression_true d.initial) b.declarations)
    (both_true (statements_call anything b.statements) (list_all (handler_calls anything) b.handlers) (statements_true b.statements)
    (all_true (handler_calls anything) (λ h. statements_true h.statements) b.handlers))

task_true : (o : Option Body) → task_calls anything o ≡ true
task_true None = refl
task_true (Some b) = body_true b

objects_true : (number : ℕ) (objects : List (List Body)) → objects_call anything number objects ≡ true
objects_true number [] = refl
objects_true number (bodies ∷ objects) =
    both_true (object_calls anything bodies) (objects_call anything (number + 1) objects) (all_true (body_calls anything) body_true bodies) (objects_true (number + 1) objects)

every_true : (bodies : UnitBodies) → every_call anything bodies ≡ true
every_true bodies =
    both_true (objects_call anything 1 bodies.objects) (list_all (task_calls anything) bodies.tasks)
    (objects_true 1 bodies.objects) (all_true (task_calls anything) task_true bodies.tasks)

-- it is kept of all traces of a run, also behind a stop
abbrev never : Kept
never = record {
  such = anything;
  holds = λ trace how. NeverSettles trace;
  behind = λ k trace how. NeverSettles trace;
  nothing = tt;
  both = λ first second how f g. settles_both first second f g;
  stays = λ k first second how e f g. settles_both first second f g;
  at_once = λ k. tt;
}

-- What is asked

abbrev Never : {A : Type 0} → Asking A → Type 0
Never {A = A} what = (trace : Trace) (a : A) → Along what trace a → NeverSettles trace

never_ended : {A : Type 0} (a : A) → Never (ended a)
never_ended a [] b h = tt
never_ended a (pair ∷ more) b h = absurd h

never_asking : {A : Type 0} (q : Request) (next : Answer → Asking A) → is_settle q ≡ false → ((r : Answer) → Never (next r)) → Never (asking q next)
never_asking q next is f [] b h = absurd h
never_asking q next is f (pair ∷ more) b h = (ap is_settle (sym h.0) ∙ is, f pair.1 more b h.1)

never_if : {A : Type 0} (k : Bool) (one other : Asking A) → Never one → Never other → Never (cond k one other)
never_if true one other f g = f
never_if false one other f g = g

-- Calls of other objects

callee_settles : (c : Callee) (values : List ℤ) → is_settle (request_of c values) ≡ false
callee_settles (callee.Internal p) values = refl
callee_settles c values = refl

never_settled : (c : Callee) (how : Reply) → Never (settled c how)
never_settled c (reply.Settled what) = never_ended what
never_settled c reply.Waits = never_asking request.Resume (λ r. ended (resumed c r)) refl (λ r. never_ended (resumed c r))

never_asks : (c : Callee) (values : List ℤ) → Never (asks c values)
never_asks c values = never_asking (request_of c values) (λ r. settled c (replied c r)) (callee_settles c values) (λ r. never_settled c (replied c r))

never_reached : (held : ℕ) (c : Callee) (values : List ℤ) → Never (reached held c values)
unfolding reached
never_reached held c values =
    never_if (is_past held c) (ended (asked.Abandoned (cause.Raised ProgramError))) (asks c values) (never_ended (asked.Abandoned (cause.Raised ProgramError))) (never_asks c values)

end_settles : (is_function : Bool) (outcome : Outcome) (components : List ℤ) → is_settle (end_of is_function outcome components) ≡ false
end_settles true outcome components = refl
end_settles false outcome components = refl

never_completes : (is_function : Bool) (got : Outcome × (List ℤ × ℕ)) → Never (completes is_function got)
never_completes is_function (outcome, (components, steps)) =
    never_if (is_stuck outcome) (ended outcome) (asking (end_of is_function outcome components) (λ r. ended (completed outcome r))) (never_ended outcome)
    (never_asking (end_of is_function outcome components) (λ r. ended (completed outcome r)) (end_settles is_function outcome components) (λ r. never_ended (completed outcome r)))

-- Bodies, and tasks

never_exits : (got : Outcome × (List ℤ × ℕ)) → Never (exits got)
never_exits (outcome, (components, steps)) = never_ended (exit_of outcome, components)

never_quits : (outcome : Outcome) → Never (quits outcome)
never_quits outcome =
    never_if (is_stuck outcome) (ended (exit_of outcome)) (asking request.Quit (λ r. ended (exit_of outcome))) (never_ended (exit_of outcome))
    (never_asking request.Quit (λ r. ended (exit_of outcome)) refl (λ r. never_ended (exit_of outcome)))

-- so it is kept of what follows, behind a stop too
never_follows : {A : Type 0} (k : How) (how : A → How) (what : Asking A) → Never what → Follows never k how what
never_follows ongoing how what f = f
never_follows halted how what f = f
never_follows stuck how what f = f

outside : KeptOutside never
outside = record {
  asks = λ held c values n m. never_reached held c values;
  ends = λ is_function got. never_follows (how_got got) how_result (completes is_function got) (never_completes is_function got);
  leaves = λ got. never_follows (how_got got) how_ended (exits got) (never_exits got);
  stops = λ outcome. never_follows (how_result outcome) how_exit (quits outcome) (never_quits outcome);
}

pub bodies_never_settle : BodiesNeverSettle
bodies_never_settle bodies held object operation values components left trace exit h = body_kept never outside bodies (every_true bodies) held object operation values components trace (exit, left) h

pub tasks_never_settle : TasksNeverSettle
tasks_never_settle bodies actor requests trace exit h = task_kept never outside bodies (every_true bodies) (task_of bodies actor) requests (task_found anything bodies actor (every_true bodies)) trace exit h
