-- What comes is taken by the frame on top, and the meaning stays.
use Rattle.std.proofs.Common.{refl, sym, List}
use Rattle.rv_code.specs.Bodies.{UnitBodies}
use Rattle.rv_exec.specs.declared.setting.Setting.{Setting}
use Rattle.rv_exec.specs.Expressions.{value, linked, arguments}
use Rattle.rv_exec.specs.Statements.{step, meanings, first_true}
use Rattle.rv_exec.specs.Blocks.{inner_at, outer_at, world}
use Rattle.rv_frames.specs.Frames.{Frame, end, denoted, meant}
use Rattle.rv_frames.specs.Arrivals.{ExpressionsArrive, StatementsArrive, CallsArrive, ArrivalsKeepTheMeaning}
use Rattle.rv_frames.proofs.Asking.{associative}

pub expressions_arrive : (bodies : UnitBodies) (fs : List Frame) (s : Setting) → ExpressionsArrive bodies fs s
unfolding meant denoted value linked arguments
expressions_arrive bodies fs s = record {
  literal = λ n a. refl;
  variable = λ slot a. refl;
  component = λ index a. refl;
  prefix = λ op v a. refl;
  prefix_fails = λ op why a. refl;
  chain = λ ls v a. refl;
  chain_fails = λ ls why a. refl;
  last_link = λ v a. refl;
  operand = λ op u ls v z a is. rw is refl;
  operand_raises = λ op u ls v why a is. rw is refl;
  operand_fails = λ op u ls why a. refl;
  bounds = λ range v a. refl;
  bounds_fail = λ range why a. refl;
  argument = λ values es v a. refl;
  argument_fails = λ values es why a. refl;
  last_argument = λ values a. refl;
  arguments = λ callee values a. refl;
  arguments_fail = λ callee why a. refl;
  call = λ values a. refl;
  call_fails = λ why a. refl;
}

pub statements_arrive : (bodies : UnitBodies) (fs : List Frame) (s : Setting) → StatementsArrive bodies fs s
unfolding meant denoted first_true step meanings
statements_arrive bodies fs s = record {
  assignment = λ target v a e b is. λ i. end (denoted bodies fs s) (sym is i);
  assignment_fails = λ target why a. refl;
  branch = λ ss otherwise bs v a is. rw is refl;
  next_branch = λ ss otherwise bs v a is. rw is refl;
  branch_fails = λ ss otherwise bs why a. refl;
  last_branch = λ otherwise a. refl;
  selection = λ more v a. refl;
  selection_fails = λ more why a. refl;
  turn = λ n e ss v a b is took. rw is (rw took (associative (meanings (world bodies s) ss b) _ _));
  turn_overruns = λ n e ss v a is took. rw is (rw took refl);
  turns_over = λ n e ss v a is. rw is refl;
  next_turn = λ n e ss a. refl;
  loop_left = λ n e ss a. refl;
  loop_abandoned = λ n e ss why a. refl;
  lower_bound = λ slot is_reverse range high ss v a. associative (value (world bodies s) high a) _ _;
  statement_done = λ ss a. refl;
  statement_left = λ ss a. refl;
  statement_abandoned = λ ss why a. refl;
  last_statement = λ a. refl;
  declared = λ ss hs a. associative (meanings (world bodies s) ss a) _ _;
  handler = λ hs exception ss a is. rw is refl;
}

pub calls_arrive : (bodies : UnitBodies) (fs : List Frame) (s : Setting) → CallsArrive bodies fs s
unfolding meant denoted
calls_arrive bodies fs s = record {
  body = λ body e a. refl;
  inner_call = λ t a outcome components steps. refl;
  ask = λ callee values. refl;
  ask_settled = λ callee answer what is. rw is refl;
  ask_waits = λ callee answer is. rw is refl;
  started = λ held object operation is_function values components. associative (inner_at bodies object (outer_at bodies held) 65 operation values components 100000) _ _;
  ended = λ is_function t outcome components steps. refl;
  end = λ request outcome is. rw is refl;
  outer_call = λ a outcome. refl;
}

pub arrivals_keep_the_meaning : ArrivalsKeepTheMeaning
arrivals_keep_the_meaning bodies fs s = (expressions_arrive bodies fs s, statements_arrive bodies fs s, calls_arrive bodies fs s)
