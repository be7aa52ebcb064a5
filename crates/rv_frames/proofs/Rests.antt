-- The rest of what comes is taken by the frame on top, and the meaning stays.
use Rattle.std.proofs.Common.{◌≡◌, refl, sym, ap, ◌∙◌, true, false, List}
use Rattle.rv_code.specs.Bodies.{UnitBodies}
use Rattle.rv_exec.specs.declared.activation.Activation.{Activation}
use Rattle.rv_exec.specs.declared.setting.Setting.{Setting}
use Rattle.rv_exec.specs.declared.end.End.{End}
use Rattle.rv_exec.specs.declared.end.End.TheVariants as ends
use Rattle.rv_exec.specs.Asking.{ended, and_then}
use Rattle.rv_exec.specs.World.{Run}
use Rattle.rv_exec.specs.Statements.{go_on, meanings}
use Rattle.rv_exec.specs.Blocks.{elaborated, handled, world}
use Rattle.rv_frames.specs.Frames.{Frame, end, denoted, meant}
use Rattle.rv_frames.specs.Rests.{is_next, LoopsRest, StatementsRest, CallsRest, RestsKeepTheMeaning}

pub loops_rest : (bodies : UnitBodies) (fs : List Frame) (s : Setting) → LoopsRest bodies fs s
unfolding meant denoted
loops_rest bodies fs s = record {
  condition_fails = λ n e ss why a. refl;
  turn_returns = λ n e ss v a. refl;
  lower_bound_fails = λ slot is_reverse range high ss why a. refl;
  null_range = λ slot is_reverse range low high ss a is. rw is refl;
  values = λ slot is_reverse range low high ss a is fit. rw is (rw fit refl);
  range_raises = λ slot is_reverse range low high ss a is fit. rw is (rw fit refl);
  upper_bound_fails = λ slot is_reverse range low ss why a. refl;
  next_value = λ n is_reverse low high slot ss a. refl;
  values_left = λ n is_reverse low high slot ss a. refl;
  value_returns = λ n is_reverse low high slot ss v a. refl;
  value_abandoned = λ n is_reverse low high slot ss why a. refl;
}

-- behind an end that isn't Next nothing goes on
goes_off : (go : Activation → Run) (e : End) (a : Activation) → is_next e ≡ false → go_on go (e, a) ≡ ended (e, a)
goes_off go ends.Next a is = absurd (cc is)
goes_off go ends.Exit a is = refl
goes_off go (ends.Return v) a is = refl
goes_off go (ends.Abandoned why) a is = refl

goes_on : (go : Activation → Run) (e : End) (a : Activation) → is_next e ≡ true → go_on go (e, a) ≡ go a
goes_on go ends.Next a is = refl
goes_on go ends.Exit a is = absurd (cc is)
goes_on go (ends.Return v) a is = absurd (cc is)
goes_on go (ends.Abandoned why) a is = absurd (cc is)

pub statements_rest : (bodies : UnitBodies) (fs : List Frame) (s : Setting) → StatementsRest bodies fs s
unfolding meant denoted
statements_rest bodies fs s = record {
  exit = λ v a. refl;
  exit_fails = λ why a. refl;
  return = λ v a. refl;
  return_fails = λ why a. refl;
  copied = λ targets values a e b is. λ i. end (denoted bodies fs s) (sym is i);
  copy_fails = λ targets why a. refl;
  statement_ends = λ ss e a is. ap (λ (x : Run). and_then x (end (denoted bodies fs s))) (goes_off (meanings (world bodies s) ss) e a is);
  declaration = λ target more v a e b is next. ap (λ (x : End × Activation). and_then (go_on (elaborated (world bodies s) more) x) (end (denoted bodies fs s))) (sym is) ∙ ap (λ (x : Run). and_then x (end (denoted bodies fs s))) (goes_on (elaborated (world bodies s) more) e b next);
  declaration_ends = λ target more v a e b is next. ap (λ (x : End × Activation). and_then (go_on (elaborated (world bodies s) more) x) (end (denoted bodies fs s))) (sym is) ∙ ap (λ (x : Run). and_then x (end (denoted bodies fs s))) (goes_off (elaborated (world bodies s) more) e b next);
  declaration_fails = λ target more why a. refl;
  not_opened = λ ss hs e a is. ap (λ (x : Run). and_then x (end (denoted bodies fs s))) (goes_off (λ b. and_then (meanings (world bodies s) ss b) (handled (world bodies s) hs)) e a is);
  not_raised = λ hs e a is. rw is refl;
  unhandled = λ hs e exception a raises is. rw raises (rw is refl);
  handled = λ hs e exception ss a raises is. rw raises (rw is refl);
  restored = λ exception now. refl;
}

pub calls_rest : (bodies : UnitBodies) (fs : List Frame) (s : Setting) → CallsRest bodies fs s
unfolding meant denoted
calls_rest bodies fs s = record {
  given = λ held values given. refl;
  abandoned = λ held values why. refl;
  started_past = λ object operation is_function values components. refl;
  exit = λ outcome components steps. refl;
  task = λ body e a. refl;
  over = λ now. refl;
}

pub rests_keep_the_meaning : RestsKeepTheMeaning
rests_keep_the_meaning bodies fs s = (loops_rest bodies fs s, statements_rest bodies fs s, calls_rest bodies fs s)
