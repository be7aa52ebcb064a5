use Rattle.std.proofs.lemmas.Result.{IfOk-weaker}
use Rattle.std.specs.Prelude.{string_bytes}
use Rattle.rv_state.proofs.Moments.{said_is}
use Rattle.rv_state.proofs.state.State.into_text.Goals as goal

pub returns : goal.returns
returns c = λ begun h follows. IfOk-weaker c.said_text.result _ _ (λ text is. said_is begun c.args.self h (string_bytes text) follows is) c.said_text.ensures
