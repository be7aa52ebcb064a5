use Rattle.std.proofs.Common.{◌<◌, arith, ap}
use Rattle.rv_input.specs.Coming.{Reading}
use Rattle.rv_input.proofs.Told.{byte_told}
use Rattle.rv_input.proofs.input.Input.byte.Goals as goal

pub returns-clause-comes : goal.returns-clause-comes
returns-clause-comes g c =
    let given = ap (λ (v : Reading). v.given) c.self.view_is in
    let within : c.args.self.now.given < c.args.most = omega (arith, given) in
    byte_told c.args.most _ _ _ _ _ c.take_ahead.result c.in_ok-look_ahead.ensures.ahead c.look_ahead.ensures.given c.in_ok-look_ahead.ensures.end within c.take_ahead.ensures
