use Rattle.std.proofs.Common.{◌≡◌, ℕ, List, take, sym, subst}
use Rattle.std.specs.Prelude.{IfSome}
use Rattle.rv_fault.proofs.Scripts.{script_read}
use Rattle.rv_check.specs.Scripts.{outcome_when}
use Rattle.rv_check.proofs.Checked.{failed_unread, keeps_none}
use Rattle.rv_check.proofs.Judged.{nothing_begins}
use Rattle.rv_check.proofs.reading.check_kept.Goals as goal

pub returns-in-Ok-clause-told : goal.returns-in-Ok-clause-told
returns-in-Ok-clause-told g c =
    let known = g.R.Read.remaining c.args.reader.now in
    let read : IfSome known (λ input. c.as_slice.result.now ≡ take 16777217 input) =
    subst (λ (bytes : List ℕ). IfSome known (λ input. bytes ≡ take 16777217 input)) (sym c.as_slice.ensures.value) c.in-Ok.ensures.bytes in
    script_read _ _ known _ c.as_slice.result.now _ read c.check_bytes-done.ensures

pub returns-in-Err-clause-told : goal.returns-in-Err-clause-told
returns-in-Err-clause-told g c = failed_unread (outcome_when c.args.is_whole) (g.W.Write.contents c.args.writer.now) _ c.in-Err.error c.from.result (nothing_begins c.args.is_whole) c.from.ensures

pub returns-in-Err-clause-kept : goal.returns-in-Err-clause-kept
returns-in-Err-clause-kept g c = keeps_none _ _ c.in-Err.error c.from.result c.from.ensures
