use Rattle.std.proofs.Common.{◌≡◌, ℕ, List, Err, take, sym, subst}
use Rattle.std.specs.Prelude.{IfSome}
use Rattle.std.proofs.lemmas.Result.{err_from_is_err_and}
use Rattle.rv_fault.specs.Faults.{fault_of}
use Rattle.rv_fault.specs.declared.failure.Failure.TheVariants.{Refused}
use Rattle.rv_fault.proofs.Scripts.{script_read, script_refused, script_written}
use Rattle.rv_play.specs.Scripted.{outcome_of}
use Rattle.rv_play.proofs.Beginning.{read_failed}
use Rattle.rv_play.proofs.play.play_counted.Goals as goal

pub returns-in_err-bytes : goal.returns-in_err-bytes
returns-in_err-bytes g c =
    let p = err_from_is_err_and c.from_residual.result c.from_residual.ensures.1 in
    rw (p.1, p.2) (read_failed c.args.all _ _ _)

pub returns-in_err-text : goal.returns-in_err-text
returns-in_err-text g c =
    let p = err_from_is_err_and c.from_residual-in_err-text.result c.from_residual-in_err-text.ensures.1 in
    let old = g.W.Write.contents c.args.writer.now in
    let known = g.R.Read.remaining c.args.reader.now in
    let read = subst (λ (bytes : List ℕ). IfSome known (λ input. bytes ≡ take 16777217 input)) (sym c.as_slice.ensures.value) c.in_ok-bytes.ensures.bytes in
    rw (p.1, p.2) (script_read old old known (outcome_of c.args.all) c.as_slice.result.now (Err (Refused (fault_of c.in_err-text.field-0.0))) read (script_refused old (outcome_of c.args.all) c.as_slice.result.now _ c.in_err-text.ensures.err))

pub returns : goal.returns
returns g c =
    let old = g.W.Write.contents c.args.writer.now in
    let new = g.W.Write.contents c.play_text.new.writer in
    let known = g.R.Read.remaining c.args.reader.now in
    let read = subst (λ (bytes : List ℕ). IfSome known (λ input. bytes ≡ take 16777217 input)) (sym c.as_slice.ensures.value) c.in_ok-bytes.ensures.bytes in
    script_read old new known (outcome_of c.args.all) c.as_slice.result.now c.play_text.result read
    (script_written old new (outcome_of c.args.all) c.as_slice.result.now c.in_ok-text.text.now c.play_text.result c.in_ok-text.ensures.ok c.play_text.ensures)
