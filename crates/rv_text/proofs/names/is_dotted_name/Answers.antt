use Rattle.std.proofs.Common.{arith}
use Rattle.rv_text.proofs.DottedName.{tested, front_differs, dot_missing, behind_decides}
use Rattle.rv_text.proofs.names.is_dotted_name.Goals as goal

pub returns-then-not-eq_ignore_ascii_case : goal.returns-then-not-eq_ignore_ascii_case
returns-then-not-eq_ignore_ascii_case c =
    front_differs c.args.word.now c.args.unit.now c.args.name.now c.split_at.result.0.now c.split_at.result.1.now c.eq_ignore_ascii_case.result
    (omega arith) (rw (← c.as_bytes-bytes.ensures.value) c.split_at.ensures.front) (rw (← c.as_bytes-bytes.ensures.value) c.split_at.ensures.back)
    (rw (← c.as_bytes.ensures.value) (tested _ _ _ c.eq_ignore_ascii_case.ensures.test)) c.if-not-eq_ignore_ascii_case.true

pub returns-then-back-ne46 : goal.returns-then-back-ne46
returns-then-back-ne46 c =
    dot_missing c.args.word.now c.args.unit.now c.args.name.now c.split_at.result.0.now c.split_at.result.1.now
    (omega arith) (rw (← c.as_bytes-bytes.ensures.value) c.split_at.ensures.front) (rw (← c.as_bytes-bytes.ensures.value) c.split_at.ensures.back)
    c.if-back-ne46.true

pub returns : goal.returns
returns c =
    behind_decides c.args.word.now c.args.unit.now c.args.name.now c.split_at.result.0.now c.split_at.result.1.now c.split_at-2.result.1.now
    c.eq_ignore_ascii_case.result c.eq_ignore_ascii_case-2.result
    (omega arith) (rw (← c.as_bytes-bytes.ensures.value) c.split_at.ensures.front) (rw (← c.as_bytes-bytes.ensures.value) c.split_at.ensures.back)
    (rw (← c.as_bytes.ensures.value) (tested _ _ _ c.eq_ignore_ascii_case.ensures.test)) c.if-not-eq_ignore_ascii_case.false c.if-back-ne46.false
    c.split_at-2.ensures.back (rw (← c.as_bytes-2.ensures.value) (tested _ _ _ c.eq_ignore_ascii_case-2.ensures.test))
