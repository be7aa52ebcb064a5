use Rattle.std.proofs.Common.{arith}
use Rattle.std.specs.Prelude.{string_bytes}
use Rattle.rv_tallied.specs.Tallies.{kept_for}
use Rattle.rv_tallied.proofs.Rowing.{row_more}
use Rattle.rv_tallied.proofs.rows.put_rows.Goals as goal

pub loop-words-preserved : goal.loop-words-preserved
loop-words-preserved c =
    row_more string_bytes c.args.how.now (kept_for c.args.tallies.now) c.args.seen.now c.loop-words.words-index c.words-item.result c.as_str-words.result.now c.of.result (string_bytes c.args.text.now) (string_bytes c.loop-words.text) (string_bytes c.put_row.new.text)
    (omega arith) c.words-item.is c.as_str-words.ensures.value c.of.ensures c.loop-words.invariant c.in_ok-put_row.ensures
