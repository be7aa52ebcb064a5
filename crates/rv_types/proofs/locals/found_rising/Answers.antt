use Rattle.std.proofs.Common.{◌∙◌, ◌<◌, arith}
use Rattle.std.specs.Prelude.{slice_index_or}
use Rattle.rv_types.proofs.Found.{none_known, cut, front_rises, back_rises, found_one, found_in_front, found_behind}
use Rattle.rv_types.proofs.locals.found_rising.Goals as goal

pub returns-then-one-at : goal.returns-then-one-at
returns-then-one-at c =
    found_one _ _ _ c.split_at.ensures.by_index.0 _ _ (cut none_known c.split_at.result.1.now c.in-len1-up.len_at_least)
    c.args.at c.halves.invariant.0 c.if-one-at.true
    ∙ c.halves.invariant.1

pub halves-preserved-then-at-one : goal.halves-preserved-then-at-one
halves-preserved-then-at-one c = (
  front_rises _ _ _ c.split_at.ensures.by_index.0 c.halves.invariant.0,
  found_in_front _ _ _ c.split_at.ensures.by_index.0 _ _ (cut none_known c.split_at.result.1.now c.in-len1-up.len_at_least)
      c.args.at c.halves.invariant.0 c.if-at-one.true
      ∙ c.halves.invariant.1,
)

pub halves-preserved : goal.halves-preserved
halves-preserved c =
    let behind : (slice_index_or c.split_at.result.1.now 0 none_known).at < c.args.at = omega (arith, c.if-one-at.false, c.if-at-one.false) in (
      back_rises _ _ _ c.split_at.ensures.by_index.0 _ _ (cut none_known c.split_at.result.1.now c.in-len1-up.len_at_least) c.halves.invariant.0,
      found_behind _ _ _ c.split_at.ensures.by_index.0 _ _ (cut none_known c.split_at.result.1.now c.in-len1-up.len_at_least)
          c.args.at c.halves.invariant.0 behind
          ∙ c.halves.invariant.1,
    )
