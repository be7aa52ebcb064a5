use Rattle.std.proofs.Common.{subst}
use Rattle.rv_event.specs.declared.entry.Request.{Request}
use Rattle.rv_exec.specs.Asking.{Trace}
use Rattle.rv_flat.specs.FlatUnits.{flat_view}
use Rattle.rv_ends.specs.Afoot.{open_view}
use Rattle.rv_ends.specs.Courses.{IsWeighed}
use Rattle.rv_ends.specs.Following.{Plays, place_of}
use Rattle.rv_ends.proofs.Courses.{begin_at, course_is}
use Rattle.rv_ends.proofs.meaning.run.Goals as goal

pub returns : goal.returns
returns c =
    let body = open_view c.args.body.now in
    let shapes = c.args.catalogue.now in
    let behind = place_of c.run_again.new.following in
    let ran = c.in_ok-ended.ensures in
    let plays = subst (λ (l : Trace). Plays (record (begin_at shapes body) { asked = l }) ran.0 behind) c.as_slice.ensures.value ran.2 in
    course_is (flat_view c.args.table.now.unit) shapes body c.args.end.now c.args.is_function behind c.in_ok-ended.ended.exit c.in_ok-ended.ended.scalars ran.0 c.weighed.result
    c.requires.texts c.requires.code ran.1 plays (subst (λ (r : Request). IsWeighed behind r c.args.end.now c.weighed.result) c.end_with.ensures c.weighed.ensures)
