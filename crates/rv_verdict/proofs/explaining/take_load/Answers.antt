use Rattle.std.proofs.Common.{◌∙◌, List, Option, ap, subst, sym, ℕ}
use Rattle.rv_code.specs.BodyView.{unit_view}
use Rattle.rv_ends.specs.Tally.{TakesLoad}
use Rattle.rv_verdict.specs.Explaining.{TakesLoadOf}
use Rattle.rv_verdict.specs.Texts.{HasBodies, text_named, texts_now}
use Rattle.rv_verdict.proofs.Followed.{load_taken, no_unit_taken, on_ok}
use Rattle.rv_verdict.proofs.explaining.take_load.Goals as goal

pub returns-in_default : goal.returns-in_default
returns-in_default c = no_unit_taken c.args.tally.now c.args.tally.now c.args.units.now (texts_now c.args.texts.now) c.args.catalogue.now c.args.name.now (sym c.in_default.ensures)

pub returns : goal.returns
returns c =
    let o = c.args.tally.now in
    let n = c.load.new.self in
    let units = c.args.units.now in
    let texts = texts_now c.args.texts.now in
    let behind = c.args.catalogue.now in
    let shape = c.in-Some.shape.now in
    let bodies = unit_view c.in_ok-bodies.bodies in
    let has = subst (λ (text : Option (List ℕ)). HasBodies text behind shape bodies) (c.text_named-text.ensures ∙ ap (λ (name : List ℕ). text_named units texts name) c.name.ensures) c.in_ok-bodies.ensures in
    on_ok c.load.result (TakesLoad o n bodies) (TakesLoadOf o n units texts behind c.args.name.now) (load_taken o n units texts behind c.args.name.now shape bodies (sym c.in-Some.ensures) has) c.load.ensures
