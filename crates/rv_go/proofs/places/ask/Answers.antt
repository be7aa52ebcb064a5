use Rattle.std.proofs.Common.{ℕ, sym, subst, ◌∙◌, Some}
use Rattle.std.specs.Prelude.{◌≡◌, IfOk}
use Rattle.rv_flat.specs.FlatUnits.{flat_view}
use Rattle.rv_go.specs.Runs.{asked_by, settled, IsText}
use Rattle.rv_go.proofs.Keeping.{actor_at, listens_at, whole_at, kept_set}
use Rattle.rv_go.proofs.places.ask.Goals as goal

pub returns-in_err-reach-clause-kept : goal.returns-in_err-reach-clause-kept
returns-in_err-reach-clause-kept c = c.reach.ensures.kept c.args.budget c.args.awaited c.args.heard.now.items (Some c.args.running.now) c.requires.kept

pub asks-requires-clause-listens : goal.asks-requires-clause-listens
asks-requires-clause-listens c =
    let running = Some c.args.running.now in
    let heard = c.args.heard.now.items in
    listens_at c.args.budget c.args.awaited heard running c.reach.new.listeners.items c.args.actor c.index_mut.result.now c.in_ok-reach.ensures.there c.index_mut.ensures.value
    (c.reach.ensures.kept c.args.budget c.args.awaited heard running c.requires.kept)

pub asks-requires-clause-text : goal.asks-requires-clause-text
asks-requires-clause-text c =
    let running = Some c.args.running.now in
    let heard = c.args.heard.now.items in
    subst (λ (a : ℕ). IsText a c.args.text) (sym (actor_at c.args.budget c.args.awaited heard running c.reach.new.listeners.items c.args.actor c.index_mut.result.now c.in_ok-reach.ensures.there c.index_mut.ensures.value
    (c.reach.ensures.kept c.args.budget c.args.awaited heard running c.requires.kept))) c.requires.text

pub returns-clause-asked : goal.returns-clause-asked
returns-clause-asked c =
    let running = Some c.args.running.now in
    let heard = c.args.heard.now.items in
    subst (λ (a : ℕ). IfOk c.asks.result (λ asked. asked ≡ asked_by (flat_view c.args.running.now.table) c.args.budget c.args.text (settled a heard))) (actor_at c.args.budget c.args.awaited heard running c.reach.new.listeners.items c.args.actor c.index_mut.result.now c.in_ok-reach.ensures.there c.index_mut.ensures.value
    (c.reach.ensures.kept c.args.budget c.args.awaited heard running c.requires.kept)) c.asks.ensures.asked

pub returns-clause-kept : goal.returns-clause-kept
returns-clause-kept c =
    let running = Some c.args.running.now in
    let heard = c.args.heard.now.items in
    let ls = c.reach.new.listeners.items in
    let there = c.in_ok-reach.ensures.there in
    let kept = c.reach.ensures.kept c.args.budget c.args.awaited heard running c.requires.kept in
    kept_set c.args.budget c.args.awaited heard running ls c.args.actor c.asks.new.self there
    (c.asks.ensures.actor ∙ actor_at c.args.budget c.args.awaited heard running ls c.args.actor c.index_mut.result.now there c.index_mut.ensures.value kept) c.asks.ensures.listens
    (whole_at c.args.budget c.args.awaited heard running ls c.args.actor c.index_mut.result.now c.asks.new.self there c.index_mut.ensures.value c.asks.ensures.actor c.asks.ensures.kept kept) kept
