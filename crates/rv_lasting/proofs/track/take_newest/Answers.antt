use Rattle.std.proofs.Common.{List, sym, ap, ◌∙◌}
use Rattle.std.specs.Prelude.{position}
use Rattle.rv_lasting.specs.Tracks.{is_of}
use Rattle.rv_lasting.specs.declared.track.Begun.{Begun}
use Rattle.rv_lasting.proofs.Places.{all_at, none_at, rest_at, taken_at}
use Rattle.rv_lasting.proofs.track.take_newest.Goals as goal

pub returns-in-Some-clause-taken : goal.returns-in-Some-clause-taken
returns-in-Some-clause-taken c =
    taken_at c.args.actor c.args.begun.now.items c.in-Some.place c.remove.result (sym (c.place_of.ensures ∙ ap (λ (xs : List Begun). position (is_of c.args.actor) xs) c.as_slice.ensures.value) ∙ c.in-Some.is) c.remove.ensures.value

pub returns-in-Some-clause-rest : goal.returns-in-Some-clause-rest
returns-in-Some-clause-rest c =
    c.remove.ensures.items ∙ rest_at c.args.actor c.args.begun.now.items c.in-Some.place (sym (c.place_of.ensures ∙ ap (λ (xs : List Begun). position (is_of c.args.actor) xs) c.as_slice.ensures.value) ∙ c.in-Some.is)

pub returns-in-None-clause-taken : goal.returns-in-None-clause-taken
returns-in-None-clause-taken c =
    sym (none_at c.args.actor c.args.begun.now.items (sym (c.place_of.ensures ∙ ap (λ (xs : List Begun). position (is_of c.args.actor) xs) c.as_slice.ensures.value) ∙ c.in-None.is))

pub returns-in-None-clause-rest : goal.returns-in-None-clause-rest
returns-in-None-clause-rest c =
    sym (all_at c.args.actor c.args.begun.now.items (sym (c.place_of.ensures ∙ ap (λ (xs : List Begun). position (is_of c.args.actor) xs) c.as_slice.ensures.value) ∙ c.in-None.is))
