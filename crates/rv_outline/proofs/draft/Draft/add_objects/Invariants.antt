use Rattle.std.proofs.Common.{◌≡◌, drop}
use Rattle.rv_tree.specs.NameView.{identifiers_view}
use Rattle.rv_outline.specs.Drafts.{adding_objects}
use Rattle.rv_outline.proofs.draft.Draft.add_objects.Given as goal

abbrev pub invariant-loop-declared : goal.invariant-loop-declared
invariant-loop-declared l =
    adding_objects l.is_visible l.of (identifiers_view (drop l.declared-index l.declared-items)) l.self
    ≡ adding_objects l.is_visible l.of (identifiers_view l.declared-items) l.initial.self
