use Rattle.std.proofs.Common.{◌≡◌, drop}
use Rattle.rv_tree.specs.NameView.{identifiers_view}
use Rattle.rv_outline.specs.Drafts.{adding_components}
use Rattle.rv_outline.proofs.draft.Draft.add_components.Given as goal

abbrev pub invariant-loop-declared : goal.invariant-loop-declared
invariant-loop-declared l =
    adding_components (identifiers_view (drop l.declared-index l.declared-items)) l.component l.self
    ≡ adding_components (identifiers_view l.declared-items) l.component l.initial.self
