use Rattle.std.proofs.Common.{◌∙◌, sym, ap, subst, length, arith}
use Rattle.std.proofs.lemmas.Result.{err_from_is_err_and}
use Rattle.rv_grammar.specs.Contract.{Refuses}
use Rattle.rv_lex.specs.Lexes.{lexemes}
use Rattle.rv_tree.specs.UnitView.{unit_view}
use Rattle.rv_grammar.specs.UnitRules.{unit}
use Rattle.rv_grammar.proofs.DeepTexts.{refused_deep}
use Rattle.rv_grammar.proofs.Whole.{found_is_unit, found_is, refused}
use Rattle.rv_grammar.proofs.unit.read_words.Goals as goal

pub returns-in_err-tree-clause-complete : goal.returns-in_err-tree-clause-complete
returns-in_err-tree-clause-complete c = λ tree d.
    let p = err_from_is_err_and c.from_residual.result c.from_residual.ensures.1 in
    let refuses = subst (λ ts. Refuses c.in_err-tree.field-0.0 (unit ts)) c.new-cursor.ensures c.in_err-tree.ensures in
    rw (p.1, p.2) (refused (lexemes c.args.words.now) c.in_err-tree.field-0.0 tree refuses d)

pub returns-then-len-ne0-clause-complete : goal.returns-then-len-ne0-clause-complete
returns-then-len-ne0-clause-complete c = λ tree d.
    let read = ap unit (sym c.new-cursor.ensures) ∙ c.in_ok-tree.ensures in
    let all = (found_is (lexemes c.args.words.now) c.unit.new.tokens (unit_view c.in_ok-tree.tree) tree read d).1 in
    absurd (omega (arith, ap length all))

pub returns-clause-sound : goal.returns-clause-sound
returns-clause-sound c =
    let read = ap unit (sym c.new-cursor.ensures) ∙ c.in_ok-tree.ensures in
    found_is_unit (lexemes c.args.words.now) c.unit.new.tokens (unit_view c.in_ok-tree.tree) read (omega arith)

pub returns-clause-complete : goal.returns-clause-complete
returns-clause-complete c = λ tree d.
    let read = ap unit (sym c.new-cursor.ensures) ∙ c.in_ok-tree.ensures in
    (found_is (lexemes c.args.words.now) c.unit.new.tokens (unit_view c.in_ok-tree.tree) tree read d).0

pub returns-in_err-tree-clause-deep : goal.returns-in_err-tree-clause-deep
returns-in_err-tree-clause-deep c =
    let p = err_from_is_err_and c.from_residual.result c.from_residual.ensures.1 in
    let refuses = subst (λ ts. Refuses c.in_err-tree.field-0.0 (unit ts)) c.new-cursor.ensures c.in_err-tree.ensures in
    rw (p.1, p.2) (refused_deep (lexemes c.args.words.now) c.in_err-tree.field-0.0 refuses)
