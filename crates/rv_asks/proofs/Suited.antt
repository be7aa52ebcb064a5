-- Code whose calls fit and whose values are ranged.
use Rattle.std.proofs.Common.{◌≡◌, Bool, true, List, [], ◌∷◌}
use Rattle.std.specs.List.{list_all}
use Rattle.std.specs.Prelude.{◌&&◌, nat_le, length}
use Rattle.rv_shape.specs.Shape.{Shape}
use Rattle.rv_code.specs.declared.expression.Callee.{Callee}
use Rattle.rv_code.specs.Expressions.{Expression, literal, variable, component, prefixed, chain, within, call, Expressions, no_expressions, and_expression, Links, no_links, and_link}
use Rattle.rv_code.specs.Statements.{Statement, null_statement, assign, choice, selection, while_loop, for_loop, exit_when, returns, returns_value, raises, reraises, calls, Statements, no_statements, and_statement, Branches, no_branches, and_branch, Alternatives, no_alternatives, and_alternative}
use Rattle.rv_code.specs.Bodies.{Declaration, Handler, Body}
use Rattle.rv_fits.specs.Calls.{expression_calls, expressions_call, links_call, statement_calls, statements_call, branches_call, alternatives_call, declaration_calls, handler_calls, body_calls}
use Rattle.rv_fits.proofs.Both.{first_of_both, second_of_both}
use Rattle.rv_ranged.specs.Ranged.{Stand, suit, expression_ranged, expressions_ranged, links_ranged, target_keeps, result_given, statement_ranged, statements_ranged, branches_ranged, alternatives_ranged, declaration_ranged, handler_ranged, body_ranged}

module _ (shapes : List Shape) (such : Callee → Bool) (s : Stand) where
  abbrev mutual
    pub ExpressionSuits : Expression → Type 0
    ExpressionSuits (literal n) = Unit {0}
    ExpressionSuits (variable slot) = Unit {0}
    ExpressionSuits (component index) = Unit {0}
    ExpressionSuits (prefixed op e) = ExpressionSuits e
    ExpressionSuits (chain e ls) = ExpressionSuits e × LinksSuit ls
    ExpressionSuits (within range e) = ExpressionSuits e
    ExpressionSuits (call c es) = (such c ≡ true) × (suit shapes s.operations c es ≡ true) × ExpressionsSuit es

    pub ExpressionsSuit : Expressions → Type 0
    ExpressionsSuit no_expressions = Unit {0}
    ExpressionsSuit (and_expression e es) = ExpressionSuits e × ExpressionsSuit es

    pub LinksSuit : Links → Type 0
    LinksSuit no_links = Unit {0}
    LinksSuit (and_link op e ls) = ExpressionSuits e × LinksSuit ls

  abbrev mutual
    pub StatementSuits : Statement → Type 0
    StatementSuits null_statement = Unit {0}
    StatementSuits (assign target e) = (target_keeps s target ≡ true) × ExpressionSuits e
    StatementSuits (choice bs otherwise) = BranchesSuit bs × StatementsSuit otherwise
    StatementSuits (selection e more) = ExpressionSuits e × AlternativesSuit more
    StatementSuits (while_loop e ss) = ExpressionSuits e × StatementsSuit ss
    StatementSuits (for_loop slot is_reverse range low high ss) =
        (nat_le (length s.parameters) slot ≡ true) × ExpressionSuits low × ExpressionSuits high × StatementsSuit ss
    StatementSuits (exit_when e) = ExpressionSuits e
    StatementSuits returns = Unit {0}
    StatementSuits (returns_value e) = (result_given s.result e ≡ true) × ExpressionSuits e
    StatementSuits (raises exception) = Unit {0}
    StatementSuits reraises = Unit {0}
    StatementSuits (calls c es targets) =
        (such c ≡ true) × (suit shapes s.operations c es ≡ true) × ExpressionsSuit es × (list_all (target_keeps s) targets ≡ true)

    pub StatementsSuit : Statements → Type 0
    StatementsSuit no_statements = Unit {0}
    StatementsSuit (and_statement one more) = StatementSuits one × StatementsSuit more

    pub BranchesSuit : Branches → Type 0
    BranchesSuit no_branches = Unit {0}
    BranchesSuit (and_branch e ss bs) = ExpressionSuits e × StatementsSuit ss × BranchesSuit bs

    pub AlternativesSuit : Alternatives → Type 0
    AlternativesSuit no_alternatives = Unit {0}
    AlternativesSuit (and_alternative choices ss more) = StatementsSuit ss × AlternativesSuit more

  mutual
    pub expression_suits : (e : Expression) → expression_calls such e ≡ true → expression_ranged shapes s e ≡ true → ExpressionSuits e
    expression_suits (literal n) m r = tt
    expression_suits (variable slot) m r = tt
    expression_suits (component index) m r = tt
    expression_suits (prefixed op e) m r = expression_suits e m r
    expression_suits (chain e ls) m r = (
      expression_suits e (first_of_both (expression_calls such e) (links_call such ls) m) (first_of_both (expression_ranged shapes s e) (links_ranged shapes s ls) r),
      links_suit ls (second_of_both (expression_calls such e) (links_call such ls) m) (second_of_both (expression_ranged shapes s e) (links_ranged shapes s ls) r),
    )
    expression_suits (within range e) m r = expression_suits e m r
    expression_suits (call c es) m r = (
      first_of_both (such c) (expressions_call such es) m,
      first_of_both (suit shapes s.operations c es) (expressions_ranged shapes s es) r,
      expressions_suit es (second_of_both (such c) (expressions_call such es) m) (second_of_both (suit shapes s.operations c es) (expressions_ranged shapes s es) r),
    )

    expressions_suit : (es : Expressions) → expressions_call such es ≡ true → expressions_ranged shapes s es ≡ true → ExpressionsSuit es
    expressions_suit no_expressions m r = tt
    expressions_suit (and_expression e es) m r = (
      expression_suits e (first_of_both (expression_calls such e) (expressions_call such es) m) (first_of_both (expression_ranged shapes s e) (expressions_ranged shapes s es) r),
      expressions_suit es (second_of_both (expression_calls such e) (expressions_call such es) m) (second_of_both (expression_ranged shapes s e) (expressions_ranged shapes s es) r),
    )

    links_suit : (ls : Links) → links_call such ls ≡ true → links_ranged shapes s ls ≡ true → LinksSuit ls
    links_suit no_links m r = tt
    links_suit (and_link op e ls) m r = (
      expression_suits e (first_of_both (expression_calls such e) (links_call such ls) m) (first_of_both (expression_ranged shapes s e) (links_ranged shapes s ls) r),
      links_suit ls (second_of_both (expression_calls such e) (links_call such ls) m) (second_of_both (expression_ranged shapes s e) (links_ranged shapes s ls) r),
    )

  mutual
    statement_suits : (x : Statement) → statement_calls such x ≡ true → statement_ranged shapes s x ≡ true → StatementSuits x
    statement_suits null_statement m r = tt
    statement_suits (assign target e) m r =
        (first_of_both (target_keeps s target) (expression_ranged shapes s e) r, expression_suits e m (second_of_both (target_keeps s target) (expression_ranged shapes s e) r))
    statement_suits (choice bs otherwise) m r = (
      branches_suit bs (first_of_both (branches_call such bs) (statements_call such otherwise) m) (first_of_both (branches_ranged shapes s bs) (statements_ranged shapes s otherwise) r),
      statements_suit otherwise (second_of_both (branches_call such bs) (statements_call such otherwise) m) (second_of_both (branches_ranged shapes s bs) (statements_ranged shapes s otherwise) r),
    )
    statement_suits (selection e more) m r = (
      expression_suits e (first_of_both (expression_calls such e) (alternatives_call such more) m) (first_of_both (expression_ranged shapes s e) (alternatives_ranged shapes s more) r),
      alternatives_suit more (second_of_both (expression_calls such e) (alternatives_call such more) m) (second_of_both (expression_ranged shapes s e) (alternatives_ranged shapes s more) r),
    )
    statement_suits (while_loop e ss) m r = (
      expression_suits e (first_of_both (expression_calls such e) (statements_call such ss) m) (first_of_both (expression_ranged shapes s e) (statements_ranged shapes s ss) r),
      statements_suit ss (second_of_both (expression_calls such e) (statements_call such ss) m) (second_of_both (expression_ranged shapes s e) (statements_ranged shapes s ss) r),
    )
    statement_suits (for_loop slot is_reverse range low high ss) m r =
        let bounds = first_of_both (expression_calls such low && expression_calls such high) (statements_call such ss) m in
        let behind = second_of_both (nat_le (length s.parameters) slot) (expression_ranged shapes s low && (expression_ranged shapes s high && statements_ranged shapes s ss)) r in
        let last = second_of_both (expression_ranged shapes s low) (expression_ranged shapes s high && statements_ranged shapes s ss) behind in (
          first_of_both (nat_le (length s.parameters) slot) (expression_ranged shapes s low && (expression_ranged shapes s high && statements_ranged shapes s ss)) r,
          expression_suits low (first_of_both (expression_calls such low) (expression_calls such high) bounds) (first_of_both (expression_ranged shapes s low) (expression_ranged shapes s high && statements_ranged shapes s ss) behind),
          expression_suits high (second_of_both (expression_calls such low) (expression_calls such high) bounds) (first_of_both (expression_ranged shapes s high) (statements_ranged shapes s ss) last),
          statements_suit ss (second_of_both (expression_calls such low && expression_calls such high) (statements_call such ss) m) (second_of_both (expression_ranged shapes s high) (statements_ranged shapes s ss) last),
        )
    statement_suits (exit_when e) m r = expression_suits e m r
    statement_suits returns m r = tt
    statement_suits (returns_value e) m r =
        (first_of_both (result_given s.result e) (expression_ranged shapes s e) r, expression_suits e m (second_of_both (result_given s.result e) (expression_ranged shapes s e) r))
    statement_suits (raises exception) m r = tt
    statement_suits reraises m r = tt
    statement_suits (calls c es targets) m r =
        let behind = second_of_both (suit shapes s.operations c es) (expressions_ranged shapes s es && list_all (target_keeps s) targets) r in (
          first_of_both (such c) (expressions_call such es) m,
          first_of_both (suit shapes s.operations c es) (expressions_ranged shapes s es && list_all (target_keeps s) targets) r,
          expressions_suit es (second_of_both (such c) (expressions_call such es) m) (first_of_both (expressions_ranged shapes s es) (list_all (target_keeps s) targets) behind),
          second_of_both (expressions_ranged shapes s es) (list_all (target_keeps s) targets) behind,
        )

    pub statements_suit : (ss : Statements) → statements_call such ss ≡ true → statements_ranged shapes s ss ≡ true → StatementsSuit ss
    statements_suit no_statements m r = tt
    statements_suit (and_statement x ss) m r = (
      statement_suits x (first_of_both (statement_calls such x) (statements_call such ss) m) (first_of_both (statement_ranged shapes s x) (statements_ranged shapes s ss) r),
      statements_suit ss (second_of_both (statement_calls such x) (statements_call such ss) m) (second_of_both (statement_ranged shapes s x) (statements_ranged shapes s ss) r),
    )

    branches_suit : (bs : Branches) → branches_call such bs ≡ true → branches_ranged shapes s bs ≡ true → BranchesSuit bs
    branches_suit no_branches m r = tt
    branches_suit (and_branch e ss bs) m r =
        let here = first_of_both (expression_calls such e && statements_call such ss) (branches_call such bs) m in
        let own = first_of_both (expression_ranged shapes s e && statements_ranged shapes s ss) (branches_ranged shapes s bs) r in (
          expression_suits e (first_of_both (expression_calls such e) (statements_call such ss) here) (first_of_both (expression_ranged shapes s e) (statements_ranged shapes s ss) own),
          statements_suit ss (second_of_both (expression_calls such e) (statements_call such ss) here) (second_of_both (expression_ranged shapes s e) (statements_ranged shapes s ss) own),
          branches_suit bs (second_of_both (expression_calls such e && statements_call such ss) (branches_call such bs) m) (second_of_both (expression_ranged shapes s e && statements_ranged shapes s ss) (branches_ranged shapes s bs) r),
        )

    alternatives_suit : (more : Alternatives) → alternatives_call such more ≡ true → alternatives_ranged shapes s more ≡ true → AlternativesSuit more
    alternatives_suit no_alternatives m r = tt
    alternatives_suit (and_alternative choices ss more) m r = (
      statements_suit ss (first_of_both (statements_call such ss) (alternatives_call such more) m) (first_of_both (statements_ranged shapes s ss) (alternatives_ranged shapes s more) r),
      alternatives_suit more (second_of_both (statements_call such ss) (alternatives_call such more) m) (second_of_both (statements_ranged shapes s ss) (alternatives_ranged shapes s more) r),
    )

  -- bodies

  abbrev pub DeclarationsSuit : List Declaration → Type 0
  DeclarationsSuit [] = Unit {0}
  DeclarationsSuit (d ∷ ds) = (target_keeps s d.target ≡ true) × ExpressionSuits d.initial × DeclarationsSuit ds

  abbrev pub HandlersSuit : List Handler → Type 0
  HandlersSuit [] = Unit {0}
  HandlersSuit (h ∷ hs) = StatementsSuit h.statements × HandlersSuit hs

  pub record BodySuits (b : Body) : Type 0 where
    pub declarations : DeclarationsSuit b.declarations
    pub statements : StatementsSuit b.statements
    pub handlers : HandlersSuit b.handlers

  declarations_suit : (ds : List Declaration) → list_all (declaration_calls such) ds ≡ true → list_all (declaration_ranged shapes s) ds ≡ true → DeclarationsSuit ds
  declarations_suit [] m r = tt
  declarations_suit (d ∷ ds) m r =
      let here = first_of_both (declaration_ranged shapes s d) (list_all (declaration_ranged shapes s) ds) r in (
        first_of_both (target_keeps s d.target) (expression_ranged shapes s d.initial) here,
        expression_suits d.initial (first_of_both (declaration_calls such d) (list_all (declaration_calls such) ds) m) (second_of_both (target_keeps s d.target) (expression_ranged shapes s d.initial) here),
        declarations_suit ds (second_of_both (declaration_calls such d) (list_all (declaration_calls such) ds) m) (second_of_both (declaration_ranged shapes s d) (list_all (declaration_ranged shapes s) ds) r),
      )

  handlers_suit : (hs : List Handler) → list_all (handler_calls such) hs ≡ true → list_all (handler_ranged shapes s) hs ≡ true → HandlersSuit hs
  handlers_suit [] m r = tt
  handlers_suit (h ∷ hs) m r = (
    statements_suit h.statements (first_of_both (handler_calls such h) (list_all (handler_calls such) hs) m) (first_of_both (handler_ranged shapes s h) (list_all (handler_ranged shapes s) hs) r),
    handlers_suit hs (second_of_both (handler_calls such h) (list_all (handler_calls such) hs) m) (second_of_both (handler_ranged shapes s h) (list_all (handler_ranged shapes s) hs) r),
  )

  pub body_suits : (b : Body) → body_calls such b ≡ true → body_ranged shapes s b ≡ true → BodySuits b
  body_suits b m r =
      let m_behind = second_of_both (list_all (declaration_calls such) b.declarations) (statements_call such b.statements && list_all (handler_calls such) b.handlers) m in
      let r_behind = second_of_both (list_all (declaration_ranged shapes s) b.declarations) (statements_ranged shapes s b.statements && list_all (handler_ranged shapes s) b.handlers) r in
      record {
        declarations = declarations_suit b.declarations (first_of_both (list_all (declaration_calls such) b.declarations) (statements_call such b.statements && list_all (handler_calls such) b.handlers) m) (first_of_both (list_all (declaration_ranged shapes s) b.declarations) (statements_ranged shapes s b.statements && list_all (handler_ranged shapes s) b.handlers) r);
        statements = statements_suit b.statements (first_of_both (statements_call such b.statements) (list_all (handler_calls such) b.handlers) m_behind) (first_of_both (statements_ranged shapes s b.statements) (list_all (handler_ranged shapes s) b.handlers) r_behind);
        handlers = handlers_suit b.handlers (second_of_both (statements_call such b.statements) (list_all (handler_calls such) b.handlers) m_behind) (second_of_both (statements_ranged shapes s b.statements) (list_all (handler_ranged shapes s) b.handlers) r_behind);
      }
