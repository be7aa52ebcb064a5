-- An `exit` stands in a loop, and a `raise` without a name in an exception handler (ISO/IEC 8652:2012, 5.7, 11.3).
use Rattle.std.specs.Prelude.{Bool, true, false, ◌&&◌, ◌||◌, is_some, Option, Some, None}
use Rattle.std.specs.List.{list_all}
use Rattle.rv_tree.specs.Statements.{Statement, null_statement, assignment, call_statement, if_statement, case_statement, loop_statement, exit_statement, return_statement, raise_statement, delay_statement, abort_statement, requeue_statement, accept_statement, select_statement, Statements, no_statements, and_statement, ElsifParts, no_elsif_parts, and_elsif_part, Alternatives, no_alternatives, and_alternative}
use Rattle.rv_tree.specs.Bodies.{Handler, Block, OperationBody}
use Rattle.rv_tree.specs.Units.{BodyItem, body_declaration, body_protected, body_task, UnitTree}
use Rattle.rv_tree.specs.Operations.{operation_body_block}

-- in a loop or not, and in a handler or not
abbrev mutual
  pub is_placed : (in_loop in_handler : Bool) → Statement → Bool
  is_placed in_loop in_handler (exit_statement at condition) = in_loop
  is_placed in_loop in_handler (raise_statement at exception) = is_some exception || in_handler
  is_placed in_loop in_handler (loop_statement at iteration ss) = are_placed true in_handler ss
  is_placed in_loop in_handler (if_statement at condition ss parts otherwise) =
      are_placed in_loop in_handler ss && parts_are_placed in_loop in_handler parts && are_placed in_loop in_handler otherwise
  is_placed in_loop in_handler (case_statement at selector alternatives) = alternatives_are_placed in_loop in_handler alternatives
  is_placed in_loop in_handler (null_statement at) = true
  is_placed in_loop in_handler (assignment n e) = true
  is_placed in_loop in_handler (call_statement n es) = true
  is_placed in_loop in_handler (return_statement at e) = true
  is_placed in_loop in_handler (delay_statement at is_until e) = true
  is_placed in_loop in_handler (abort_statement at names) = true
  is_placed in_loop in_handler (requeue_statement at target with_abort) = true
  is_placed in_loop in_handler (accept_statement at entry parameters ss end_name) = true
  is_placed in_loop in_handler (select_statement at alternatives otherwise aborted) = true

  pub are_placed : (in_loop in_handler : Bool) → Statements → Bool
  are_placed in_loop in_handler no_statements = true
  are_placed in_loop in_handler (and_statement s ss) = is_placed in_loop in_handler s && are_placed in_loop in_handler ss

  pub parts_are_placed : (in_loop in_handler : Bool) → ElsifParts → Bool
  parts_are_placed in_loop in_handler no_elsif_parts = true
  parts_are_placed in_loop in_handler (and_elsif_part at condition ss parts) =
      are_placed in_loop in_handler ss && parts_are_placed in_loop in_handler parts

  pub alternatives_are_placed : (in_loop in_handler : Bool) → Alternatives → Bool
  alternatives_are_placed in_loop in_handler no_alternatives = true
  alternatives_are_placed in_loop in_handler (and_alternative at choices ss more) =
      are_placed in_loop in_handler ss && alternatives_are_placed in_loop in_handler more

abbrev pub handler_is_placed : Handler → Bool
handler_is_placed handler = are_placed false true handler.statements

abbrev pub block_is_placed : Block → Bool
block_is_placed block = are_placed false false block.statements && list_all handler_is_placed block.handlers

abbrev pub operation_is_placed : OperationBody → Bool
operation_is_placed body = block_is_placed (operation_body_block body)

abbrev pub item_is_placed : BodyItem → Bool
item_is_placed (body_declaration one) = true
item_is_placed (body_protected body) = list_all operation_is_placed body.operations
item_is_placed (body_task body) = block_is_placed body.block

-- each `exit` and each `raise` of a text
abbrev pub unit_is_placed : UnitTree → Bool
unit_is_placed tree = list_all item_is_placed tree.body.items
