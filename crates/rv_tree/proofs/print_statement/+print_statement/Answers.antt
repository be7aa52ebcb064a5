use Rattle.std.proofs.Common.{rules, ◌<◌, length, arith}
use Rattle.rv_tree.specs.NameView.{identifier_view}
use Rattle.rv_tree.specs.DeclarationView.{maybe}
use Rattle.rv_tree.proofs.PrintsSome.{else_some, accept_some, abort_some}
use Rattle.rv_tree.proofs.print_statement.+print_statement.Goals as goal

pub print_accept_body-returns-in_ok-kind-in-len1-up-2 :
    goal.print_accept_body-returns-in_ok-kind-in-len1-up-2
print_accept_body-returns-in_ok-kind-in-len1-up-2 t c =
    let some : 0 < length c.args.statements.now.items = omega (arith, c.in-len1-up.len_at_least, c.as_slice.ensures.len) in
    let is = accept_some c.args.statements.now.items (maybe identifier_view c.args.end_name.now) c.args.out.now some in
    search (rules, is)

pub print_else-returns-in_ok-kind-in-len1-up : goal.print_else-returns-in_ok-kind-in-len1-up
print_else-returns-in_ok-kind-in-len1-up t c =
    let some : 0 < length c.args.statements.now.items = omega (arith, c.in-len1-up.len_at_least, c.as_slice.ensures.len) in
    let is = else_some c.args.statements.now.items c.args.out.now some in
    search (rules, is)

pub print_then_abort-returns-in_ok-kind-in-len1-up-2 :
    goal.print_then_abort-returns-in_ok-kind-in-len1-up-2
print_then_abort-returns-in_ok-kind-in-len1-up-2 t c =
    let some : 0 < length c.args.statements.now.items = omega (arith, c.in-len1-up.len_at_least, c.as_slice.ensures.len) in
    let is = abort_some c.args.statements.now.items c.args.out.now some in
    search (rules, is)
