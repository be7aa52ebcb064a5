-- The tree that an expression of the code stands for.
use Rattle.std.specs.Prelude.{List, map}
use Rattle.rv_code.specs.Expressions as t
use Rattle.rv_code.specs.declared.expression.Link.{Link, fold-Link}
use Rattle.rv_code.specs.declared.expression.Expression.{Expression, fold-Expression}
use Rattle.rv_code.specs.declared.expression.Expression.TheOpen.{Expression-F, Link-F}

abbrev pub expression_step : Expression-F t.Expression t.Link → t.Expression
expression_step (Expression-F.Value n) = t.literal n
expression_step (Expression-F.Variable slot) = t.variable slot
expression_step (Expression-F.Component index) = t.component index
expression_step (Expression-F.Prefixed op e) = t.prefixed op e.value
expression_step (Expression-F.Chain e ls) = t.chain e.value (t.links_of ls.items)
expression_step (Expression-F.Within range e) = t.within range e.value
expression_step (Expression-F.Call callee es) = t.call callee (t.expressions_of es.items)

abbrev pub link_step : Link-F t.Expression t.Link → t.Link
link_step l = record { operator = l.operator; operand = l.operand }

abbrev pub expression_view : Expression → t.Expression
expression_view = fold-Expression t.Expression t.Link expression_step link_step

abbrev pub expressions_view : List Expression → t.Expressions
expressions_view es = t.expressions_of (map expression_view es)

abbrev pub link_view : Link → t.Link
link_view = fold-Link t.Expression t.Link expression_step link_step

abbrev pub links_view : List Link → t.Links
links_view ls = t.links_of (map link_view ls)
