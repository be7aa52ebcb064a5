-- The types of the operators (4.5), passed on together.
pub use Rattle.rv_tree.specs.declared.expression.LogicalOperator.{LogicalOperator}
pub use Rattle.rv_tree.specs.declared.expression.RelationalOperator.{RelationalOperator}
pub use Rattle.rv_tree.specs.declared.expression.AddingOperator.{AddingOperator}
pub use Rattle.rv_tree.specs.declared.expression.MultiplyingOperator.{MultiplyingOperator}
pub use Rattle.rv_tree.specs.declared.expression.HighestOperator.{HighestOperator}
