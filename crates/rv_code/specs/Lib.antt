pub mod Callees
pub mod Expressions
pub mod ExpressionView
pub mod Statements
pub mod StatementView
pub mod Bodies
pub mod BodyView
