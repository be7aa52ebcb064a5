pub mod Phrased
pub mod PrintsName
pub mod PrintsExpression
pub mod PrintsDeclaration
pub mod PrintsStatement
pub mod PrintsSome
pub mod PrintsUnit
pub mod Begins
