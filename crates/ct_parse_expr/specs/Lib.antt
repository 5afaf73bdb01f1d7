pub mod Grammar
pub mod ReadExpr
pub mod Nests
