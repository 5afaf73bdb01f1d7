pub mod Grammar
pub mod ReadDdl
