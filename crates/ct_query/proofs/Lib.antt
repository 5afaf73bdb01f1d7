pub mod Members
pub mod Through
pub mod JoinedRows
pub mod JoinLaws
pub mod KeyOrder
pub mod InOrder
pub mod OrderLaws
