pub mod Sessions
pub mod SetDeclare
