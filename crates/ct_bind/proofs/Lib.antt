pub mod Few
pub mod Limited
pub mod Items
