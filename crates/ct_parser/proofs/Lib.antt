pub mod StatementLaws
pub mod SelectLaws
pub mod Exactness
pub mod OneAnswer
