pub mod Found
pub mod InSys
pub mod LastOf
pub mod Members
pub mod Pushed
pub mod Rising
pub mod RowAt
