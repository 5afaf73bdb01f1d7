pub mod Agrees
pub mod Cleanup
pub mod Deletes
pub mod Laws
pub mod RowVersions
pub mod Rows
pub mod Tells
