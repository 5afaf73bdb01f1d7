pub mod Condensing
pub mod Laws
pub mod Opening
pub mod Reading
pub mod Settling
pub mod Volume
