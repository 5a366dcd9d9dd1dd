pub mod Numbers
pub mod Items
pub mod Laws
pub mod Moved
