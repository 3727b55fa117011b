pub mod Given
pub mod HasItems
pub mod Laws
