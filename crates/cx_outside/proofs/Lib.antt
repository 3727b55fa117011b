pub mod Begun
pub mod Effect
pub mod Effected
pub mod Given
pub mod Heap
pub mod Opaque
pub mod Written
pub mod Wanting
