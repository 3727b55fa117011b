pub mod Agrees
pub mod Coded
pub mod Laws
pub mod Lifted
pub mod StandsFor
