pub mod Child
