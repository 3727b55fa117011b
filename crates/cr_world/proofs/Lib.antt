pub mod Allocated
pub mod ExampleKnown
pub mod ExampleTexts
pub mod ExampleWorlds
pub mod KnownLaws
pub mod TextLaws
