pub mod LawsHeld
pub mod LawsLives
pub mod LawsSteps
pub mod LawsStored
pub mod LawsVacant
pub mod Rooms
