-- Why what is played is what the definition of the line says, and why sessions are carried through on it.
pub mod LineLaws
pub mod OneSided
pub mod BothCarried
pub mod Settling
