-- Why a station that hears carefully does what one as the profile has it does on a line that loses more.
pub mod Answering
pub mod Pinned
