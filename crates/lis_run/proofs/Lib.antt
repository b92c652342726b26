pub mod CaptureLaws
pub mod HearingLaws
pub mod LineLaws
pub mod PlayingLaws
mod ReplayRows
pub mod ShowLaws
pub mod StepLaws
mod UpgradeRows
