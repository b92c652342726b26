pub mod CarriedLaws
pub mod UpgradeLaws
