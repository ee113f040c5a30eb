pub mod Start
pub mod Examples
