pub mod Opening
pub mod Opens
pub mod Sound
mod ContentTests
mod Examples
