pub mod Drawing
mod Examples
