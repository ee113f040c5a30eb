pub mod Starting
mod Examples
