pub mod Layouts
pub mod Encodings
pub mod Decodings
mod Examples
