mod Calling
mod Examples
