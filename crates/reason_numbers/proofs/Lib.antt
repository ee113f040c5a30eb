mod Replying
mod Examples
