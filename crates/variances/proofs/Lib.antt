mod Covariances
mod Extremes
mod Measuring
mod Answering
mod Examples
