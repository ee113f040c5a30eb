pub mod Examples
pub mod Gathering
pub mod Planning
pub mod PlanCalls
pub mod ZeroPlans
