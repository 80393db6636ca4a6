pub mod Naming
pub mod PlanEnds
pub mod PlanPrinting
pub mod PlanRuns
pub mod PlanStatuses
pub mod Trials
pub use Rattle.plan_rules
