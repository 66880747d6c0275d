pub mod Plans
pub mod PlanLaws
pub mod PlanCodecs
