pub mod PlanFault
