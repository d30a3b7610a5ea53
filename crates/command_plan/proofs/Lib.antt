pub mod PlanTexts
pub mod PlanEnds
pub mod Starts
pub mod GroupCertificates
pub mod CheckCauses
