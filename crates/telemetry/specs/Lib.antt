pub mod Made
pub mod Reports
