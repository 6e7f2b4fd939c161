pub mod LeadsOn
