pub mod NamedRules
