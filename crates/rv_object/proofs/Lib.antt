pub mod ActionsLemmas
