pub mod Reviews
