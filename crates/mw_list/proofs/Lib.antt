pub mod Conjunctions
