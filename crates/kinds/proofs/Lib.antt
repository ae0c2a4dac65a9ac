-- What the proofs of several functions use; other crates cite it through the facade.
pub mod Coding
pub mod Betweens
pub mod Candidates
